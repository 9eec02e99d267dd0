-- Words whose bits are gathered: one is above 65,535 exactly where the gathered number is. Assumes nothing.
use mathlib.Core.Path.{◌≡◌, refl, sym, ◌∙◌, ap}
use mathlib.Core.Bool.{Bool, true, false, ◌||◌, or-false}
use mathlib.Core.List.{List, [], ◌∷◌}
use Prim.Native.Nat.{ℕ, ◌+◌, ◌≤◌, ◌<◌, ◌^◌}
use native.Mathlib.Numerals.{add-one}
use native.Mathlib.Omega.{arith}
use lib.Dec.{ltb}
use lib.Bits.{bit_or, or_lt, or_add_and, and_le_l, and_le_r}
use lib.ListN.{length, get_or, take}
use lib.Seq.{take-suc, take_all}
use borrow.Author.Tests.{ltb-true, ltb-false, lt-ltb, le-ltb}
use Rattle.lists.specs.Lists.{any}
use Rattle.lists.proofs.Any.{any_append}
use Rattle.sheet.specs.Page.{max_word}

abbrev large : ℕ → Bool
large w = ltb max_word w

-- The bits of two numbers together.
or_large : (a b : ℕ) → large (bit_or a b) ≡ (large a || large b)
or_large a b = go (large a) (large b) refl refl
  where
    go : (p q : Bool) → large a ≡ p → large b ≡ q → large (bit_or a b) ≡ (p || q)
    go true q e f =
        let l : max_word < a = ltb-true max_word a e in
        lt-ltb max_word (bit_or a b) (omega (arith, or_add_and a b, and_le_r a b))
    go false true e f =
        let l : max_word < b = ltb-true max_word b f in
        lt-ltb max_word (bit_or a b) (omega (arith, or_add_and a b, and_le_l a b))
    go false false e f =
        let l : a ≤ max_word = ltb-false max_word a e in
        let m : b ≤ max_word = ltb-false max_word b f in
        let both : bit_or a b < 2 ^ 16 = or_lt 16 a b (omega arith) (omega arith) in
        le-ltb max_word (bit_or a b) (omega arith)

-- The first i words, their bits gathered.
abbrev pub Gathered : List ℕ → ℕ → ℕ → Type 0
Gathered words seen i = large seen ≡ any large (take i words)

pub gathered_none : (words : List ℕ) → Gathered words 0 0
unfolding any
gathered_none [] = refl
gathered_none (w ∷ words) = refl

pub gathered_next : (words : List ℕ) (seen i : ℕ) → i < length words → Gathered words seen i
    → Gathered words (bit_or seen (get_or words i 0)) (i + 1)
unfolding any
gathered_next words seen i h g =
    or_large seen (get_or words i 0)
    ∙ ap (λ (b : Bool). b || large (get_or words i 0)) g
    ∙ ap (λ (b : Bool). any large (take i words) || b) (sym (or-false (large (get_or words i 0))))
    ∙ sym (any_append large (take i words) (get_or words i 0 ∷ []))
    ∙ ap (any large) (sym (ap (λ (k : ℕ). take k words) (add-one i) ∙ take-suc words i 0 h))

pub gathered-all : (words : List ℕ) (seen i : ℕ) → length words ≤ i → Gathered words seen i → large seen ≡ any large words
gathered-all words seen i h g = g ∙ ap (any large) (take_all i words h)
