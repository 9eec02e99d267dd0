-- A part after its first i words were written from a source, word by word. Assumes nothing.
use mathlib.Core.Path.{◌≡◌, refl, ◌∙◌, ap, subst}
use mathlib.Core.List.{List, [], ◌∷◌, ◌++◌, append_assoc}
use Prim.Native.Nat.{ℕ, suc, ◌+◌, ◌-◌, ◌≤◌, ◌<◌}
use native.Mathlib.Numerals.{add-one}
use native.Mathlib.Omega.{arith}
use lib.ListN.{length, get_or, take, drop, set, length-set}
use lib.Seq.{length-take-le, take-suc, drop-cons, set_at, get_or-drop, get_or-append-add}

pub record Copied (src before after : List ℕ) (i : ℕ) : Type 0 where
  pub words : after ≡ take i src ++ drop i before
  pub kept : length after ≡ length before

pub start : (src before : List ℕ) → Copied src before before 0
start src before = record { words = refl; kept = refl }

pub next : (src before after : List ℕ) (i x : ℕ) → i < length src → i < length before → x ≡ get_or src i 0 → Copied src before after i → Copied src before (set after i x) (i + 1)
next src before after i x h k e c =
    record {
      words =
          ap (λ (l : List ℕ). set l i x) (c.words ∙ ap (λ (l : List ℕ). take i src ++ l) (drop-cons before i 0 k))
          ∙ set_at (take i src) (get_or before i 0) (drop (suc i) before) x i (length-take-le i src (omega arith))
          ∙ rw (add-one i, take-suc src i 0 h, e, append_assoc (take i src) (get_or src i 0 ∷ []) (drop (suc i) before)) refl;
      kept = length-set after i x ∙ c.kept;
    }

-- A word of the part that is still its old one.
pub still : (src before after : List ℕ) (i j : ℕ) → i ≤ length src → Copied src before after i → get_or after (i + j) 0 ≡ get_or before (i + j) 0
still src before after i j h c =
    ap (λ (l : List ℕ). get_or l (i + j) 0) c.words
    ∙ subst (λ (n : ℕ). get_or (take i src ++ drop i before) (n + j) 0 ≡ get_or before (i + j) 0) (length-take-le i src h)
    (get_or-append-add (take i src) (drop i before) j 0 ∙ get_or-drop i before j 0)

-- All of them are written: the source's words, then the old ones.
pub done : (src before after : List ℕ) (i n : ℕ) → i ≤ n → n ≤ i → Copied src before after i → after ≡ take n src ++ drop n before
done src before after i n h k c = subst (λ (m : ℕ). after ≡ take m src ++ drop m before) (native.Mathlib.Nat.le_antisymm h k) c.words
