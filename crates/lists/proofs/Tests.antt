-- Laws of tests. Assumes nothing.
use mathlib.Core.Path.{◌≡◌, refl, sym, ◌∙◌}
use mathlib.Core.Bool.{Bool, true, false, not, cond, ◌&&◌, ◌||◌, true≢false}
use Prim.Native.Nat.{ℕ}
use lib.Dec.{eqb}
use borrow.Author.Tests.{eqb-true, eq-eqb}
use Rattle.lists.specs.Lists.{◌implies◌, bit}

-- No test both passes and fails.
pub clash : {A : Type 0} {b : Bool} → b ≡ true → b ≡ false → A
clash p q = absurd (true≢false (sym p ∙ q))

-- Two tests that imply each other are one.
pub iff : (a b : Bool) → (a ≡ true → b ≡ true) → (b ≡ true → a ≡ true) → a ≡ b
iff true true f g = refl
iff true false f g = clash (f refl) refl
iff false true f g = clash (g refl) refl
iff false false f g = refl

-- A test that does not pass fails.
pub fails : (a : Bool) → (a ≡ true → ⊥) → a ≡ false
fails true h = absurd (h refl)
fails false h = refl

pub and_l : (a b : Bool) → (a && b) ≡ true → a ≡ true
and_l true b e = refl
and_l false b e = e

pub and_r : (a b : Bool) → (a && b) ≡ true → b ≡ true
and_r true b e = e
and_r false b e = clash e refl

pub and_both : (a b : Bool) → a ≡ true → b ≡ true → (a && b) ≡ true
and_both true b p q = q
and_both false b p q = p

pub and-turn : (a b c : Bool) → (a && (b && c)) ≡ (c && (a && b))
and-turn true true true = refl
and-turn true true false = refl
and-turn true false true = refl
and-turn true false false = refl
and-turn false b true = refl
and-turn false b false = refl

pub and-left-comm : (a b c : Bool) → (a && (b && c)) ≡ (b && (a && c))
and-left-comm true true c = refl
and-left-comm true false c = refl
and-left-comm false true c = refl
and-left-comm false false c = refl

pub imp_use : (a b : Bool) → (a implies b) ≡ true → a ≡ true → b ≡ true
imp_use true b e p = e
imp_use false b e p = clash p refl

pub imp_intro : (a b : Bool) → (a ≡ true → b ≡ true) → (a implies b) ≡ true
imp_intro true b f = f refl
imp_intro false b f = refl

pub or_intro_l : (a b : Bool) → a ≡ true → (a || b) ≡ true
or_intro_l true b e = refl
or_intro_l false b e = clash e refl

pub or_intro_r : (a b : Bool) → b ≡ true → (a || b) ≡ true
or_intro_r true b e = refl
or_intro_r false b e = e

pub or_elim : {A : Type 0} (a b : Bool) → (a || b) ≡ true → (a ≡ true → A) → (b ≡ true → A) → A
or_elim true b e f g = f refl
or_elim false b e f g = g e

pub or-false : (a b : Bool) → a ≡ false → b ≡ false → (a || b) ≡ false
or-false true b p q = p
or-false false b p q = q

pub or-false-l : (a b : Bool) → (a || b) ≡ false → a ≡ false
or-false-l true b e = e
or-false-l false b e = refl

pub or-false-r : (a b : Bool) → (a || b) ≡ false → b ≡ false
or-false-r true b e = clash refl e
or-false-r false b e = e

pub not-true : (a : Bool) → not a ≡ true → a ≡ false
not-true true e = clash e refl
not-true false e = refl

pub not-false : (a : Bool) → not a ≡ false → a ≡ true
not-false true e = refl
not-false false e = clash refl e

pub imp_or : (a b h : Bool) → (a || b implies h) ≡ ((a implies h) && (b implies h))
imp_or true true true = refl
imp_or true true false = refl
imp_or true false true = refl
imp_or true false false = refl
imp_or false b h = refl

pub bit_and : (a b : Bool) → bit (a && b) ≡ cond b (bit a) 0
bit_and true true = refl
bit_and true false = refl
bit_and false true = refl
bit_and false false = refl

-- Equality of numbers as a test is symmetric, and passes of a number and itself.
pub eqb_refl : (n : ℕ) → eqb n n ≡ true
eqb_refl n = eq-eqb n n refl

pub eqb-sym : (m n : ℕ) → eqb m n ≡ eqb n m
eqb-sym m n =
    iff (eqb m n) (eqb n m) (λ e. eq-eqb n m (sym (eqb-true m n e))) (λ e. eq-eqb m n (sym (eqb-true n m e)))
