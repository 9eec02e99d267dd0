-- Laws of `same`, equality of lists of numbers as a test. Assumes nothing.
use mathlib.Core.Path.{◌≡◌, refl, ap, ap₂}
use mathlib.Core.Bool.{Bool, true, ◌&&◌}
use mathlib.Core.List.{List, [], ◌∷◌, map}
use Prim.Native.Nat.{ℕ}
use lib.Dec.{eqb}
use borrow.Author.Tests.{eqb-true}
use Rattle.lists.specs.Lists.{all, same}
use Rattle.lists.proofs.Tests.{clash, and_l, and_r, and_both, eqb_refl, eqb-sym}

pub same_refl : (xs : List ℕ) → same xs xs ≡ true
unfolding same
same_refl [] = refl
same_refl (x ∷ xs) = and_both (eqb x x) (same xs xs) (eqb_refl x) (same_refl xs)

pub same_true : (xs ys : List ℕ) → same xs ys ≡ true → xs ≡ ys
unfolding same
same_true [] [] e = refl
same_true [] (y ∷ ys) e = clash e refl
same_true (x ∷ xs) [] e = clash e refl
same_true (x ∷ xs) (y ∷ ys) e =
    ap₂ (λ (n : ℕ) (l : List ℕ). n ∷ l) (eqb-true x y (and_l (eqb x y) (same xs ys) e)) (same_true xs ys (and_r (eqb x y) (same xs ys) e))

pub eq-same : (xs ys : List ℕ) → xs ≡ ys → same xs ys ≡ true
eq-same xs ys e = rw e (same_refl ys)

pub same-sym : (xs ys : List ℕ) → same xs ys ≡ same ys xs
unfolding same
same-sym [] [] = refl
same-sym [] (y ∷ ys) = refl
same-sym (x ∷ xs) [] = refl
same-sym (x ∷ xs) (y ∷ ys) = ap₂ (λ (a b : Bool). a && b) (eqb-sym x y) (same-sym xs ys)

-- Two images of one list are equal where they are equal at each element.
pub same_map : (f h : ℕ → ℕ) (xs : List ℕ) → same (map f xs) (map h xs) ≡ all (λ (x : ℕ). eqb (f x) (h x)) xs
unfolding same all
same_map f h [] = refl
same_map f h (x ∷ xs) = ap (λ (b : Bool). eqb (f x) (h x) && b) (same_map f h xs)
