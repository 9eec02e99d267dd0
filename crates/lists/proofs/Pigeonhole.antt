-- The pigeonhole law: where numbers that are told apart all occur in a list no longer than theirs, that list has no others.
-- Assumes nothing.
use mathlib.Core.Path.{◌≡◌, refl, sym, ◌∙◌, ap, fun_ext, subst}
use mathlib.Core.Bool.{Bool, true}
use mathlib.Core.List.{List, [], ◌∷◌}
use Prim.Native.Nat.{ℕ, ◌≤◌, ◌<◌}
use native.Mathlib.Omega.{arith}
use lib.Dec.{eqb, ltb}
use lib.ListN.{length}
use borrow.Author.Tests.{eqb-true, ltb-true, lt-ltb}
use Rattle.lists.specs.Lists.{all, any, count_if, total}
use Rattle.lists.proofs.Tests.{and_l, and_r, and_both, eqb_refl, eqb-sym}
use Rattle.lists.proofs.All.{all-mem, mem-any}
use Rattle.lists.proofs.Count.{total-swap}
use Rattle.lists.proofs.Any.{any-count, any_some}

module _ {A : Type 0} (f : A → ℕ) where
  -- Numbers of at least 1 sum to no less than there are of them,
  total-many : (xs : List A) → all (λ x. ltb 0 (f x)) xs ≡ true → length xs ≤ total f xs
  unfolding all total
  total-many [] e = omega arith
  total-many (x ∷ xs) e =
      let ih : length xs ≤ total f xs = total-many xs (and_r (ltb 0 (f x)) (all (λ y. ltb 0 (f y)) xs) e) in
      let l : 0 < f x = ltb-true 0 (f x) (and_l (ltb 0 (f x)) (all (λ y. ltb 0 (f y)) xs) e) in
      omega arith

  -- numbers of at most 1 to no more,
  total-few : (xs : List A) → ((x : A) → f x ≤ 1) → total f xs ≤ length xs
  unfolding total
  total-few [] h = omega arith
  total-few (x ∷ xs) h = let ih : total f xs ≤ length xs = total-few xs h in omega (arith, h x)

  -- and where these sum to no less, none of them is 0.
  total-full : (xs : List A) → ((x : A) → f x ≤ 1) → length xs ≤ total f xs → all (λ x. ltb 0 (f x)) xs ≡ true
  unfolding all total
  total-full [] h l = refl
  total-full (x ∷ xs) h l =
      and_both (ltb 0 (f x)) (all (λ y. ltb 0 (f y)) xs) (lt-ltb 0 (f x) (omega (arith, total-few xs h))) (total-full xs h (omega (arith, h x)))

module _
    (xs ys : List ℕ)
    (once : (k : ℕ) → count_if (λ (j : ℕ). eqb j k) xs ≤ 1)
    (occurs : (k : ℕ) → any (λ (j : ℕ). eqb j k) xs ≡ true → any (λ (j : ℕ). eqb j k) ys ≡ true)
    (short : length ys ≤ length xs) where
  -- Equal pairs, counted by the first list: at least one for each of its numbers.
  pairs : length xs ≤ total (λ (x : ℕ). count_if (λ (y : ℕ). eqb x y) ys) xs
  pairs =
      total-many (λ (x : ℕ). count_if (λ (y : ℕ). eqb x y) ys) xs
      (all-mem (λ (x : ℕ). ltb 0 (count_if (λ (y : ℕ). eqb x y) ys)) xs
      (λ x i.
      ap (λ (p : ℕ → Bool). ltb 0 (count_if p ys)) (fun_ext (λ (y : ℕ). eqb-sym x y))
      ∙ sym (any-count (λ (y : ℕ). eqb y x) ys)
      ∙ occurs x (mem-any (λ (j : ℕ). eqb j x) i (eqb_refl x))))

  -- Counted by the second, at most one for each of its numbers: so each has one.
  covered : all (λ (y : ℕ). ltb 0 (count_if (λ (x : ℕ). eqb x y) xs)) ys ≡ true
  covered =
      total-full (λ (y : ℕ). count_if (λ (x : ℕ). eqb x y) xs) ys once
      (omega (arith, short, pairs, total-swap (λ (x y : ℕ). eqb x y) xs ys))

  pub pigeonhole : (k : ℕ) → any (λ (j : ℕ). eqb j k) ys ≡ true → any (λ (j : ℕ). eqb j k) xs ≡ true
  pigeonhole k t =
      any_some (λ (y : ℕ). ltb 0 (count_if (λ (x : ℕ). eqb x y) xs)) (λ (j : ℕ). eqb j k) ys covered t
      (λ y s e. any-count (λ (j : ℕ). eqb j k) xs ∙ subst (λ (i : ℕ). ltb 0 (count_if (λ (x : ℕ). eqb x i) xs) ≡ true) (eqb-true y k e) s)
