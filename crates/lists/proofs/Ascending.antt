-- Laws of ascending lists: their parts, one after another, and the numbers below n. Those of what is kept and of images are in `Sort`.
-- Assumes nothing.
use mathlib.Core.Path.{◌≡◌, refl, sym, ◌∙◌, ap}
use mathlib.Core.Logic.{◌⊎◌, inl, inr}
use mathlib.Core.Bool.{true, false, not}
use mathlib.Core.List.{List, [], ◌∷◌, ◌++◌, map-id}
use Prim.Native.Nat.{ℕ, zero, suc, ◌≤◌, ◌<◌}
use native.Mathlib.Nat.{eq-or-lt_of_le, le_of_suc-le-suc, not-suc-le-zero}
use native.Mathlib.Omega.{arith}
use lib.Dec.{ltb}
use lib.ListN.{length, get_or, take, drop}
use borrow.Author.Tests.{ltb-true, ltb-false, lt-ltb}
use Rattle.lists.specs.Lists.{range, all, ascends_from, ascending}
use Rattle.lists.proofs.Tests.{and_l, and_r, and_both, not-true}
use Rattle.lists.proofs.All.{all_append, all-follows}
use Rattle.lists.proofs.Sort.{ascends-above, ascends-tail, ascends-from, ascending-at}
use Rattle.lists.proofs.Maps.{ascending-image}

-- A part of an ascending list ascends.
pub ascending-drop : (n : ℕ) (s : List ℕ) → ascending s ≡ true → ascending (drop n s) ≡ true
unfolding ascending
ascending-drop zero s e = e
ascending-drop (suc n) [] e = refl
ascending-drop (suc n) (w ∷ s) e = ascending-drop n s (ascends-tail w s e)

ascends-take : (n v : ℕ) (s : List ℕ) → ascends_from v s ≡ true → ascends_from v (take n s) ≡ true
unfolding ascends_from
ascends-take zero v s e = refl
ascends-take (suc n) v [] e = refl
ascends-take (suc n) v (w ∷ s) e =
    and_both (ltb v w) (ascends_from w (take n s)) (and_l (ltb v w) (ascends_from w s) e) (ascends-take n w s (and_r (ltb v w) (ascends_from w s) e))

pub ascending-take : (n : ℕ) (s : List ℕ) → ascending s ≡ true → ascending (take n s) ≡ true
unfolding ascending
ascending-take zero s e = refl
ascending-take (suc n) [] e = refl
ascending-take (suc n) (w ∷ s) e = ascends-take n w s e

pub ascending-part : (a n : ℕ) (s : List ℕ) → ascending s ≡ true → ascending (take n (drop a s)) ≡ true
ascending-part a n s e = ascending-take n (drop a s) (ascending-drop a s e)

-- Each number but the first is above the first, and so above x where the first is not below x.
pub ascending-above : (w : ℕ) (s : List ℕ) → ascending (w ∷ s) ≡ true → all (ltb w) s ≡ true
unfolding ascending
ascending-above w s e = ascends-above w s e

pub ascending-rest : (x w : ℕ) (s : List ℕ) → ascending (w ∷ s) ≡ true → ltb w x ≡ false → all (ltb x) s ≡ true
ascending-rest x w s e h =
    all-follows (ltb w) (ltb x) s (ascending-above w s e) (λ v l. lt-ltb x v (omega (arith, ltb-true w v l, ltb-false w x h)))

pub ascending-range : (n : ℕ) → ascending (range n) ≡ true
ascending-range n = ap ascending (sym (map-id (range n))) ∙ ascending-image (λ (i : ℕ). i) n (λ i h. omega arith)

-- A later number of an ascending list is larger.
pub ascending-later : (xs : List ℕ) → ascending xs ≡ true → (i k : ℕ) → i < k → k < length xs → get_or xs i 0 < get_or xs k 0
ascending-later xs up i zero h l = absurd (not-suc-le-zero h)
ascending-later xs up i (suc k) h l = go (ascending-later xs up i k) (eq-or-lt_of_le (le_of_suc-le-suc h))
  where
    go : (i < k → k < length xs → get_or xs i 0 < get_or xs k 0) → (i ≡ k) ⊎ (i < k) → get_or xs i 0 < get_or xs (suc k) 0
    go f (inl e) = rw e (ascending-at xs up k l)
    go f (inr m) = omega (arith, f m (omega arith), ascending-at xs up k l)

-- Two ascending lists follow each other where the first is below a number and the second is not.
pub ascending-append : (t : ℕ) (xs ys : List ℕ) → ascending xs ≡ true → ascending ys ≡ true
    → all (λ (x : ℕ). ltb x t) xs ≡ true → all (λ (y : ℕ). not (ltb y t)) ys ≡ true → ascending (xs ++ ys) ≡ true
unfolding ascending all
ascending-append t [] ys p q a b = q
ascending-append t (x ∷ xs) ys p q a b =
    ascends-from x (xs ++ ys)
    (ascending-append t xs ys (ascends-tail x xs p) q (and_r (ltb x t) (all (λ (x : ℕ). ltb x t) xs) a) b)
    (all_append (λ (y : ℕ). ltb x y) xs ys
    ∙ and_both (all (λ (y : ℕ). ltb x y) xs) (all (λ (y : ℕ). ltb x y) ys) (ascends-above x xs p)
    (all-follows (λ (y : ℕ). not (ltb y t)) (λ (y : ℕ). ltb x y) ys b
    (λ y h.
    let i : x < t = ltb-true x t (and_l (ltb x t) (all (λ (x : ℕ). ltb x t) xs) a) in
    let j : t ≤ y = ltb-false y t (not-true (ltb y t) h) in
    lt-ltb x y (omega arith))))
