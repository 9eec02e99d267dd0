-- Laws of `any`. Assumes nothing.
use mathlib.Core.Path.{◌≡◌, refl, sym, ◌∙◌, ap}
use mathlib.Core.Logic.{◌⊎◌, inl, inr}
use mathlib.Core.Bool.{Bool, true, false, not, ◌&&◌, ◌||◌, or_assoc, or-false}
use mathlib.Core.List.{List, [], ◌∷◌, ◌++◌, map, flat_map}
use Prim.Native.Nat.{ℕ, zero, suc, ◌+◌, ◌<◌}
use native.Mathlib.Nat.{eq-or-lt_of_le, le_of_suc-le-suc, not-suc-le-zero}
use native.Mathlib.Omega.{arith}
use lib.Dec.{ltb}
use borrow.Author.Tests.{ltb-true, lt-ltb}
use Rattle.lists.specs.Lists.{bit, range, all, any, keep, count_if}
use Rattle.lists.proofs.Tests.{clash, and_l, and_r, or_intro_l, or_intro_r, or_elim}
use Rattle.lists.proofs.All.{all_true, all-range}
use Rattle.lists.proofs.Count.{count_map, count-keep, count_under}
use Rattle.lists.proofs.Maps.{image-suc}

-- Some element passes where at least one does.
pub any-count : {A : Type 0} (p : A → Bool) (xs : List A) → any p xs ≡ ltb 0 (count_if p xs)
unfolding any count_if
any-count p [] = refl
any-count p (x ∷ xs) = go (p x) (any-count p xs)
  where
    go : (b : Bool) → any p xs ≡ ltb 0 (count_if p xs) → (b || any p xs) ≡ ltb 0 (bit b + count_if p xs)
    go true e = sym (lt-ltb 0 (1 + count_if p xs) (omega arith))
    go false e = e ∙ ap (ltb 0) (let z : count_if p xs ≡ 0 + count_if p xs = omega arith in z)

-- Tests that agree on each element that passes s agree on whether some element of a list of such elements passes.
pub any-under : {A : Type 0} (s p r : A → Bool) (xs : List A) → all s xs ≡ true → ((x : A) → s x ≡ true → p x ≡ r x) → any p xs ≡ any r xs
any-under s p r xs e h = any-count p xs ∙ ap (ltb 0) (count_under s p r xs e h) ∙ sym (any-count r xs)

pub any-map : {A B : Type 0} (p : B → Bool) (f : A → B) (xs : List A) → any p (map f xs) ≡ any (λ x. p (f x)) xs
any-map p f xs = any-count p (map f xs) ∙ ap (ltb 0) (count_map p f xs) ∙ sym (any-count (λ x. p (f x)) xs)

pub any_append : {A : Type 0} (p : A → Bool) (xs ys : List A) → any p (xs ++ ys) ≡ (any p xs || any p ys)
unfolding any
any_append p [] ys = refl
any_append p (x ∷ xs) ys = ap (λ (b : Bool). p x || b) (any_append p xs ys) ∙ sym (or_assoc (p x) (any p xs) (any p ys))

pub any-flat_map : {A B : Type 0} (p : B → Bool) (f : A → List B) (xs : List A) → any p (flat_map f xs) ≡ any (λ x. any p (f x)) xs
unfolding any flat_map
any-flat_map p f [] = refl
any-flat_map p f (x ∷ xs) = any_append p (f x) (flat_map f xs) ∙ ap (λ (b : Bool). any p (f x) || b) (any-flat_map p f xs)

-- Some element passes among those that are kept.
pub any-keep : {A : Type 0} (p r : A → Bool) (xs : List A) → any p (keep r xs) ≡ any (λ x. r x && p x) xs
any-keep p r xs = any-count p (keep r xs) ∙ ap (ltb 0) (count-keep p r xs) ∙ sym (any-count (λ x. r x && p x) xs)

pub any-ext : {A : Type 0} (p r : A → Bool) (xs : List A) → ((x : A) → p x ≡ r x) → any p xs ≡ any r xs
any-ext p r xs h = any-under (λ x. true) p r xs (all_true xs) (λ x t. h x)

-- What follows from one element that passes p, in a list of elements that pass s, follows where some element passes.
pub any_some : {A R : Type 0} (s p : A → Bool) (xs : List A) → all s xs ≡ true → any p xs ≡ true → ((x : A) → s x ≡ true → p x ≡ true → R) → R
unfolding any all
any_some s p [] e t h = clash t refl
any_some s p (x ∷ xs) e t h =
    or_elim (p x) (any p xs) t (λ u. h x (and_l (s x) (all s xs) e) u) (λ u. any_some s p xs (and_r (s x) (all s xs) e) u h)

pub any-follows : {A : Type 0} (p r : A → Bool) (xs : List A) → any p xs ≡ true → ((x : A) → p x ≡ true → r x ≡ true) → any r xs ≡ true
unfolding any
any-follows p r [] t h = t
any-follows p r (x ∷ xs) t h =
    or_elim (p x) (any p xs) t (λ u. or_intro_l (r x) (any r xs) (h x u)) (λ u. or_intro_r (r x) (any r xs) (any-follows p r xs u h))

-- Where the elements pass a test r that those of p fail, none passes p.
pub any-fails : {A : Type 0} (p r : A → Bool) (xs : List A) → all r xs ≡ true → ((x : A) → r x ≡ true → p x ≡ false) → any p xs ≡ false
unfolding all any
any-fails p r [] e h = refl
any-fails p r (x ∷ xs) e h = rw (h x (and_l (r x) (all r xs) e)) (any-fails p r xs (and_r (r x) (all r xs) e) h)

-- A test passes of some element where it does not fail of every one.
pub any-all : {A : Type 0} (p : A → Bool) (xs : List A) → any p xs ≡ not (all (λ x. not (p x)) xs)
unfolding any all
any-all p [] = refl
any-all p (x ∷ xs) = go (p x) (any-all p xs)
  where
    go : (b : Bool) → any p xs ≡ not (all (λ y. not (p y)) xs) → (b || any p xs) ≡ not (not b && all (λ y. not (p y)) xs)
    go true e = refl
    go false e = e

-- One more of an image.
pub any-suc : {A : Type 0} (p : A → Bool) (f : ℕ → A) (n : ℕ) → any p (map f (range (suc n))) ≡ (any p (map f (range n)) || p (f n))
unfolding any
any-suc p f n =
    ap (any p) (image-suc f n) ∙ any_append p (map f (range n)) (f n ∷ []) ∙ ap (λ (b : Bool). any p (map f (range n)) || b) (or-false (p (f n)))

-- Some number below n passes where one does, and only there.
pub any_at : (p : ℕ → Bool) (n k : ℕ) → k < n → p k ≡ true → any p (range n) ≡ true
unfolding any range
any_at p zero k h t = absurd (not-suc-le-zero h)
any_at p (suc n) k h t = any_append p (range n) (n ∷ []) ∙ go (any_at p n k) (eq-or-lt_of_le (le_of_suc-le-suc h))
  where
    go : (k < n → p k ≡ true → any p (range n) ≡ true) → (k ≡ n) ⊎ (k < n) → (any p (range n) || (p n || false)) ≡ true
    go f (inl e) = or_intro_r (any p (range n)) (p n || false) (or_intro_l (p n) false (sym (ap p e) ∙ t))
    go f (inr l) = or_intro_l (any p (range n)) (p n || false) (f l t)

pub any_below : {R : Type 0} (p : ℕ → Bool) (n : ℕ) → any p (range n) ≡ true → ((k : ℕ) → k < n → p k ≡ true → R) → R
any_below p n t h =
    any_some (λ (k : ℕ). ltb k n) p (range n) (all-range (λ (k : ℕ). ltb k n) n (λ k l. lt-ltb k n l)) t (λ k l u. h k (ltb-true k n l) u)
