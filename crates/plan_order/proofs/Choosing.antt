-- Laws of what is chosen: the best number, and of equally good ones the lowest. Assumes nothing.
use mathlib.Core.Path.{◌≡◌, refl, sym, ◌∙◌}
use mathlib.Core.Logic.{◌⊎◌, inl, inr}
use mathlib.Core.Bool.{Bool, true, false, cond}
use Prim.Native.Nat.{ℕ, zero, suc, ◌+◌, ◌≤◌, ◌<◌}
use native.Mathlib.Nat.{eq-or-lt_of_le, le_of_suc-le-suc}
use native.Mathlib.Numerals.{add-one}
use native.Mathlib.Omega.{arith}
use lib.Dec.{ltb}
use lib.ListN.{length}
use borrow.Author.Tests.{ltb-true, ltb-false, lt-ltb, le-ltb}
use Rattle.graph.specs.Graph.{Graph}
use Rattle.query.specs.Query.{Query}
use Rattle.plan_order.specs.Order.{chosen, scan_size, scan_edge, degree, next_vertex, LeastThenLowest, MostThenLowest, Choices}

-- ---- one number more

module _ (better : ℕ → ℕ → Bool) (n : ℕ) where
  pub chosen-take : better n (chosen better n) ≡ true → chosen better (n + 1) ≡ n
  unfolding chosen
  chosen-take e = rw (add-one n, e)

  pub chosen-leave : better n (chosen better n) ≡ false → chosen better (n + 1) ≡ chosen better n
  unfolding chosen
  chosen-leave e = rw (add-one n, e)

-- The first number is the best of one.
pub chosen-one : (better : ℕ → ℕ → Bool) → chosen better 1 ≡ 0
unfolding chosen
chosen-one better = go (better 0 0)
  where
    go : (b : Bool) → ◌≡◌ {A = ℕ} (cond b 0 0) 0
    go true = refl
    go false = refl

-- The number chosen is below n, or 0.
pub chosen-le : (better : ℕ → ℕ → Bool) (n : ℕ) → chosen better (suc n) ≤ n
unfolding chosen
chosen-le better zero = go (better 0 0)
  where
    go : (b : Bool) → cond b 0 0 ≤ 0
    go true = omega arith
    go false = omega arith
chosen-le better (suc n) = go (better (suc n) (chosen better (suc n))) (chosen-le better n)
  where
    go : (b : Bool) → chosen better (suc n) ≤ n → cond b (suc n) (chosen better (suc n)) ≤ suc n
    go true h = omega arith
    go false h = omega arith

pub chosen-below : (better : ℕ → ℕ → Bool) (n : ℕ) → 0 < n → chosen better n < n
chosen-below better zero h = absurd (omega arith)
chosen-below better (suc n) h = omega (arith, chosen-le better n)

-- Tests that agree below n choose the same.
pub chosen-ext : (b c : ℕ → ℕ → Bool) (n : ℕ) → ((i j : ℕ) → i < n → j < n → b i j ≡ c i j) → chosen b n ≡ chosen c n
unfolding chosen
chosen-ext b c zero h = refl
chosen-ext b c (suc zero) h = chosen-one b ∙ sym (chosen-one c)
chosen-ext b c (suc (suc n)) h =
    let same : chosen b (suc n) ≡ chosen c (suc n) = chosen-ext b c (suc n) (λ i j k l. h i j (omega arith) (omega arith)) in
    let low : chosen c (suc n) ≤ n = chosen-le c n in
    rw (same, h (suc n) (chosen c (suc n)) (omega arith) (omega arith))

-- ---- the loop that chooses

-- The best of the first i numbers, and its value.
pub record Kept (better : ℕ → ℕ → Bool) (f : ℕ → ℕ) (i best value : ℕ) : Type 0 where
  pub is : best ≡ chosen better i
  pub worth : value ≡ f best
  pub low : best < i

module _ (better : ℕ → ℕ → Bool) (f : ℕ → ℕ) where
  pub kept-one : (value : ℕ) → value ≡ f 0 → Kept better f 1 0 value
  kept-one value e = record { is = sym (chosen-one better); worth = e; low = omega arith }

  module _ {i best value : ℕ} (h : Kept better f i best value) where
    pub kept-take : (x : ℕ) → x ≡ f i → better i best ≡ true → Kept better f (i + 1) i x
    kept-take x e t = record { is = sym (chosen-take better i (rw (← h.is) t)); worth = e; low = omega arith }

    pub kept-leave : better i best ≡ false → Kept better f (i + 1) best value
    kept-leave t =
        record { is = sym (chosen-leave better i (rw (← h.is) t) ∙ sym h.is); worth = h.worth; low = omega (arith, h.low) }

-- By fewest and by most.
abbrev pub Fewest : (ℕ → ℕ) → ℕ → ℕ → ℕ → Type 0
Fewest f i best value = Kept (λ (a b : ℕ). ltb (f a) (f b)) f i best value

abbrev pub Most : (ℕ → ℕ) → ℕ → ℕ → ℕ → Type 0
Most f i best value = Kept (λ (a b : ℕ). ltb (f b) (f a)) f i best value

module _ (f : ℕ → ℕ) {i best value : ℕ} (x : ℕ) (e : x ≡ f i) where
  pub fewest-take : Fewest f i best value → x < value → Fewest f (i + 1) i x
  fewest-take h l = kept-take _ f h x e (lt-ltb (f i) (f best) (omega (arith, h.worth)))

  pub fewest-leave : Fewest f i best value → value ≤ x → Fewest f (i + 1) best value
  fewest-leave h l = kept-leave _ f h (le-ltb (f i) (f best) (omega (arith, h.worth)))

  pub most-take : Most f i best value → value < x → Most f (i + 1) i x
  most-take h l = kept-take _ f h x e (lt-ltb (f best) (f i) (omega (arith, h.worth)))

  pub most-leave : Most f i best value → x ≤ value → Most f (i + 1) best value
  most-leave h l = kept-leave _ f h (le-ltb (f best) (f i) (omega (arith, h.worth)))

-- ---- the best, then the lowest

-- k is the best number below n by a test, and the lowest of the equally good ones.
record Best (better : ℕ → ℕ → Bool) (n k : ℕ) : Type 0 where
  below : k < n
  best : (i : ℕ) → i < n → better i k ≡ false
  lowest : (i : ℕ) → i < k → better k i ≡ true

-- For a test by which a number that is better than k is better than all that are not, and these are not better than it.
module _ (better : ℕ → ℕ → Bool) (itself : (i : ℕ) → better i i ≡ false)
    (worse : (a i k : ℕ) → better a k ≡ true → better i k ≡ false → better i a ≡ false)
    (over : (a i k : ℕ) → better a k ≡ true → better i k ≡ false → better a i ≡ true) where
  best-chosen : (n : ℕ) → Best better (suc n) (chosen better (suc n))
  unfolding chosen
  best-chosen zero = rw (chosen-one better) first
    where
      first : Best better 1 0
      first =
          record {
            below = omega arith;
            best = λ i h. let z : i ≡ 0 = omega arith in rw z (itself 0);
            lowest = λ i h. absurd (omega arith);
          }
  best-chosen (suc n) = go (better (suc n) (chosen better (suc n))) refl (best-chosen n)
    where
      k : ℕ
      k = chosen better (suc n)

      go : (b : Bool) → better (suc n) k ≡ b → Best better (suc n) k → Best better (suc (suc n)) (cond b (suc n) k)
      go true e r =
          record {
            below = omega arith;
            best = λ i h. each i (eq-or-lt_of_le (le_of_suc-le-suc h));
            lowest = λ i h. over (suc n) i k e (r.best i h);
          }
        where
          each : (i : ℕ) → (i ≡ suc n) ⊎ (i < suc n) → better i (suc n) ≡ false
          each i (inl s) = rw s (itself (suc n))
          each i (inr l) = worse (suc n) i k e (r.best i l)
      go false e r =
          record {
            below = omega (arith, r.below);
            best = λ i h. each i (eq-or-lt_of_le (le_of_suc-le-suc h));
            lowest = r.lowest;
          }
        where
          each : (i : ℕ) → (i ≡ suc n) ⊎ (i < suc n) → better i k ≡ false
          each i (inl s) = rw s e
          each i (inr l) = r.best i l

-- Fewest and most of a number.
least-chosen : (f : ℕ → ℕ) (n : ℕ) → 0 < n → LeastThenLowest f n (chosen (λ (i j : ℕ). ltb (f i) (f j)) n)
least-chosen f zero h = absurd (omega arith)
least-chosen f (suc n) h =
    let b = best-chosen (λ (i j : ℕ). ltb (f i) (f j)) (λ i. le-ltb (f i) (f i) (omega arith))
    (λ a i k p q. le-ltb (f i) (f a) (omega (arith, ltb-true (f a) (f k) p, ltb-false (f i) (f k) q)))
    (λ a i k p q. lt-ltb (f a) (f i) (omega (arith, ltb-true (f a) (f k) p, ltb-false (f i) (f k) q))) n in
    record {
      below = b.below;
      least = λ i l. ltb-false (f i) _ (b.best i l);
      lowest = λ i l. ltb-true _ (f i) (b.lowest i l);
    }

pub most-chosen : (f : ℕ → ℕ) (n : ℕ) → 0 < n → MostThenLowest f n (chosen (λ (i j : ℕ). ltb (f j) (f i)) n)
most-chosen f zero h = absurd (omega arith)
most-chosen f (suc n) h =
    let b = best-chosen (λ (i j : ℕ). ltb (f j) (f i)) (λ i. le-ltb (f i) (f i) (omega arith))
    (λ a i k p q. le-ltb (f a) (f i) (omega (arith, ltb-true (f k) (f a) p, ltb-false (f k) (f i) q)))
    (λ a i k p q. lt-ltb (f i) (f a) (omega (arith, ltb-true (f k) (f a) p, ltb-false (f k) (f i) q))) n in
    record {
      below = b.below;
      most = λ i l. ltb-false _ (f i) (b.best i l);
      lowest = λ i l. ltb-true (f i) _ (b.lowest i l);
    }

-- The scan and each extend are those that the rules name.
pub choices : (g : Graph) (q : Query) → Choices g q
unfolding scan_edge next_vertex
choices g q =
    record {
      scan-edge = least-chosen (scan_size g q) (length q.edges);
      next-vertex = λ S. most-chosen (degree q S) q.vertices;
    }
