-- Laws of the rules over a pile of masks, by its size. Assumes nothing.
use mathlib.Core.Path.{◌≡◌, refl}
use mathlib.Core.Bool.{Bool, true, false, not, ◌||◌}
use mathlib.Core.List.{List, [], ◌∷◌, map}
use Prim.Native.Nat.{ℕ, suc, ◌<◌}
use native.Mathlib.Nat.{not-suc-le-zero, zero-lt-suc}
use native.Mathlib.Omega.{arith}
use lib.ListN.{length, get_or, drop}
use borrow.Author.Tests.{lt-ltb}
use Rattle.lists.specs.Lists.{range, all}
use Rattle.lists.specs.Refusal.{refuse, first}
use Rattle.query.specs.Query.{Query, touches}
use Rattle.query.specs.Inner.Mask.{in_mask}
use Rattle.plan.specs.Plan.{extend, join, plus, union}
use Rattle.plan.specs.Check.{joinable, rule_fault, covered, end_fault}

module _ (q : Query) where
  -- At the end: no result, one result, more.
  pub end_none : (ms : List ℕ) → length ms ≡ 0 → end_fault q (map in_mask ms) ≡ 18
  unfolding end_fault
  end_none [] e = refl
  end_none (m ∷ ms) e = absurd (omega arith)

  pub end-one : (ms : List ℕ) → length ms ≡ 1 → end_fault q (map in_mask ms) ≡ refuse 18 (not (all (in_mask (get_or ms 0 0)) (range q.vertices)))
  unfolding end_fault first
  end-one [] e = absurd (omega arith)
  end-one (m ∷ []) e = go (all (in_mask m) (range q.vertices))
    where
      go : (b : Bool) → first (refuse 18 (not b) ∷ []) ≡ refuse 18 (not b)
      go true = refl
      go false = refl
  end-one (m ∷ n ∷ ms) e = absurd (omega arith)

  pub end-many : (ms : List ℕ) → 1 < length ms → end_fault q (map in_mask ms) ≡ 15
  unfolding end_fault first
  end-many [] h = absurd (not-suc-le-zero h)
  end-many (m ∷ []) h = absurd (omega arith)
  end-many (m ∷ n ∷ ms) h = rw (lt-ltb 0 (suc (length (map in_mask ms))) (zero-lt-suc _))

  -- An extend over no result, and over one.
  pub extend-none : (v : ℕ) (ms : List ℕ) → length ms < 1 → rule_fault q (extend v) (map in_mask ms) ≡ 15
  unfolding rule_fault
  extend-none v [] h = refl
  extend-none v (m ∷ ms) h = absurd (omega arith)

  pub extend-some : (v : ℕ) (ms : List ℕ) → 0 < length ms
      → rule_fault q (extend v) (map in_mask ms) ≡ refuse 16 (in_mask (get_or ms 0 0) v || not (touches q v (in_mask (get_or ms 0 0))))
  unfolding rule_fault
  extend-some v [] h = absurd (not-suc-le-zero h)
  extend-some v (m ∷ ms) h = refl

  pub extend-asks : (v : ℕ) (ms : List ℕ) → rule_fault q (extend v) (map in_mask ms) ≡ 0 → 0 < length ms
  unfolding rule_fault
  extend-asks v [] e = absurd (omega arith)
  extend-asks v (m ∷ ms) e = zero-lt-suc (length ms)

  pub extend-covers : (v : ℕ) (ms : List ℕ) → 0 < length ms
      → covered q (extend v) (map in_mask ms) ≡ plus v (in_mask (get_or ms 0 0)) ∷ map in_mask (drop 1 ms)
  unfolding covered
  extend-covers v [] h = absurd (not-suc-le-zero h)
  extend-covers v (m ∷ ms) h = refl

  -- A join over fewer than two results, and over two: the top one is the probe side.
  pub join-few : (ms : List ℕ) → length ms < 2 → rule_fault q join (map in_mask ms) ≡ 15
  unfolding rule_fault
  join-few [] h = refl
  join-few (m ∷ []) h = refl
  join-few (m ∷ n ∷ ms) h = absurd (omega arith)

  pub join-two : (ms : List ℕ) → 1 < length ms
      → rule_fault q join (map in_mask ms) ≡ refuse 17 (not (joinable q (in_mask (get_or ms 1 0)) (in_mask (get_or ms 0 0))))
  unfolding rule_fault
  join-two [] h = absurd (not-suc-le-zero h)
  join-two (m ∷ []) h = absurd (omega arith)
  join-two (m ∷ n ∷ ms) h = refl

  pub join-asks : (ms : List ℕ) → rule_fault q join (map in_mask ms) ≡ 0 → 1 < length ms
  unfolding rule_fault
  join-asks [] e = absurd (omega arith)
  join-asks (m ∷ []) e = absurd (omega arith)
  join-asks (m ∷ n ∷ ms) e = omega arith

  pub join-covers : (ms : List ℕ) → 1 < length ms
      → covered q join (map in_mask ms) ≡ union (in_mask (get_or ms 1 0)) (in_mask (get_or ms 0 0)) ∷ map in_mask (drop 2 ms)
  unfolding covered
  join-covers [] h = absurd (not-suc-le-zero h)
  join-covers (m ∷ []) h = absurd (omega arith)
  join-covers (m ∷ n ∷ ms) h = refl
