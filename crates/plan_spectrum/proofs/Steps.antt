-- The orders of a query, vertex by vertex and scan by scan. Assumes nothing.
use mathlib.Core.Path.{◌≡◌, refl, sym, ◌∙◌, ap}
use mathlib.Core.Bool.{Bool, true, false, cond, not, ◌||◌}
use mathlib.Core.List.{List, [], ◌∷◌, ◌++◌, flat_map}
use Prim.Native.Nat.{ℕ, suc, ◌-◌}
use lib.Dec.{eqb}
use lib.ListN.{length}
use Rattle.lists.specs.Lists.{range, keep}
use Rattle.lists.proofs.Tests.{clash}
use Rattle.query.specs.Query.{Query, VertexSet, edge_at, touches}
use Rattle.plan.specs.Plan.{ends, plus}
use Rattle.plan.specs.Check.{rule_fault}
use Rattle.plan_spectrum.specs.Orders.{extends, before, orders_from, orderings}

-- The orders that begin with v: none where it may not be next. And those of a scan.
abbrev pub orders_by : Query → VertexSet → ℕ → ℕ → List (List ℕ)
orders_by q S k v = cond (extends q S v) (before v (orders_from q (plus v S) k)) []

abbrev pub orders_of : Query → ℕ → List (List ℕ)
orders_of q i = before i (orders_from q (ends (edge_at q i)) (q.vertices - 2))

flat_map-keep : {A B : Type 0} (t : A → Bool) (f : A → List B) (xs : List A) → flat_map f (keep t xs) ≡ flat_map (λ x. cond (t x) (f x) []) xs
unfolding flat_map keep
flat_map-keep t f [] = refl
flat_map-keep t f (x ∷ xs) = go (t x) (flat_map-keep t f xs)
  where
    go : (b : Bool) → flat_map f (keep t xs) ≡ flat_map (λ y. cond (t y) (f y) []) xs
        → flat_map f (cond b (x ∷ keep t xs) (keep t xs)) ≡ cond b (f x) [] ++ flat_map (λ y. cond (t y) (f y) []) xs
    go true e = ap (λ (l : List _). f x ++ l) e
    go false e = e

pub orders-suc : (q : Query) (S : VertexSet) (k : ℕ) → orders_from q S (suc k) ≡ flat_map (orders_by q S k) (range q.vertices)
unfolding orders_from
orders-suc q S k = flat_map-keep (extends q S) (λ (v : ℕ). before v (orders_from q (plus v S) k)) (range q.vertices)

pub orderings-scans : (q : Query) → orderings q ≡ flat_map (orders_of q) (range (length q.edges))
unfolding orderings
orderings-scans q = refl

-- A vertex that may be next: uncovered, with an edge to S.
pub extends-is : (q : Query) (S : VertexSet) (v : ℕ) → extends q S v ≡ not (S v || not (touches q v S))
unfolding rule_fault
extends-is q S v = go (S v || not (touches q v S))
  where
    go : (b : Bool) → eqb (cond b 16 0) 0 ≡ not b
    go true = refl
    go false = refl

pub extends-uncovered : (q : Query) (S : VertexSet) (v : ℕ) → extends q S v ≡ true → S v ≡ false
extends-uncovered q S v e = go (S v) (touches q v S) (sym (extends-is q S v) ∙ e)
  where
    go : (a b : Bool) → not (a || not b) ≡ true → a ≡ false
    go true b h = clash h refl
    go false b h = refl
