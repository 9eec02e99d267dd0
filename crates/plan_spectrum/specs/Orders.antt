-- The orderings of a query: 'every accepted plan of one scan and extends, each once, ordered by scan index
-- and then by extended vertices in turn'. An ordering is the list of its numbers: the scan's index, then the
-- vertices in turn. Assumes nothing.
use Rattle.std.specs.Prelude.{Bool, true, false, ◌&&◌, ◌||◌, ℕ, zero, suc, ◌-◌, eqb, ltb, length}
use mathlib.Core.List.{List, [], ◌∷◌, map, flat_map}
use Rattle.lists.specs.Lists.{range, all, keep}
use Rattle.query.specs.Query.{Query, VertexSet, edge_at}
use Rattle.plan.specs.Plan.{Operator, scan, extend, join, ends, plus}
use Rattle.plan.specs.Check.{rule_fault, rules_fault}
use Rattle.plan_order.specs.Order.{scan_edge, extend_order}
use Rattle.graph.specs.Graph.{Graph}

-- An extend by v of rows that cover S breaks no rule of a plan.
abbrev pub extends : Query → VertexSet → ℕ → Bool
extends q S v = eqb (rule_fault q (extend v) (S ∷ [])) 0

-- x before each of the lists.
abbrev pub before : ℕ → List (List ℕ) → List (List ℕ)
before x rows = map (λ (row : List ℕ). x ∷ row) rows

-- The vertices of extends in turn, where S is covered and k vertices are not: each that may be next,
-- ascending, before what can follow it.
unfoldable pub orders_from : Query → VertexSet → ℕ → List (List ℕ)
orders_from q S zero = [] ∷ []
orders_from q S (suc k) =
    flat_map (λ (v : ℕ). before v (orders_from q (plus v S) k)) (keep (extends q S) (range q.vertices))

-- 'Ordered by scan index': a scan covers two of the n vertices.
unfoldable pub orderings : Query → List (List ℕ)
orderings q = flat_map (λ (i : ℕ). before i (orders_from q (ends (edge_at q i)) (q.vertices - 2)))
    (range (length q.edges))

-- The plan of an ordering.
unfoldable pub plan_of : List ℕ → List Operator
plan_of [] = []
plan_of (i ∷ vs) = scan i ∷ map extend vs

-- A plan is accepted: the query has what its operators name, and they break no rule.
abbrev pub has : Query → Operator → Bool
has q (scan i) = ltb i (length q.edges)
has q (extend v) = ltb v q.vertices
has q join = true

abbrev pub accepted : Query → List Operator → Bool
accepted q os = all (has q) os && eqb (rules_fault q [] os) 0

-- The drawn plan's ordering.
abbrev pub drawn_ordering : Graph → Query → List ℕ
drawn_ordering g q = scan_edge g q ∷ extend_order g q

-- One list of numbers comes before another: at the first place where they differ it has the lower number.
unfoldable pub comes_before : List ℕ → List ℕ → Bool
comes_before [] [] = false
comes_before [] (y ∷ ys) = true
comes_before (x ∷ xs) [] = false
comes_before (x ∷ xs) (y ∷ ys) = ltb x y || eqb x y && comes_before xs ys

-- Each list comes before all that follow it.
unfoldable pub in_order : List (List ℕ) → Bool
in_order [] = true
in_order (row ∷ rows) = all (comes_before row) rows && in_order rows
