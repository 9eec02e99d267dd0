-- The ordering that is drawn for a query: 'one scan and n-2 extends'. Assumes nothing.
use Rattle.std.specs.Prelude.{Bool, cond, List, [], ◌∷◌, map, ℕ, zero, suc, ◌-◌, ◌≤◌, ◌<◌, ltb, length}
use Rattle.lists.specs.Lists.{count_if}
use Rattle.graph.specs.Graph.{Edge, Graph, covers}
use Rattle.query.specs.Query.{Query, VertexSet, edge_at, between}
use Rattle.plan.specs.Plan.{Operator, scan, extend, ends, plus}

-- Of the numbers below n the best one, and of equally good ones the lowest: each is taken where it is better
-- than the one taken before.
unfoldable pub chosen : (ℕ → ℕ → Bool) → ℕ → ℕ
chosen better zero = 0
chosen better (suc n) = cond (better n (chosen better n)) n (chosen better n)

-- How many data edges a query's label has: 'label 0 counts them all'.
unfoldable pub edges_of : Graph → ℕ → ℕ
edges_of g l = count_if (λ (e : Edge). covers l e.label) g.edges

abbrev pub scan_size : Graph → Query → ℕ → ℕ
scan_size g q i = edges_of g (edge_at q i).label

-- 'The scan takes the query edge whose label has fewest data edges .., then lowest index.'
unfoldable pub scan_edge : Graph → Query → ℕ
scan_edge g q = chosen (λ (i j : ℕ). ltb (scan_size g q i) (scan_size g q j)) (length q.edges)

-- How many query edges, 'in either direction', join an uncovered vertex 'to the covered ones'; a covered one
-- counts as having none.
unfoldable pub degree : Query → VertexSet → ℕ → ℕ
degree q S v = cond (S v) 0 (count_if (between v S) q.edges)

-- 'Each extend takes the uncovered vertex with most query edges .. to the covered ones, then lowest number.'
unfoldable pub next_vertex : Query → VertexSet → ℕ
next_vertex q S = chosen (λ (v w : ℕ). ltb (degree q S w) (degree q S v)) q.vertices

-- The vertices of k extends in turn, where S is covered before them.
unfoldable pub extends_from : Query → VertexSet → ℕ → List ℕ
extends_from q S zero = []
extends_from q S (suc k) = next_vertex q S ∷ extends_from q (plus (next_vertex q S) S) k

-- What the scan covers, and the vertices of the n - 2 extends after it.
abbrev pub scanned : Graph → Query → VertexSet
scanned g q = ends (edge_at q (scan_edge g q))

abbrev pub extend_order : Graph → Query → List ℕ
extend_order g q = extends_from q (scanned g q) (q.vertices - 2)

-- The drawn plan.
abbrev pub drawn_operators : Graph → Query → List Operator
drawn_operators g q = scan (scan_edge g q) ∷ map extend (extend_order g q)

-- What `chosen` means, in words of its own: k is below n, no other has less, and none below it as little.
pub record LeastThenLowest (f : ℕ → ℕ) (n k : ℕ) : Type 0 where
  pub below : k < n
  pub least : (i : ℕ) → i < n → f k ≤ f i
  pub lowest : (i : ℕ) → i < k → f k < f i

-- The same of the most.
pub record MostThenLowest (f : ℕ → ℕ) (n k : ℕ) : Type 0 where
  pub below : k < n
  pub most : (i : ℕ) → i < n → f i ≤ f k
  pub lowest : (i : ℕ) → i < k → f i < f k

-- The scan and each extend are those that the rules name.
pub record Choices (g : Graph) (q : Query) : Type 0 where
  pub scan-edge : 0 < length q.edges → LeastThenLowest (scan_size g q) (length q.edges) (scan_edge g q)
  pub next-vertex : (S : VertexSet) → 0 < q.vertices → MostThenLowest (degree q S) q.vertices
      (next_vertex q S)
