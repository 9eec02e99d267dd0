-- What the operators of a plan are bounded by over a graph, without a run: rows, need and cost. Assumes
-- nothing.
use Rattle.std.specs.Prelude.{cond, List, [], ◌∷◌, ℕ, ◌+◌, ◌*◌, min, max, eqb}
use Rattle.lists.specs.Lists.{range, keep, total, largest}
use Rattle.graph.specs.Graph.{Edge, Graph, Direction, forward, backward, portion_length}
use Rattle.query.specs.Query.{Query, VertexSet, edge_at, between}
use Rattle.plan.specs.Plan.{Operator, scan, extend, join, ends, plus, union}
use Rattle.plan_order.specs.Order.{edges_of}
use Rattle.matching.specs.Row.{width}
use Rattle.operator_spec.specs.Join.{heads}

-- The least of a number taken of each element; 0 where there is none.
unfoldable pub least : {A : Type 0} → (A → ℕ) → List A → ℕ
least f [] = 0
least f (x ∷ []) = f x
least f (x ∷ y ∷ xs) = min (f x) (least f (y ∷ xs))

-- 'The longest portion any vertex has' for a label in one direction; 0 where there is no vertex.
unfoldable pub longest_portion : Graph → Direction → ℕ → ℕ
longest_portion g d l = largest (portion_length g d l) (range g.vertices)

-- The longest portion for a query edge between v and S: for 'that edge's label and direction', from its end
-- in S, towards v.
unfoldable pub longest_for : Graph → ℕ → Edge → ℕ
longest_for g v e = cond (eqb e.source v) (longest_portion g backward e.label)
    (longest_portion g forward e.label)

-- 'The least, over its query edges, of the longest portion', which bounds an extend's longest set; and 'the
-- sum of those longest portions'.
unfoldable pub least_portion : Graph → Query → VertexSet → ℕ → ℕ
least_portion g q S v = least (longest_for g v) (keep (between v S) q.edges)

unfoldable pub sum_of_portions : Graph → Query → VertexSet → ℕ → ℕ
sum_of_portions g q S v = total (longest_for g v) (keep (between v S) q.edges)

-- What bounds a result over a set of query vertices: its rows, and the words that it needs while they are
-- made.
pub record Bound : Type 0 where
  pub vertices : VertexSet
  pub rows : ℕ
  pub need : ℕ

-- 'Need follows by the sums of Paper 10': an extend's, and a join's, over bounds in place of the real
-- numbers.
abbrev pub extend_bound : Graph → Query → ℕ → Bound → ℕ
extend_bound g q v b = b.need + width q.vertices (plus v b.vertices) + least_portion g q b.vertices v

abbrev pub bound_words : Query → Bound → ℕ
bound_words q b = b.rows * width q.vertices b.vertices

abbrev pub join_bound : Query → Bound → Bound → ℕ
join_bound q b p =
    max (b.need + bound_words q b)
    (bound_words q b + b.rows + heads b.rows + p.need + width q.vertices
    (union b.vertices p.vertices))

-- 'A scan by its label's edges (label 0: all); an extend by operand rows times the least ..; a join by the
-- product of its sides.'
unfoldable pub rows_bound : Graph → Query → Operator → List Bound → ℕ
rows_bound g q (scan i) pile = edges_of g (edge_at q i).label
rows_bound g q (extend v) [] = 0
rows_bound g q (extend v) (b ∷ pile) = b.rows * least_portion g q b.vertices v
rows_bound g q join [] = 0
rows_bound g q join (p ∷ []) = 0
rows_bound g q join (p ∷ b ∷ pile) = b.rows * p.rows

-- An extend's 'cost by operand rows times the sum of those longest portions'; a scan and a join cost nothing.
unfoldable pub cost_bound : Graph → Query → Operator → List Bound → ℕ
cost_bound g q (scan i) pile = 0
cost_bound g q (extend v) [] = 0
cost_bound g q (extend v) (b ∷ pile) = b.rows * sum_of_portions g q b.vertices v
cost_bound g q join pile = 0

-- The pile of bounds after an operator; a pile with too few stays. 'A scan needs 2 words.'
unfoldable pub apply_bound : Graph → Query → Operator → List Bound → List Bound
apply_bound g q (scan i) pile =
    record { vertices = ends (edge_at q i); rows = rows_bound g q (scan i) pile; need = 2 } ∷ pile
apply_bound g q (extend v) [] = []
apply_bound g q (extend v) (b ∷ pile) =
    record {
      vertices = plus v b.vertices;
      rows = rows_bound g q (extend v) (b ∷ pile);
      need = extend_bound g q v b;
    } ∷ pile
apply_bound g q join [] = []
apply_bound g q join (p ∷ []) = p ∷ []
apply_bound g q join (p ∷ b ∷ pile) =
    record {
      vertices = union b.vertices p.vertices;
      rows = rows_bound g q join (p ∷ b ∷ pile);
      need = join_bound q b p;
    } ∷ pile

-- The pile after the operators in turn.
unfoldable pub bounds_after : Graph → Query → List Bound → List Operator → List Bound
bounds_after g q pile [] = pile
bounds_after g q pile (o ∷ os) = bounds_after g q (apply_bound g q o pile) os

-- The bounds of an operator's rows and cost, and of the operators in turn.
pub record StepBound : Type 0 where
  pub rows : ℕ
  pub cost : ℕ

abbrev pub step_bound : Graph → Query → Operator → List Bound → StepBound
step_bound g q o pile = record { rows = rows_bound g q o pile; cost = cost_bound g q o pile }

unfoldable pub step_bounds : Graph → Query → List Bound → List Operator → List StepBound
step_bounds g q pile [] = []
step_bounds g q pile (o ∷ os) = step_bound g q o pile ∷ step_bounds g q (apply_bound g q o pile) os

-- The bounds of the result on top of a pile.
unfoldable pub top_rows_bound : List Bound → ℕ
top_rows_bound [] = 0
top_rows_bound (b ∷ pile) = b.rows

unfoldable pub top_need_bound : List Bound → ℕ
top_need_bound [] = 0
top_need_bound (b ∷ pile) = b.need

-- The four numbers of a plan, as plain numbers: the words of its list, those of its scratch, its cost, and
-- the largest row bound of any of its operators.
unfoldable pub list_bound : Graph → Query → List Operator → ℕ
list_bound g q os = q.vertices * top_rows_bound (bounds_after g q [] os)

unfoldable pub need_bound : Graph → Query → List Operator → ℕ
need_bound g q os = top_need_bound (bounds_after g q [] os)

unfoldable pub costs_bound : Graph → Query → List Operator → ℕ
costs_bound g q os = total (λ (s : StepBound). s.cost) (step_bounds g q [] os)

unfoldable pub largest_bound : Graph → Query → List Operator → ℕ
largest_bound g q os = largest (λ (s : StepBound). s.rows) (step_bounds g q [] os)
