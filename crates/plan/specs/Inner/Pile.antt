-- A pile of results in an array, and the rules of a plan in the parts that the code tests. Assumes nothing.
use Rattle.std.specs.Prelude.{Bool, true, ◌||◌, List, [], ◌∷◌, ℕ, zero, suc, length, get_or, ltb}
use Rattle.lists.specs.Lists.{◌implies◌}
use Rattle.graph.specs.Graph.{Edge}
use Rattle.query.specs.Query.{Query, VertexSet, inside}
use Rattle.plan.specs.Plan.{Operator, scan, extend, join, union}

-- The first d numbers of an array as a pile, the last of them on top.
unfoldable pub stack : ℕ → List ℕ → List ℕ
stack zero xs = []
stack (suc d) xs = get_or xs d 0 ∷ stack d xs

-- The query has the edge or the vertex that an operator names.
abbrev pub named : Query → Operator → Bool
named q (scan i) = ltb i (length q.edges)
named q (extend v) = ltb v q.vertices
named q join = true

-- A query edge is not lost in a join: 'every query edge within their union lies within one of them'.
abbrev pub kept : VertexSet → VertexSet → Edge → Bool
kept B P e = inside (union B P) e implies (inside B e || inside P e)
