-- The rules of a plan over the pile of the sets that its results cover. Assumes nothing.
use Rattle.std.specs.Prelude.{Bool, not, ◌&&◌, ◌||◌, List, [], ◌∷◌, ℕ, ltb, length}
use Rattle.lists.specs.Lists.{◌implies◌, range, all, any}
use Rattle.lists.specs.Refusal.{refuse, first}
use Rattle.graph.specs.Graph.{Edge}
use Rattle.query.specs.Query.{Query, VertexSet, edge_at, inside, touches}
use Rattle.plan.specs.Plan.{Operator, scan, extend, join, ends, plus, union}

-- 'They share a vertex, each has one that the other lacks, and every query edge within their union lies
-- within one of them.'
unfoldable pub joinable : Query → VertexSet → VertexSet → Bool
joinable q B P =
    any (λ (w : ℕ). B w && P w) (range q.vertices)
    && any (λ (w : ℕ). B w && not (P w)) (range q.vertices)
    && any (λ (w : ℕ). P w && not (B w)) (range q.vertices)
    && all (λ (e : Edge). inside (union B P) e implies (inside B e || inside P e)) q.edges

-- '15 too few results in the pile, 16 extend by a covered vertex or with no edge to S, 17 a join rule
-- broken.'
unfoldable pub rule_fault : Query → Operator → List VertexSet → ℕ
rule_fault q (scan i) pile = 0
rule_fault q (extend v) [] = 15
rule_fault q (extend v) (S ∷ pile) = refuse 16 (S v || not (touches q v S))
rule_fault q join [] = 15
rule_fault q join (P ∷ []) = 15
rule_fault q join (P ∷ B ∷ pile) = refuse 17 (not (joinable q B P))

-- The sets in the pile after an operator; a pile with too few results stays.
unfoldable pub covered : Query → Operator → List VertexSet → List VertexSet
covered q (scan i) pile = ends (edge_at q i) ∷ pile
covered q (extend v) [] = []
covered q (extend v) (S ∷ pile) = plus v S ∷ pile
covered q join [] = []
covered q join (P ∷ []) = P ∷ []
covered q join (P ∷ B ∷ pile) = union B P ∷ pile

-- 'At the end 15 for more than one result, 18 a vertex uncovered.'
unfoldable pub end_fault : Query → List VertexSet → ℕ
end_fault q [] = 18
end_fault q (S ∷ pile) = first (refuse 15 (ltb 0 (length pile)) ∷ refuse 18 (not (all S (range q.vertices)))
    ∷ [])

-- The first fault of the operators in order, then of the end.
unfoldable pub rules_fault : Query → List VertexSet → List Operator → ℕ
rules_fault q pile [] = end_fault q pile
rules_fault q pile (o ∷ os) = first (rule_fault q o pile ∷ rules_fault q (covered q o pile) os ∷ [])
