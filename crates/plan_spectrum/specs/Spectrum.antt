-- What all orderings of a small pattern answers, and what it leaves in the word list, for every store, query
-- file, scratch and words; its scratch 'ends as after Run' (`run_scratch`). Assumes nothing.
use Rattle.std.specs.Prelude.{Bool, true, cond, ℕ, suc, ◌+◌, ◌*◌, ◌/◌, ◌%◌, eqb, ltb, length, drop}
use mathlib.Core.List.{List, [], ◌∷◌, ◌++◌, map, flat_map}
use Rattle.lists.specs.Refusal.{refuse, first, answered}
use Rattle.graph.specs.Graph.{Graph}
use Rattle.graph.specs.Store.{graph_in, store_fault}
use Rattle.query.specs.Query.{Query}
use Rattle.query.specs.File.{query_of, query_fault}
use Rattle.run_spec.specs.Run.{counted, plan_cost, plan_need, plan_passes}
use Rattle.plan_spectrum.specs.Orders.{orderings, plan_of}
use Rattle.plan_spectrum.specs.declared.OrderingsAnswer.{OrderingsAnswer}

-- 'For queries of at most 5 vertices.'
abbrev pub max_spectrum : ℕ
max_spectrum = 5

-- An ordering's cost 'with cache on', and 'its cost .., high word first'.
abbrev pub cost_of : Graph → Query → List ℕ → ℕ
cost_of g q o = plan_cost true g q (plan_of o)

abbrev pub cost_words : ℕ → List ℕ
cost_words cost = cost / 4294967296 ∷ cost % 4294967296 ∷ []

-- 'Each takes n + 1 words of a lent list: scan index, the n-2 vertices, then its cost.'
abbrev pub entry_of : Graph → Query → List ℕ → List ℕ
entry_of g q o = o ++ cost_words (cost_of g q o)

unfoldable pub entries : Graph → Query → List ℕ
entries g q = flat_map (entry_of g q) (orderings q)

-- What Run with the cache on refuses an ordering for, where its list is long enough: 20, then 30.
abbrev pub limit_fault : Graph → Query → ℕ → List ℕ → ℕ
limit_fault g q scratch o =
    first
    (refuse 20 (ltb (counted scratch) (plan_need true g q (plan_of o)))
    ∷ refuse 30 (plan_passes true g q (plan_of o))
    ∷ [])

-- 'It refuses, after the query, with 31 more than 5 vertices; then 19; with 32 a word list too short; then 20
-- or 30 of the first ordering refused.'
unfoldable pub orderings_fault : List ℕ → List ℕ → ℕ → ℕ → ℕ
orderings_fault store query scratch words =
    let g = graph_in store in
    let q = query_of query in
    first
    (query_fault query
    ∷ refuse 31 (ltb max_spectrum q.vertices)
    ∷ store_fault store
    ∷ refuse 32 (ltb words (length (orderings q) * suc q.vertices))
    ∷ map (limit_fault g q scratch) (orderings q))

-- 'The answer is the number of plans.'
unfoldable pub orderings_answer : List ℕ → List ℕ → ℕ → ℕ → OrderingsAnswer
orderings_answer store query scratch words =
    let k = orderings_fault store query scratch words in
    record { refusal = k; plans = answered k (length (orderings (query_of query))) }

-- 'Words past the last plan stay untouched'; refused, 'the word list is then untouched'.
unfoldable pub orderings_words : List ℕ → List ℕ → ℕ → List ℕ → List ℕ
orderings_words store query scratch words =
    let made = entries (graph_in store) (query_of query) in
    cond (eqb (orderings_fault store query scratch (length words)) 0) (made ++ drop (length made) words) words
