-- What drawing a plan answers and leaves in the lent bytes, for every store, query file and bytes. Assumes
-- nothing.
use Rattle.std.specs.Prelude.{cond, ℕ, ◌+◌, eqb, ltb, length, drop}
use mathlib.Core.List.{List, [], ◌∷◌, ◌++◌, flat_map}
use Rattle.lists.specs.Refusal.{refuse, first, answered}
use Rattle.packed.specs.Encode.{bits_of, bytes_of}
use Rattle.graph.specs.Graph.{Graph}
use Rattle.graph.specs.Store.{graph_in, store_fault}
use Rattle.query.specs.Query.{Query}
use Rattle.query.specs.File.{query_of, query_fault}
use Rattle.plan.specs.Plan.{scan_kind, extend_kind}
use Rattle.plan_order.specs.Order.{scan_edge, extend_order}
use Rattle.planner.specs.declared.DrawAnswer.{DrawAnswer}

-- The bits of a scan and of extends: 'operator count (5 bits ..), then operators: kind (2 bits); 0 scan with
-- a query edge's index (5), 1 extend with a query vertex (3)'.
abbrev pub scan_bits : ℕ → ℕ → List ℕ
scan_bits count i = bits_of 5 count ++ bits_of 2 scan_kind ++ bits_of 5 i

abbrev pub extend_bits : ℕ → List ℕ
extend_bits v = bits_of 2 extend_kind ++ bits_of 3 v

unfoldable pub plan_bits : ℕ → List ℕ → List ℕ
plan_bits i vs = scan_bits (1 + length vs) i ++ flat_map extend_bits vs

-- The drawn plan's file.
unfoldable pub drawn_plan : Graph → Query → List ℕ
drawn_plan g q = bytes_of (plan_bits (scan_edge g q) (extend_order g q))

-- 'It refuses, after the query's refusals and 19, .. with 24 when the plan's bytes do not fit.' An extend
-- that is due always finds a vertex (`SomeBeside`), so nothing gives 23.
unfoldable pub draw_fault : List ℕ → List ℕ → ℕ → ℕ
draw_fault store query room =
    let g = graph_in store in
    let q = query_of query in
    first
    (query_fault query
    ∷ store_fault store
    ∷ refuse 24 (ltb room (length (drawn_plan g q)))
    ∷ [])

-- 'It answers the plan's length in bytes.'
unfoldable pub draw_answer : List ℕ → List ℕ → ℕ → DrawAnswer
draw_answer store query room =
    let k = draw_fault store query room in
    record { refusal = k; bytes = answered k (length (drawn_plan (graph_in store) (query_of query))) }

-- The lent bytes afterwards: the plan, 'and leaves those past it untouched'; refused, 'leaving the bytes
-- untouched'.
unfoldable pub draw_bytes : List ℕ → List ℕ → List ℕ → List ℕ
draw_bytes store query bytes =
    let plan = drawn_plan (graph_in store) (query_of query) in
    cond (eqb (draw_fault store query (length bytes)) 0) (plan ++ drop (length plan) bytes) bytes
