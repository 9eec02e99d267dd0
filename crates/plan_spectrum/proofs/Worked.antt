-- All orderings worked by hand, as one table: over G the triangle Q, one edge and the diamond X, over K the diamond in a scratch of 13 words and of 12,
-- and each refusal in its place. Assumes nothing.
use mathlib.Core.Path.{◌≡◌, refl}
use mathlib.Core.Bool.{Bool, true, ◌&&◌}
use mathlib.Core.List.{List, [], ◌∷◌, ◌++◌, flat_map, flatten}
use Prim.Native.Nat.{ℕ, ◌-◌}
use lib.Dec.{eqb}
use lib.ListN.{length, replicate}
use Rattle.lists.specs.Lists.{range, all, any, keep, count_if, total, largest, same, ascends_from, ascending, insert_sorted, sort}
use Rattle.lists.specs.Refusal.{first}
use Rattle.packed.specs.Field.{bit_at, field_at, fill_set}
use Rattle.graph.specs.Graph.{covers, linked, portion_length}
use Rattle.graph.specs.File.{graph_of, graph_fault}
use Rattle.graph.specs.Store.{offsets, entries, store_of, load_fault, load_store, graph_in, well_formed, store_fault}
use Rattle.query.specs.Query.{paired, reached, connected}
use Rattle.query.specs.File.{query_of, query_fault}
use Rattle.plan.specs.Check.{rule_fault}
use Rattle.matching.specs.Row.{members, pack, look}
use Rattle.matching.specs.Match.{fits, holds, allows, permits}
use Rattle.operator_spec.specs.Scan.{scans, scan_rows}
use Rattle.operator_spec.specs.Extend.{candidates, grown, same_used, reuses, extend_after, extend_rows, portion_for, row_cost, cost_after, extend_cost}
use Rattle.run_spec.specs.Pile.{longest_set, apply, cost_of, build_of, probe_of, pile_after, top_rows, top_need, step_of, steps_from}
use Rattle.run_spec.specs.Run.{plan_rows, plan_cost, plan_build, plan_probe, plan_need, plan_numbers, plan_passes}
use Rattle.cases.specs.Cases.{file_g, file_k, file_q, file_x}
use Rattle.plan_spectrum.specs.Orders.{orders_from, orderings, plan_of}
use Rattle.plan_spectrum.specs.Spectrum as spectrum

-- A graph's file and the words of its store, a query, the words of the scratch and of the list, which held 9s; then refusal, plans and the words.
pub record Case : Type 0 where
  pub graph : List ℕ
  pub room : ℕ
  pub query : List ℕ
  pub scratch : ℕ
  pub list : ℕ
  pub refusal : ℕ
  pub plans : ℕ
  pub words : List ℕ

unfoldable pub passes : Case → Bool
passes c =
    let store = load_store c.graph (replicate c.room 0) in
    let answer = spectrum.orderings_answer store c.query c.scratch c.list in
    eqb answer.refusal c.refusal && eqb answer.plans c.plans
    && same (spectrum.orderings_words store c.query c.scratch (replicate c.list 9)) (c.words ++ replicate (c.list - length c.words) 9)

abbrev case : List ℕ → ℕ → List ℕ → ℕ → ℕ → ℕ → ℕ → List ℕ → Case
case graph room query scratch list refusal plans words =
    record { graph = graph; room = room; query = query; scratch = scratch; list = list; refusal = refusal; plans = plans; words = words }

-- Six vertices in a path.
abbrev file_six : List ℕ
file_six =
    0x62 ∷ 0x80 ∷ 0x00 ∷ 0x00 ∷ 0x00 ∷ 0x7f ∷ 0xff ∷ 0x80 ∷ 0x00 ∷ 0x00 ∷ 0x00 ∷ 0x7f ∷ 0xff ∷ 0x80 ∷ 0x00 ∷
    0x00 ∷ 0x00 ∷ 0x7f ∷ 0xff ∷ 0x80 ∷ 0x00 ∷ 0x00 ∷ 0x00 ∷ 0x7f ∷ 0xff ∷ 0x80 ∷ 0x00 ∷ 0x00 ∷ 0x00 ∷ 0x7f ∷
    0xff ∷ 0x80 ∷ 0x00 ∷ 0x00 ∷ 0x00 ∷ 0x7f ∷ 0xff ∷ 0x82 ∷ 0x02 ∷ 0x50 ∷ 0x0a ∷ 0x60 ∷ 0x2e ∷ 0x00 ∷ 0xca ∷
    0x02 ∷ 0x00 ∷ []

-- The edge 0→1.
abbrev file_edge : List ℕ
file_edge = 0x20 ∷ 0x80 ∷ 0x00 ∷ 0x00 ∷ 0x00 ∷ 0x7f ∷ 0xff ∷ 0x80 ∷ 0x00 ∷ 0x00 ∷ 0x00 ∷ 0x7f ∷ 0xff ∷ 0x82 ∷ 0x02 ∷ 0x00 ∷ []

unfoldable pub worked : List Case
worked =
    -- the triangle: 13 words, of which the last is left; 11 are too few; a scratch of 5 is too short for the first ordering
    case file_g 30 file_q 6 13 0 3 (0 ∷ 2 ∷ 0 ∷ 13 ∷ 1 ∷ 1 ∷ 0 ∷ 18 ∷ 2 ∷ 0 ∷ 0 ∷ 13 ∷ [])
    ∷ case file_g 30 file_q 6 11 32 0 []
    ∷ case file_g 30 file_q 5 12 20 0 []
    ∷ case file_g 0 file_q 6 11 19 0 []
    -- 31 comes before 19
    ∷ case file_g 0 file_six 64 0 31 0 []
    -- the edge: one entry of 3 words, cost 0
    ∷ case file_g 30 file_edge 2 3 0 1 (0 ∷ 0 ∷ 0 ∷ [])
    ∷ case file_g 30 file_edge 1 3 20 0 []
    -- the diamond: ten entries; over K the seventh ordering is the first that needs 13 words
    ∷ case file_g 30 file_x 12 50 0 10
    (0 ∷ 2 ∷ 3 ∷ 0 ∷ 17 ∷ 0 ∷ 3 ∷ 2 ∷ 0 ∷ 25 ∷ 1 ∷ 1 ∷ 3 ∷ 0 ∷ 22 ∷ 1 ∷ 3 ∷ 1 ∷ 0 ∷ 25 ∷ 2 ∷ 0 ∷ 3 ∷ 0 ∷ 17 ∷ 2 ∷ 3 ∷ 0 ∷ 0 ∷ 17
    ∷ 3 ∷ 0 ∷ 2 ∷ 0 ∷ 25 ∷ 3 ∷ 2 ∷ 0 ∷ 0 ∷ 22 ∷ 4 ∷ 0 ∷ 1 ∷ 0 ∷ 25 ∷ 4 ∷ 1 ∷ 0 ∷ 0 ∷ 17 ∷ [])
    ∷ case file_k 38 file_x 13 51 0 10
    (0 ∷ 2 ∷ 3 ∷ 0 ∷ 24 ∷ 0 ∷ 3 ∷ 2 ∷ 0 ∷ 47 ∷ 1 ∷ 1 ∷ 3 ∷ 0 ∷ 34 ∷ 1 ∷ 3 ∷ 1 ∷ 0 ∷ 53 ∷ 2 ∷ 0 ∷ 3 ∷ 0 ∷ 28 ∷ 2 ∷ 3 ∷ 0 ∷ 0 ∷ 29
    ∷ 3 ∷ 0 ∷ 2 ∷ 0 ∷ 46 ∷ 3 ∷ 2 ∷ 0 ∷ 0 ∷ 39 ∷ 4 ∷ 0 ∷ 1 ∷ 0 ∷ 52 ∷ 4 ∷ 1 ∷ 0 ∷ 0 ∷ 33 ∷ [])
    ∷ case file_k 38 file_x 12 50 20 0 []
    ∷ []

pub worked-pass : all passes worked ≡ true
unfolding passes worked spectrum.entries spectrum.orderings_fault spectrum.orderings_answer spectrum.orderings_words orders_from orderings plan_of flat_map flatten range all any keep count_if total largest same ascends_from ascending insert_sorted sort first bit_at field_at fill_set covers linked portion_length graph_of graph_fault offsets entries store_of load_fault load_store graph_in well_formed store_fault paired reached connected query_of query_fault rule_fault members pack look fits holds allows permits scans scan_rows candidates grown same_used reuses extend_after extend_rows portion_for row_cost cost_after extend_cost longest_set apply cost_of build_of probe_of pile_after top_rows top_need step_of steps_from plan_rows plan_cost plan_build plan_probe plan_need plan_numbers plan_passes
worked-pass = refl
