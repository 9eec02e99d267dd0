-- Two stores that differ and of which the claim speaks, by computation; and a query with label 0 that tells them apart, so that the
-- claim's condition on label 0 is needed. Assumes nothing.
use mathlib.Core.Path.{◌≡◌, refl, sym, ◌∙◌, ap}
use mathlib.Core.Bool.{false, true}
use mathlib.Core.List.{List, [], ◌∷◌, flat_map}
use Prim.Native.Nat.{ℕ}
use native.Mathlib.Omega.{arith}
use lib.ListN.{get_or, replicate}
use Rattle.lists.specs.Lists.{range, all, any, keep, count_if, total, largest, same, ascends_from, ascending, insert_sorted, sort}
use Rattle.lists.specs.Refusal.{first}
use Rattle.packed.specs.Field.{bit_at, field_at, fill_set}
use Rattle.graph.specs.Graph.{covers, linked, portion_length}
use Rattle.graph.specs.Store.{offsets, entries, store_of, graph_in, well_formed, store_fault}
use Rattle.query.specs.Query.{paired, reached, connected}
use Rattle.query.specs.File.{query_of, query_fault}
use Rattle.plan.specs.Check.{joinable, rule_fault, covered, end_fault, rules_fault}
use Rattle.plan.specs.File.{place, operators_of, plan_fault, check_fault}
use Rattle.matching.specs.Row.{members, pack, look}
use Rattle.matching.specs.Match.{fits, holds, allows, permits}
use Rattle.operator_spec.specs.Scan.{scans, scan_rows}
use Rattle.run_spec.specs.declared.Record.{Record}
use Rattle.run_spec.specs.Pile.{apply, cost_of, build_of, probe_of, pile_after, top_rows, top_need, step_of, steps_from}
use Rattle.run_spec.specs.Run.{plan_rows, plan_cost, plan_build, plan_probe, plan_need, plan_numbers, plan_passes, run_fault, run_answer}
use Rattle.isolation.specs.Others.{names, has_edge, TwoCompanies}
use Rattle.isolation.specs.CannotSee.{AfterRun, CannotSee}
use Rattle.isolation.proofs.Own.{own-named}
use Rattle.isolation.proofs.Answers.{non-interference}

-- Four items and the first company's edges of label 1: 0→1, 0→2, 1→2, 1→3, 2→3.
pub alone : List ℕ
alone =
    4 ∷ 5 ∷ 0 ∷ 0 ∷ 0 ∷ 0 ∷ 0 ∷ 0 ∷ 0 ∷ 0
    ∷ 0 ∷ 2 ∷ 4 ∷ 5 ∷ 5 ∷ 0x10001 ∷ 0x10002 ∷ 0x10002 ∷ 0x10003 ∷ 0x10003
    ∷ 0 ∷ 0 ∷ 1 ∷ 3 ∷ 5 ∷ 0x10000 ∷ 0x10000 ∷ 0x10001 ∷ 0x10001 ∷ 0x10002 ∷ []

-- The same items, with the second company's edges of label 2 besides: 0→1, 3→0.
pub shared : List ℕ
shared =
    4 ∷ 7 ∷ 0 ∷ 0 ∷ 0 ∷ 0 ∷ 0 ∷ 0 ∷ 0 ∷ 0
    ∷ 0 ∷ 3 ∷ 5 ∷ 6 ∷ 7 ∷ 0x10001 ∷ 0x10002 ∷ 0x20001 ∷ 0x10002 ∷ 0x10003 ∷ 0x10003 ∷ 0x20000
    ∷ 0 ∷ 1 ∷ 3 ∷ 5 ∷ 7 ∷ 0x20003 ∷ 0x10000 ∷ 0x20000 ∷ 0x10000 ∷ 0x10001 ∷ 0x10001 ∷ 0x10002 ∷ []

-- The triangle 0→1, 0→2, 1→2 of label 1.
pub triangle : List ℕ
triangle =
    0x31 ∷ 0x80 ∷ 0x00 ∷ 0x00 ∷ 0x00 ∷ 0x7f ∷ 0xff ∷ 0x80 ∷ 0x00 ∷ 0x00 ∷ 0x00 ∷ 0x7f ∷ 0xff
    ∷ 0x80 ∷ 0x00 ∷ 0x00 ∷ 0x00 ∷ 0x7f ∷ 0xff ∷ 0x82 ∷ 0x02 ∷ 0x10 ∷ 0x09 ∷ 0x40 ∷ 0x20 ∷ []

-- The stores differ.
pub differ : same alone shared ≡ false
unfolding alone shared same
differ = refl

-- The claim speaks of them.
pub two-companies : TwoCompanies triangle alone shared
unfolding alone shared triangle query_of query_fault connected reached store_fault well_formed graph_in store_of entries offsets bit_at field_at fill_set first range all any keep count_if same ascends_from ascending insert_sorted sort flat_map names
two-companies =
    record {
      one_accepted = refl;
      two_accepted = refl;
      vertices = refl;
      labels = refl;
      days = refl;
      others = λ e. record { none_any = refl; named = own-named (query_of triangle) (graph_in alone) (graph_in shared) refl };
    }

pub cannot-see : CannotSee triangle alone shared
cannot-see = non-interference triangle alone shared two-companies

-- The edge 0→1 of any label, and the plan that scans it.
pub any_edge : List ℕ
any_edge = 0x20 ∷ 0x80 ∷ 0x00 ∷ 0x00 ∷ 0x00 ∷ 0x7f ∷ 0xff ∷ 0x80 ∷ 0x00 ∷ 0x00 ∷ 0x00 ∷ 0x7f ∷ 0xff ∷ 0x82 ∷ 0x00 ∷ 0x00 ∷ []

pub scan_only : List ℕ
scan_only = 0x08 ∷ 0x00 ∷ []

-- An edge whose label it names, 0, is in neither graph, as all of the claim's hypothesis but `none_any` asks.
pub zero-named : (s l t : ℕ) → names (query_of any_edge) l ≡ true → has_edge (graph_in alone) s l t ≡ has_edge (graph_in shared) s l t
unfolding alone shared any_edge query_of graph_in field_at bit_at range any keep flat_map names
zero-named = own-named (query_of any_edge) (graph_in alone) (graph_in shared) refl

-- It lists a row more where the second company hangs.
pub zero_seen : (run_answer false alone any_edge scan_only 2 12 1).rows ∷ (run_answer false shared any_edge scan_only 2 12 1).rows ∷ [] ≡ 5 ∷ 6 ∷ []
unfolding alone shared any_edge scan_only flat_map range all any keep count_if total largest same ascends_from ascending insert_sorted sort first bit_at field_at fill_set covers linked portion_length offsets entries store_of graph_in well_formed store_fault paired reached connected query_of query_fault joinable rule_fault covered end_fault rules_fault place operators_of plan_fault check_fault members pack look fits holds allows permits scans scan_rows apply cost_of build_of probe_of pile_after top_rows top_need step_of steps_from plan_rows plan_cost plan_build plan_probe plan_need plan_numbers plan_passes run_fault run_answer
zero_seen = refl

-- So without the condition on label 0 the claim is false.
pub zero-tells : CannotSee any_edge alone shared → ⊥
zero-tells c =
    let alike = c.run false scan_only (replicate 2 0) (replicate 12 0) (none ∷ []) in
    let z : ◌≡◌ {A = ℕ} 5 6 = five ∙ ap (λ (r : AfterRun). r.answer.rows) alike ∙ six in
    omega arith
  where
    none : Record
    none = record { rows = 0; cost = 0 }

    five : 5 ≡ (run_answer false alone any_edge scan_only 2 12 1).rows
    five = sym (ap (λ (l : List ℕ). get_or l 0 0) zero_seen)

    six : (run_answer false shared any_edge scan_only 2 12 1).rows ≡ 6
    six = ap (λ (l : List ℕ). get_or l 1 0) zero_seen
