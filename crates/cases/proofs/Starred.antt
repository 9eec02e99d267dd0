-- The starred cases hold, all of them, by computation. Assumes nothing.
use mathlib.Core.Path.{◌≡◌, refl}
use mathlib.Core.Bool.{true}
use mathlib.Core.List.{flat_map, flatten}
use Rattle.lists.specs.Lists.{range, all, any, keep, count_if, total, largest, same, ascends_from, ascending, insert_sorted, sort}
use Rattle.lists.specs.Refusal.{first}
use Rattle.packed.specs.Field.{bit_at, field_at, fill_set}
use Rattle.graph.specs.Graph.{covers, linked, portion_length}
use Rattle.graph.specs.File.{graph_of, graph_fault}
use Rattle.graph.specs.Store.{offsets, entries, store_of, load_fault, load_store, graph_in, well_formed, store_fault}
use Rattle.query.specs.Query.{paired, reached, connected}
use Rattle.query.specs.File.{query_of, query_fault}
use Rattle.plan.specs.Check.{joinable, rule_fault, covered, end_fault, rules_fault}
use Rattle.plan.specs.File.{place, operators_of, plan_fault, check_fault}
use Rattle.matching.specs.Row.{members, pack, look}
use Rattle.matching.specs.Match.{fits, holds, allows, permits}
use Rattle.operator_spec.specs.Scan.{scans, scan_rows}
use Rattle.operator_spec.specs.Extend.{candidates, grown, same_used, reuses, extend_after, extend_rows, portion_for, row_cost, cost_after, extend_cost}
use Rattle.operator_spec.specs.Join.{agree, partners, join_rows, heads}
use Rattle.run_spec.specs.Pile.{longest_set, apply, cost_of, build_of, probe_of, pile_after, top_rows, top_need, step_of, steps_from}
use Rattle.run_spec.specs.Run.{plan_rows, plan_cost, plan_build, plan_probe, plan_need, plan_records, plan_numbers, plan_passes, run_fault, run_answer, run_list, run_records}
use Rattle.cases.specs.Cases.{passes, starred}

pub starred-pass : all passes starred ≡ true
unfolding passes starred flat_map flatten range all any keep count_if total largest same ascends_from ascending insert_sorted sort first bit_at field_at fill_set covers linked portion_length graph_of graph_fault offsets entries store_of load_fault load_store graph_in well_formed store_fault paired reached connected query_of query_fault joinable rule_fault covered end_fault rules_fault place operators_of plan_fault check_fault members pack look fits holds allows permits scans scan_rows candidates grown same_used reuses extend_after extend_rows portion_for row_cost cost_after extend_cost longest_set agree partners join_rows heads apply cost_of build_of probe_of pile_after top_rows top_need step_of steps_from plan_rows plan_cost plan_build plan_probe plan_need plan_records plan_numbers plan_passes run_fault run_answer run_list run_records
starred-pass = refl
