-- The bounds worked by hand hold, all of them, by computation. Assumes nothing.
use mathlib.Core.Path.{◌≡◌, refl}
use mathlib.Core.Bool.{true}
use mathlib.Core.List.{flat_map}
use Rattle.lists.specs.Lists.{range, all, any, keep, count_if, total, largest, same, ascends_from, ascending, insert_sorted, sort}
use Rattle.lists.specs.Refusal.{first}
use Rattle.packed.specs.Field.{bit_at, field_at, fill_set}
use Rattle.graph.specs.Graph.{covers, portion_length}
use Rattle.graph.specs.File.{graph_of, graph_fault}
use Rattle.graph.specs.Store.{offsets, entries, store_of, load_fault, load_store, graph_in, well_formed, store_fault}
use Rattle.query.specs.Query.{reached, connected}
use Rattle.query.specs.File.{query_of, query_fault}
use Rattle.plan.specs.Check.{joinable, rule_fault, covered, end_fault, rules_fault}
use Rattle.plan.specs.File.{place, operators_of, plan_fault, check_fault}
use Rattle.plan_order.specs.Order.{edges_of}
use Rattle.matching.specs.Row.{members}
use Rattle.operator_spec.specs.Join.{heads}
use Rattle.plan_bounds.specs.Bounds.{least, longest_portion, longest_for, least_portion, sum_of_portions, rows_bound, cost_bound, apply_bound, bounds_after, step_bounds, top_rows_bound, top_need_bound, list_bound, need_bound, costs_bound, largest_bound}
use Rattle.plan_bounds.specs.Answer.{bounds_fault, bounds_answer}
use Rattle.cases.specs.Bounds.{bounded, worked}

pub worked-hold : all bounded worked ≡ true
unfolding bounded worked flat_map range all any keep count_if total largest same ascends_from ascending insert_sorted sort first bit_at field_at fill_set covers portion_length graph_of graph_fault offsets entries store_of load_fault load_store graph_in well_formed store_fault reached connected query_of query_fault joinable rule_fault covered end_fault rules_fault place operators_of plan_fault check_fault edges_of members heads least longest_portion longest_for least_portion sum_of_portions rows_bound cost_bound apply_bound bounds_after step_bounds top_rows_bound top_need_bound list_bound need_bound costs_bound largest_bound bounds_fault bounds_answer
worked-hold = refl
