-- The claims of all orderings hold. Assumes nothing.
use mathlib.Core.Path.{◌≡◌, refl, sym, ◌∙◌, ap}
use mathlib.Core.Bool.{Bool, true, ◌&&◌}
use mathlib.Core.List.{List, [], ◌∷◌, map}
use Prim.Native.Nat.{ℕ, ◌≤◌}
use native.Mathlib.Nat.{div-add-mod'}
use lib.Dec.{eqb, ltb}
use lib.ListN.{length}
use borrow.Author.Tests.{lt-ltb, eq-eqb}
use Rattle.lists.specs.Lists.{bit, all, any, count_if, same}
use Rattle.lists.proofs.Tests.{and_both}
use Rattle.lists.proofs.Any.{any-count}
use Rattle.lists.proofs.Count.{all_map}
use Rattle.graph.specs.Graph.{Graph}
use Rattle.query.specs.Query.{Query, connected}
use Rattle.query.specs.File.{query_of, query_fault}
use Rattle.query_file.proofs.FileLaws.{query-connected}
use Rattle.matching.proofs.Cuts.{proper}
use Rattle.plan.specs.Plan.{extend}
use Rattle.plan.specs.Check.{rules_fault}
use Rattle.run_spec.proofs.Accepted.{edges_proper}
use Rattle.plan_order.specs.Order.{scan_edge, extend_order, drawn_operators}
use Rattle.planner.proofs.Drawing.{Sized, read-sized, scan-below, order_below, drawn-rules}
use Rattle.plan_spectrum.specs.Orders.{orderings, plan_of, has, accepted, drawn_ordering}
use Rattle.plan_spectrum.specs.Spectrum.{cost_of}
use Rattle.plan_spectrum.specs.Claims.{EveryOrdering, EveryOrderingListed}
use Rattle.plan_spectrum.proofs.Exact.{each_once}
use Rattle.plan_spectrum.proofs.Bounds.{few-orderings}
use Rattle.plan_spectrum.proofs.Sorted.{orderings-in-order}

drawn-plan : (g : Graph) (q : Query) → plan_of (drawn_ordering g q) ≡ drawn_operators g q
unfolding plan_of
drawn-plan g q = refl

-- The drawn plan is accepted.
drawn-accepted : (g : Graph) (q : Query) → Sized q → all (proper q.vertices) q.edges ≡ true → connected q ≡ true → accepted q (drawn_operators g q) ≡ true
unfolding all
drawn-accepted g q sized ok whole =
    and_both (all (has q) (drawn_operators g q)) (eqb (rules_fault q [] (drawn_operators g q)) 0)
    (and_both (ltb (scan_edge g q) (length q.edges)) (all (has q) (map extend (extend_order g q))) (lt-ltb _ _ (scan-below g q sized))
    (all_map (has q) extend (extend_order g q) ∙ order_below g q sized))
    (eq-eqb _ 0 (drawn-rules g q sized ok whole))

pub every-ordering : (g : Graph) (query : List ℕ) → EveryOrderingListed g query
every-ordering g query read =
    let q = query_of query in
    let sized = read-sized query read in
    let ok = edges_proper query read in
    record {
      each_once = each_once q sized.at-least ok;
      in_order = orderings-in-order q;
      few = λ h. few-orderings q sized.at-least h sized.few_edges ok;
      cost_read = λ o. div-add-mod' (cost_of g q o) 4294967296;
      drawn =
          any-count (same (drawn_ordering g q)) (orderings q)
          ∙ ap (ltb 0)
          (each_once q sized.at-least ok (drawn_ordering g q)
          ∙ ap bit (ap (accepted q) (drawn-plan g q) ∙ drawn-accepted g q sized ok (query-connected query read)));
      drawn-plan = drawn-plan g q;
    }
