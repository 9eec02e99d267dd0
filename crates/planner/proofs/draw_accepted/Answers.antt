-- `planner::draw_accepted` meets its contract. Assumes nothing.
-- The scan's edge, and that it is one.
use mathlib.Core.Path.{◌≡◌, sym, ◌∙◌}
use Prim.Native.Nat.{◌<◌}
use native.Mathlib.Omega.{arith}
use Rattle.graph.specs.Store.{graph_in}
use Rattle.query.specs.Inner.Struct.{query_in}
use Rattle.plan.proofs.Sets.{edges-length}
use Rattle.plan_order.specs.Order.{scan_edge}
use Rattle.planner.proofs.Answers.{drawn-short, drawn-whole}
use Rattle.planner.proofs.Drawing.{drawable-sized, scan-below, drawn-size, drawn-left}
use Rattle.plan_order.proofs.Tallies.{scan-chosen}
use Rattle.plan_order.proofs.Degrees.{vertices-in}
use Rattle.planner.proofs.draw_accepted.Goals as goal

pub returns-then-plan-bytes : goal.returns-then-plan-bytes
returns-then-plan-bytes c = let g = graph_in c.args.store.now in
    let q = query_in c.args.q in
    let size = c.plan_bytes-bytes.ensures ∙ drawn-size g q (drawable-sized c.args.q c.requires.0) c.args.q.vertices (sym (vertices-in c.args.q)) in
    rw c.refused.ensures (drawn-short g q c.args.plan.now (rw (← size) c.if-plan-bytes.true))

pub put_plan-requires : goal.put_plan-requires
put_plan-requires c = let scan-is : c.scan_edge-edge.result ≡ scan_edge (graph_in c.args.store.now) (query_in c.args.q) = c.scan_edge-edge.ensures
    ∙ scan-chosen (graph_in c.args.store.now) (query_in c.args.q) c.edge_counts.result c.args.q.edges c.edge_counts.ensures (sym (edges-length c.args.q)) c.requires.0.labels in
    let edge-below : c.scan_edge-edge.result < c.args.q.edges = omega (arith, scan-is, edges-length c.args.q, scan-below (graph_in c.args.store.now) (query_in c.args.q) (drawable-sized c.args.q c.requires.0)) in
    (c.requires.0, edge-below, rw (← c.plan_bytes-bytes.ensures) c.if-plan-bytes.false)

pub returns : goal.returns
returns c = let scan-is : c.scan_edge-edge.result ≡ scan_edge (graph_in c.args.store.now) (query_in c.args.q) = c.scan_edge-edge.ensures
    ∙ scan-chosen (graph_in c.args.store.now) (query_in c.args.q) c.edge_counts.result c.args.q.edges c.edge_counts.ensures (sym (edges-length c.args.q)) c.requires.0.labels in
    let g = graph_in c.args.store.now in
    let q = query_in c.args.q in
    let sized = drawable-sized c.args.q c.requires.0 in
    let n = sym (vertices-in c.args.q) in
    let size = c.plan_bytes-bytes.ensures ∙ drawn-size g q sized c.args.q.vertices n in
    drawn-whole g q c.args.plan.now c.put_plan.new.plan c.plan_bytes-bytes.result (rw (← size) c.if-plan-bytes.false) size
    (c.put_plan.ensures ∙ drawn-left g q sized c.args.q.vertices n c.args.plan.now c.scan_edge-edge.result (scan-is))
