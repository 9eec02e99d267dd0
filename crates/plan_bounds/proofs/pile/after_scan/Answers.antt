-- `plan_bounds::pile::after_scan` meets its contract (`scanned`). Assumes nothing.
use mathlib.Core.Path.{refl, ◌∙◌, ap}
use Rattle.graph.specs.Store.{graph_in}
use Rattle.query.specs.Inner.Struct.{query_in}
use Rattle.plan_order.specs.Order.{edges_of}
use Rattle.plan_order.proofs.Degrees.{edge-ends, edge-label, label-byte, ends-mask}
use Rattle.plan_bounds.proofs.Seeing.{edges_few}
use Rattle.plan_bounds.proofs.Turning.{scanned}
use Rattle.plan_bounds.proofs.pile.after_scan.Goals as goal

pub edge-e-requires : goal.edge-e-requires
edge-e-requires c = (c.requires.2, c.requires.0.held.edges)

pub ends-requires : goal.ends-requires
ends-requires c = edge-ends c.args.q c.args.i c.requires.2 c.edge-e.result c.edge-e.ensures c.requires.0.held

pub edges_of-requires : goal.edges_of-requires
edges_of-requires c = (c.requires.1, label-byte c.args.q c.args.i c.requires.2 c.edge-e.result c.edge-e.ensures c.requires.0)

pub returns : goal.returns
returns c = let l = edge-label c.args.q c.args.i c.requires.2 c.edge-e.result c.edge-e.ensures in
    scanned (graph_in c.args.store.now) (query_in c.args.q) c.args.i c.args.pile _ _ c.put.ensures
    (ends-mask c.args.q c.args.i c.edge-e.result _ c.edge-e.ensures c.ends.ensures)
    (c.edges_of.ensures ∙ ap (edges_of (graph_in c.args.store.now)) l)
    (edges_few c.args.store.now c.requires.1 _) refl
