-- `plan_order::edge_counts` meets its contract: the forward entries are those of the graph's edges. Assumes nothing.
use mathlib.Core.Path.{◌∙◌}
use native.Mathlib.Omega.{arith}
use native.Mathlib.Nat.{add-sub_cancel_left}
use Rattle.adjacency.proofs.Accepted.{store-counts}
use Rattle.plan_order.proofs.Tallies.{forward-room, part-entries, part-counts}
use Rattle.plan_order.proofs.edge_counts.Goals as goal

pub of_store-g-requires : goal.of_store-g-requires
of_store-g-requires c = (store-counts c.args.store.now c.requires).0

pub forward-requires : goal.forward-requires
forward-requires c = omega (arith, c.of_store-g.ensures.0, (store-counts c.args.store.now c.requires).1)

pub overflow_add-from : goal.overflow_add-from
overflow_add-from c = omega (arith, forward-room c.args.store.now c.requires)

pub overflow_add-from-2 : goal.overflow_add-from-2
overflow_add-from-2 c = omega (arith, forward-room c.args.store.now c.requires)

pub overflow_add-from-3 : goal.overflow_add-from-3
overflow_add-from-3 c = omega (arith, forward-room c.args.store.now c.requires, (store-counts c.args.store.now c.requires).1)

pub offset_bounds-store-from : goal.offset_bounds-store-from
offset_bounds-store-from c = omega (arith, (store-counts c.args.store.now c.requires).1)

pub slice_bounds-count_labels-end : goal.slice_bounds-count_labels-end
slice_bounds-count_labels-end c = omega (arith, forward-room c.args.store.now c.requires)

pub count_labels-requires : goal.count_labels-requires
count_labels-requires c = rw (c.forward.ensures, c.of_store-g.ensures.0, c.of_store-g.ensures.1, add-sub_cancel_left)
    (part-entries c.args.store.now c.requires)

pub returns : goal.returns
returns c = c.count_labels.ensures
    ∙ rw (c.forward.ensures, c.of_store-g.ensures.0, c.of_store-g.ensures.1, add-sub_cancel_left)
    (part-counts c.args.store.now c.requires)
