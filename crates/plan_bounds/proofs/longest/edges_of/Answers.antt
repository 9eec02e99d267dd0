-- `plan_bounds::longest::edges_of` meets its contract: the forward entries are those of the graph's edges. Assumes nothing.
use mathlib.Core.Path.{◌∙◌}
use native.Mathlib.Omega.{arith}
use native.Mathlib.Nat.{add-sub_cancel_left}
use Rattle.adjacency.proofs.Accepted.{store-counts}
use Rattle.plan_order.proofs.Tallies.{forward-room}
use Rattle.plan_bounds.proofs.Seeing.{edges-label}
use Rattle.plan_bounds.proofs.longest.edges_of.Goals as goal

pub of_store-g-requires : goal.of_store-g-requires
of_store-g-requires c = (store-counts c.args.store.now c.requires.0).0

pub forward-requires : goal.forward-requires
forward-requires c = omega (arith, c.of_store-g.ensures.0, (store-counts c.args.store.now c.requires.0).1)

pub overflow_add-from : goal.overflow_add-from
overflow_add-from c = omega (arith, forward-room c.args.store.now c.requires.0)

pub overflow_add-from-2 : goal.overflow_add-from-2
overflow_add-from-2 c = omega (arith, forward-room c.args.store.now c.requires.0)

pub overflow_add-from-3 : goal.overflow_add-from-3
overflow_add-from-3 c = omega (arith, forward-room c.args.store.now c.requires.0, (store-counts c.args.store.now c.requires.0).1)

pub offset_bounds-store-from : goal.offset_bounds-store-from
offset_bounds-store-from c = omega (arith, (store-counts c.args.store.now c.requires.0).1)

pub slice_bounds-covered-end : goal.slice_bounds-covered-end
slice_bounds-covered-end c = omega (arith, forward-room c.args.store.now c.requires.0)

pub returns : goal.returns
returns c =
    c.covered.ensures
    ∙ rw (c.forward.ensures, c.of_store-g.ensures.0, c.of_store-g.ensures.1, add-sub_cancel_left)
    (edges-label c.args.store.now c.requires.0 c.args.label c.requires.1)
