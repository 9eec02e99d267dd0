-- `plan_spectrum::listing::list_orderings` meets its contract. Assumes nothing.
use Prim.Native.Nat.{◌-◌, ◌*◌}
use native.Mathlib.Omega.{arith}
use lib.ListN.{length}
use borrow.Rule.Slice.PartMut.{same_len_mid}
use Rattle.plan.proofs.Sets.{edge-source, edge-target}
use Rattle.plan_spectrum.proofs.Scanning.{scan-start, scan-fits, scan-done, scan-asks, scanned, scan-small}
use Rattle.plan_spectrum.proofs.listing.list_orderings.Goals as goal

pub overflow_sub-width : goal.overflow_sub-width
overflow_sub-width c = omega (arith, c.requires.0.at-least)

pub loop-i-init : goal.loop-i-init
loop-i-init c = scan-start c.args.q c.requires.0 c.args.out.now c.requires.1

pub overflow_cast-row : goal.overflow_cast-row
overflow_cast-row c = omega (arith, c.requires.0.held.edges, c.loop-i-test.true)

pub edge-requires : goal.edge-requires
edge-requires c = (c.loop-i-test.true, c.requires.0.held.edges)

pub ends-requires : goal.ends-requires
ends-requires c = (
  rw c.edge.ensures (edge-source c.args.q c.requires.0.held c.loop-i.i c.loop-i-test.true),
  rw c.edge.ensures (edge-target c.args.q c.requires.0.held c.loop-i.i c.loop-i-test.true),
)

pub overflow_sub-q : goal.overflow_sub-q
overflow_sub-q c = omega (arith, c.requires.0.at-least)

pub overflow_mul-found : goal.overflow_mul-found
overflow_mul-found c = let lp = c.loop-i in
    omega (arith, scan-fits c.args.q c.requires.0 c.args.out.now c.requires.1 lp.out lp.found lp.i lp.invariant)

pub offset_bounds-out-found : goal.offset_bounds-out-found
offset_bounds-out-found c = let lp = c.loop-i in
    omega (arith, scan-fits c.args.q c.requires.0 c.args.out.now c.requires.1 lp.out lp.found lp.i lp.invariant)

pub slice_bounds-put_orders-count : goal.slice_bounds-put_orders-count
slice_bounds-put_orders-count c = let lp = c.loop-i in
    omega (arith, scan-fits c.args.q c.requires.0 c.args.out.now c.requires.1 lp.out lp.found lp.i lp.invariant)

pub slice_bounds-put_orders-start : goal.slice_bounds-put_orders-start
slice_bounds-put_orders-start c = let lp = c.loop-i in
    omega (arith, scan-fits c.args.q c.requires.0 c.args.out.now c.requires.1 lp.out lp.found lp.i lp.invariant)

pub slice_bounds-put_orders-end : goal.slice_bounds-put_orders-end
slice_bounds-put_orders-end c = let lp = c.loop-i in
    omega (arith, scan-fits c.args.q c.requires.0 c.args.out.now c.requires.1 lp.out lp.found lp.i lp.invariant)

pub put_orders-found-requires : goal.put_orders-found-requires
put_orders-found-requires c = let lp = c.loop-i in
    scan-asks c.args.q c.requires.0 c.args.out.now c.requires.1 lp.out lp.found lp.i lp.invariant c.loop-i-test.true c.ends.result c.edge.result c.edge.ensures c.ends.ensures

pub overflow_add-found : goal.overflow_add-found
overflow_add-found c = let lp = c.loop-i in
    omega (arith, scan-small c.args.q c.requires.0 c.args.out.now c.requires.1 lp.out lp.found lp.i lp.invariant c.loop-i-test.true c.ends.result c.edge.result c.edge.ensures c.ends.ensures c.put_orders-found.new.out c.put_orders-found.result c.put_orders-found.ensures)

pub loop-i-preserved : goal.loop-i-preserved
loop-i-preserved c = let lp = c.loop-i in
    scanned c.args.q c.requires.0 c.args.out.now c.requires.1 lp.out lp.found lp.i lp.invariant c.loop-i-test.true c.ends.result c.edge.result c.edge.ensures c.ends.ensures c.put_orders-found.new.out c.put_orders-found.result c.put_orders-found.ensures
    (same_len_mid (lp.found * (c.args.q.vertices - 1)) (length lp.out - lp.found * (c.args.q.vertices - 1)) lp.out c.put_orders-found.new.out c.put_orders-found.auto.out)

pub returns : goal.returns
returns c = let lp = c.loop-i in
    scan-done c.args.q c.requires.0 c.args.out.now c.requires.1 lp.out lp.found lp.i lp.invariant (λ h. absurd (omega (arith, h)))
