-- `plan_spectrum::writing::write_entries` meets its contract. Assumes nothing.
use Prim.Native.Nat.{◌+◌, ◌-◌, ◌*◌}
use native.Mathlib.Omega.{arith}
use lib.ListN.{length}
use borrow.Rule.Slice.PartMut.{same_len_mid}
use Rattle.plan_spectrum.proofs.Entering.{list-fits, room_fits, enter-start, enter-asks, entered, enter-done}
use Rattle.plan_spectrum.proofs.writing.write_entries.Goals as goal

pub overflow_add-each : goal.overflow_add-each
overflow_add-each c = omega (arith, c.requires.3)

pub loop-k-init : goal.loop-k-init
loop-k-init c = enter-start c.args.width c.args.plans c.args.list.now c.args.costs.now c.args.out.now c.requires.0 c.requires.1 c.requires.2

pub overflow_mul-k : goal.overflow_mul-k
overflow_mul-k c = let lp = c.loop-k in
    omega (arith, list-fits c.args.width c.args.plans c.args.list.now c.args.costs.now c.args.out.now c.requires.0 c.requires.1 c.requires.2 lp.k c.loop-k-test.true)

pub offset_bounds-list-k : goal.offset_bounds-list-k
offset_bounds-list-k c = let lp = c.loop-k in
    omega (arith, list-fits c.args.width c.args.plans c.args.list.now c.args.costs.now c.args.out.now c.requires.0 c.requires.1 c.requires.2 lp.k c.loop-k-test.true)

pub slice_bounds-put_entry-count : goal.slice_bounds-put_entry-count
slice_bounds-put_entry-count c = let lp = c.loop-k in
    omega (arith, list-fits c.args.width c.args.plans c.args.list.now c.args.costs.now c.args.out.now c.requires.0 c.requires.1 c.requires.2 lp.k c.loop-k-test.true)

pub slice_bounds-put_entry-start : goal.slice_bounds-put_entry-start
slice_bounds-put_entry-start c = let lp = c.loop-k in
    omega (arith, list-fits c.args.width c.args.plans c.args.list.now c.args.costs.now c.args.out.now c.requires.0 c.requires.1 c.requires.2 lp.k c.loop-k-test.true)

pub slice_bounds-put_entry-end : goal.slice_bounds-put_entry-end
slice_bounds-put_entry-end c = let lp = c.loop-k in
    omega (arith, list-fits c.args.width c.args.plans c.args.list.now c.args.costs.now c.args.out.now c.requires.0 c.requires.1 c.requires.2 lp.k c.loop-k-test.true)

pub offset_bounds-costs-k : goal.offset_bounds-costs-k
offset_bounds-costs-k c = let lp = c.loop-k in
    omega (arith, c.requires.1, c.loop-k-test.true)

pub bounds-costs-k : goal.bounds-costs-k
bounds-costs-k c = let lp = c.loop-k in
    omega (arith, c.requires.1, c.loop-k-test.true)

pub overflow_mul-k-in-loop-k : goal.overflow_mul-k-in-loop-k
overflow_mul-k-in-loop-k c = let lp = c.loop-k in
    omega (arith, room_fits c.args.width c.args.plans c.args.list.now c.args.costs.now c.args.out.now c.requires.0 c.requires.1 c.requires.2 lp.k c.loop-k-test.true, lp.invariant.kept)

pub offset_bounds-out-k : goal.offset_bounds-out-k
offset_bounds-out-k c = let lp = c.loop-k in
    omega (arith, room_fits c.args.width c.args.plans c.args.list.now c.args.costs.now c.args.out.now c.requires.0 c.requires.1 c.requires.2 lp.k c.loop-k-test.true, lp.invariant.kept)

pub slice_bounds-put_entry-count-in-loop-k : goal.slice_bounds-put_entry-count-in-loop-k
slice_bounds-put_entry-count-in-loop-k c = let lp = c.loop-k in
    omega (arith, room_fits c.args.width c.args.plans c.args.list.now c.args.costs.now c.args.out.now c.requires.0 c.requires.1 c.requires.2 lp.k c.loop-k-test.true, lp.invariant.kept)

pub slice_bounds-put_entry-start-in-loop-k : goal.slice_bounds-put_entry-start-in-loop-k
slice_bounds-put_entry-start-in-loop-k c = let lp = c.loop-k in
    omega (arith, room_fits c.args.width c.args.plans c.args.list.now c.args.costs.now c.args.out.now c.requires.0 c.requires.1 c.requires.2 lp.k c.loop-k-test.true, lp.invariant.kept)

pub slice_bounds-put_entry-end-in-loop-k : goal.slice_bounds-put_entry-end-in-loop-k
slice_bounds-put_entry-end-in-loop-k c = let lp = c.loop-k in
    omega (arith, room_fits c.args.width c.args.plans c.args.list.now c.args.costs.now c.args.out.now c.requires.0 c.requires.1 c.requires.2 lp.k c.loop-k-test.true, lp.invariant.kept)

pub put_entry-requires : goal.put_entry-requires
put_entry-requires c = let lp = c.loop-k in
    enter-asks c.args.width c.args.plans c.args.list.now c.args.costs.now c.args.out.now c.requires.0 c.requires.1 c.requires.2 lp.out lp.k lp.invariant c.loop-k-test.true

pub loop-k-preserved : goal.loop-k-preserved
loop-k-preserved c = let lp = c.loop-k in
    entered c.args.width c.args.plans c.args.list.now c.args.costs.now c.args.out.now c.requires.0 c.requires.1 c.requires.2 lp.out lp.k lp.invariant c.loop-k-test.true c.put_entry.new.out c.put_entry.ensures
    (same_len_mid (lp.k * (c.args.width + 2)) (length lp.out - lp.k * (c.args.width + 2)) lp.out c.put_entry.new.out c.put_entry.auto.out)

pub returns : goal.returns
returns c = let lp = c.loop-k in
    enter-done c.args.width c.args.plans c.args.list.now c.args.costs.now c.args.out.now c.requires.0 c.requires.1 c.requires.2 lp.out lp.k lp.invariant (λ h. absurd (omega (arith, h)))
