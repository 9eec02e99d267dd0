-- `change_merge::move_offsets` meets its contract. Assumes nothing.
use native.Mathlib.Omega.{arith}
use mathlib.Core.Path.{◌≡◌}
use Rattle.change_merge.proofs.Copying.{moved_none, moved_more}
use Rattle.change_merge.proofs.move_offsets.Goals as goal

pub loop-i-init : goal.loop-i-init
loop-i-init c = moved_none _ _ _ _

pub bounds-from-i : goal.bounds-from-i
bounds-from-i c = omega (arith, c.requires.0, c.loop-i-test.true)

pub overflow_sub-to : goal.overflow_sub-to
overflow_sub-to c = (c.requires.2 _ c.loop-i-test.true).0

pub overflow_add-to : goal.overflow_add-to
overflow_add-to c = omega (arith, (c.requires.2 _ c.loop-i-test.true).1)

pub bounds-to-i : goal.bounds-to-i
bounds-to-i c = omega (arith, c.requires.1, c.loop-i.invariant.long, c.loop-i-test.true)

pub loop-i-preserved : goal.loop-i-preserved
loop-i-preserved c = moved_more c.loop-i.invariant (omega (arith, c.requires.1, c.loop-i-test.true))

pub returns : goal.returns
returns c = let e : c.loop-i.i ≡ c.args.count = omega arith in rw e at c.loop-i.invariant
