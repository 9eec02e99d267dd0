-- `store_walk::passes::all_wait` meets its contract: the words that it writes are there. Assumes nothing.
use mathlib.Core.Path.{refl}
use native.Mathlib.Omega.{arith}
use lib.ListN.{length-set}
use Rattle.store_step.proofs.Stepping.{block_in}
use Rattle.store_walk.proofs.passes.all_wait.Goals as goal

pub loop-i-init : goal.loop-i-init
loop-i-init c = (omega arith, refl)

pub bounds-sets-i : goal.bounds-sets-i
bounds-sets-i c = omega (arith, c.loop-i.invariant.1, block_in {set = 0} c.requires.1 c.loop-i.i (omega (arith, c.div_ceil-i-end.ensures)) (omega arith))

pub loop-i-preserved : goal.loop-i-preserved
loop-i-preserved c = (omega arith, simp length-set c.loop-i.invariant.1)
