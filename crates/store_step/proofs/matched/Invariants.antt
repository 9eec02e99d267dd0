-- `store_step::matched` meets its contract: the entries up to i are matched, and `last` is the last of them. Assumes nothing.
use Prim.Native.Nat.{◌-◌}
use lib.ListN.{length}
use Rattle.store_step.proofs.Matching.{Matching}
use Rattle.store_step.proofs.matched.Given as goal

abbrev pub invariant-loop-i : goal.invariant-loop-i
invariant-loop-i l = Matching l.n l.v l.base l.list l.back l.from l.initial.cursors l.cursors l.last l.i

abbrev pub decreases-loop-i : goal.decreases-loop-i
decreases-loop-i l = length l.list - l.i
