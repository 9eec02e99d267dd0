-- `words::used` meets its contract: the words from `end` on are 0. Assumes nothing.
use Prim.Native.Nat.{◌≤◌}
use lib.ListN.{length}
use Rattle.words.proofs.Zeros.{ZerosIn}
use Rattle.words.proofs.used.Given as goal

abbrev pub invariant-loop-end : goal.invariant-loop-end
invariant-loop-end l = (l.end ≤ length l.part) × ZerosIn l.part l.end (length l.part)

abbrev pub decreases-loop-end : goal.decreases-loop-end
decreases-loop-end l = l.end
