-- `store_walk::few_labels` meets its contract: no more labels are counted than few. Assumes nothing.
use Prim.Native.Nat.{◌+◌, ◌-◌, ◌≤◌}
use lib.ListN.{length}
use Rattle.store_walk.proofs.few_labels.Given as goal

abbrev pub invariant-loop-i : goal.invariant-loop-i
invariant-loop-i l = (l.labels ≤ 16) × (l.i ≤ length l.entries + 16)

abbrev pub decreases-loop-i : goal.decreases-loop-i
decreases-loop-i l = length l.entries + 16 - l.i
