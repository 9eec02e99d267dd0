-- `store_check::drops` meets its contract: the words up to i are counted. Assumes nothing.
use Prim.Native.Nat.{◌≤◌, ◌<◌}
use lib.ListN.{length}
use Rattle.store_check.specs.Inner.Order.{Drops}
use Rattle.store_check.proofs.drops.Given as goal

abbrev pub invariant-loop-i : goal.invariant-loop-i
invariant-loop-i l = (l.i < length l.part) × (l.sum ≤ l.i) × Drops l.part l.i l.sum
