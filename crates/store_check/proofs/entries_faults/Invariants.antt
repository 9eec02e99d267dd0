-- `store_check::entries_faults` meets its contract: the sum is that of the entries before i. Assumes nothing.
use mathlib.Core.Path.{◌≡◌}
use Prim.Native.Nat.{◌*◌, ◌≤◌}
use lib.ListN.{length, take}
use Rattle.lists.specs.Lists.{total}
use Rattle.store_check.specs.Inner.Order.{faults_of}
use Rattle.store_check.proofs.entries_faults.Given as goal

abbrev pub invariant-loop-entry : goal.invariant-loop-entry
invariant-loop-entry l = (l.entry-index ≤ length l.part) × (l.sum ≤ 3 * l.entry-index) × (l.sum ≡ total (faults_of l.n) (take l.entry-index l.part))
