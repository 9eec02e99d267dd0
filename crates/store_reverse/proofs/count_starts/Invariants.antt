-- `store_reverse::count_starts` meets its contract: the lists of the vertices below v are counted. Assumes nothing.
use Prim.Native.Nat.{◌-◌, ◌≤◌}
use lib.ListN.{length}
use Rattle.counting_sort.proofs.Counting.{Tallied}
use Rattle.store_reverse.specs.Inner.Begun.{start_in}
use Rattle.store_reverse.proofs.count_starts.Given as goal

abbrev pub invariant-loop-v : goal.invariant-loop-v
invariant-loop-v l = (l.next ≤ l.v) × (l.v ≤ length l.starts - 1) × Tallied (start_in l.starts l.base) 1024 l.v l.counts
