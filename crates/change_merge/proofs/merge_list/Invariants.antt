-- `change_merge::merge_list` meets its contract. Assumes nothing.
use Prim.Native.Nat.{◌+◌, ◌-◌}
use lib.ListN.{length}
use Rattle.change_merge.specs.Inner.Merge.{side_keys}
use Rattle.change_merge.proofs.Merging.{Merging}
use Rattle.change_merge.proofs.merge_list.Given as goal

abbrev pub invariant-loop-e : goal.invariant-loop-e
invariant-loop-e l = Merging l.list (side_keys l.file l.keys) l.initial.out l.v l.from l.out l.at l.i l.len l.e

abbrev pub decreases-loop-e : goal.decreases-loop-e
decreases-loop-e l = (length l.list - l.i) + (l.k - l.at)
