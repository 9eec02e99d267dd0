-- `change_merge::merge_side` meets its contract. Assumes nothing.
use Prim.Native.Nat.{◌-◌}
use Rattle.change_merge.specs.Inner.Merge.{side_keys, keys_on}
use Rattle.change_merge.proofs.Siding.{Siding}
use Rattle.change_merge.proofs.merge_side.Given as goal

abbrev pub invariant-loop-next : goal.invariant-loop-next
invariant-loop-next l = Siding (keys_on l.old l.n l.at) (side_keys l.file l.keys) l.n l.initial.side l.v l.side l.next l.len

abbrev pub decreases-loop-next : goal.decreases-loop-next
decreases-loop-next l = l.n - l.v
