-- `change_merge::move_offsets` meets its contract. Assumes nothing.
use Rattle.change_merge.specs.Inner.Merge.{Moved}
use Rattle.change_merge.proofs.move_offsets.Given as goal

abbrev pub invariant-loop-i : goal.invariant-loop-i
invariant-loop-i l = Moved l.from l.i l.less l.more l.initial.to l.to
