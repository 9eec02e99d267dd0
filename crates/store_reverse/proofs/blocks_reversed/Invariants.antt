-- `store_reverse::blocks_reversed` meets its contract: the entries of the blocks before `base` have their reverses. Assumes nothing.
use mathlib.Core.Path.{◌≡◌}
use Prim.Native.Nat.{◌+◌, ◌-◌}
use lib.ListN.{length}
use Rattle.store_reverse.specs.Inner.Begun.{Flat}
use Rattle.store_reverse.proofs.Reverses.{Tested}
use Rattle.store_reverse.proofs.blocks_reversed.Given as goal

abbrev pub invariant-loop-base : goal.invariant-loop-base
invariant-loop-base l = (length l.begun ≡ 1024) × ((f : Flat l.store l.n l.other l.starts l.entries) → Tested f l.next l.base)

abbrev pub decreases-loop-base : goal.decreases-loop-base
decreases-loop-base l = length l.entries + 1024 - l.base
