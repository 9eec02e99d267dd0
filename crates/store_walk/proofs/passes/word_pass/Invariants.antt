-- `store_walk::passes::word_pass` meets its contract: the vertices of the word below the lowest of w are passed. Assumes nothing.
use mathlib.Core.Path.{◌≡◌}
use Prim.Native.Nat.{◌+◌, ◌*◌, ◌^◌, ◌<◌}
use lib.ListN.{length}
use Rattle.bitset.specs.Inner.Set.{lowest_bit}
use Rattle.store_step.specs.Inner.Walk.{WalkedIn}
use Rattle.store_walk.proofs.passes.word_pass.Given as goal

abbrev pub invariant-loop-w : goal.invariant-loop-w
invariant-loop-w l = WalkedIn l.store l.n l.side l.other l.back l.cursors l.done (l.base + 64 * l.i + lowest_bit l.w) × (l.w < 2 ^ 64) × (length l.cursors ≡ length l.initial.cursors)
    × (length l.done ≡ length l.initial.done) × (length l.sets ≡ length l.initial.sets)

abbrev pub decreases-loop-w : goal.decreases-loop-w
decreases-loop-w l = l.w
