-- `store_walk::passes::label_pass` meets its contract: the vertices of the words before i are passed. Assumes nothing.
use mathlib.Core.Path.{◌≡◌}
use Prim.Native.Nat.{◌+◌, ◌*◌, ◌≤◌}
use lib.ListN.{length}
use Rattle.store_step.specs.Inner.Walk.{WalkedIn}
use Rattle.store_walk.proofs.passes.label_pass.Given as goal

abbrev pub invariant-loop-i : goal.invariant-loop-i
invariant-loop-i l = WalkedIn l.store l.n l.side l.other l.back l.cursors l.done (l.base + 64 * l.i) × (64 * l.i ≤ l.n + 63) × (length l.cursors ≡ length l.initial.cursors)
    × (length l.done ≡ length l.initial.done) × (length l.sets ≡ length l.initial.sets)
