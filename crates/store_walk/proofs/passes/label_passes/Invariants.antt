-- `store_walk::passes::label_passes` meets its contract: the labels below `label` are passed. Assumes nothing.
use mathlib.Core.Path.{◌≡◌}
use Prim.Native.Nat.{◌*◌, ◌≤◌, ◌<◌}
use lib.ListN.{length}
use Rattle.store_step.specs.Inner.Walk.{WalkedIn}
use Rattle.store_walk.proofs.passes.label_passes.Given as goal

abbrev pub invariant-loop-label : goal.invariant-loop-label
invariant-loop-label l = WalkedIn l.store l.n l.side l.other l.back l.cursors l.done (l.label * 65536) × (0 < l.label) × (l.label ≤ 256) × (length l.cursors ≡ length l.initial.cursors)
    × (length l.done ≡ length l.initial.done) × (length l.sets ≡ length l.initial.sets)
