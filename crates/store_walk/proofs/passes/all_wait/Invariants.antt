-- `store_walk::passes::all_wait` meets its contract: the words that it writes are there. Assumes nothing.
use mathlib.Core.Path.{◌≡◌}
use Prim.Native.Nat.{◌+◌, ◌*◌, ◌≤◌}
use lib.ListN.{length}
use Rattle.store_walk.proofs.passes.all_wait.Given as goal

abbrev pub invariant-loop-i : goal.invariant-loop-i
invariant-loop-i l = (64 * l.i ≤ l.n + 63) × (length l.sets ≡ length l.initial.sets)
