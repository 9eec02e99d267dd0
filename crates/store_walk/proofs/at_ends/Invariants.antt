-- `store_walk::at_ends` meets its contract: where none of the cursors before i is apart, they stand at their ends.
-- Assumes nothing.
use mathlib.Core.Path.{◌≡◌}
use Prim.Native.Nat.{ℕ, ◌≤◌, ◌<◌}
use lib.ListN.{length, get_or}
use Rattle.store_walk.proofs.at_ends.Given as goal

abbrev pub invariant-loop-i : goal.invariant-loop-i
invariant-loop-i l = (l.i ≤ length l.ends) × (l.apart ≤ l.i) × (l.apart ≡ 0 → (t : ℕ) → t < l.i → get_or l.cursors t 0 ≡ get_or l.ends t 0)
