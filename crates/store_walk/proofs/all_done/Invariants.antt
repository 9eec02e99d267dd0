-- `store_walk::all_done` meets its contract: where none of the vertices below v has entries left, all theirs are done.
-- Assumes nothing.
use mathlib.Core.Path.{◌≡◌}
use Prim.Native.Nat.{ℕ, suc, ◌+◌, ◌≤◌, ◌<◌}
use lib.ListN.{get_or}
use Rattle.store_walk.proofs.all_done.Given as goal

abbrev pub invariant-loop-v : goal.invariant-loop-v
invariant-loop-v l = (l.v ≤ l.n) × (l.left ≤ l.v) × (l.left ≡ 0 → (u : ℕ) → u < l.v → get_or l.starts (suc u) 0 ≤ get_or l.starts u 0 + get_or l.done u 0)
