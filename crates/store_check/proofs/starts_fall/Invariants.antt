-- `store_check::starts_fall` meets its contract: the sum is that of the lists of the vertices below v. Assumes nothing.
use mathlib.Core.Path.{◌≡◌}
use Prim.Native.Nat.{◌≤◌}
use Rattle.lists.specs.Lists.{range, count_if}
use Rattle.store_check.specs.Inner.Order.{start_falls}
use Rattle.store_check.proofs.starts_fall.Given as goal

abbrev pub invariant-loop-v : goal.invariant-loop-v
invariant-loop-v l = (l.v ≤ l.n) × (l.sum ≤ l.v) × (l.sum ≡ count_if (start_falls l.store l.n l.side) (range l.v))
