-- `store_check::lists_reverse` meets its contract: the lists of the vertices below v fit, and have their reverses. Assumes nothing.
use Prim.Native.Nat.{ℕ}
use mathlib.Core.Bool.{◌&&◌}
use Rattle.adjacency.specs.Inner.Side.{list_on}
use Rattle.store_reverse.specs.Inner.Check.{list_fits, list_reversed}
use Rattle.store_reverse.proofs.Loops.{AllBelow}
use Rattle.store_check.proofs.lists_reverse.Given as goal

abbrev pub invariant-loop-v : goal.invariant-loop-v
invariant-loop-v l = AllBelow (λ (u : ℕ). list_fits l.n (list_on l.store l.n l.side u) && list_reversed l.store l.n l.other u (list_on l.store l.n l.side u)) l.n l.v
