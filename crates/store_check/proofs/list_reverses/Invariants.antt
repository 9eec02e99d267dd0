-- `store_check::list_reverses` meets its contract: the entries before i ascend up to `last`, fit, and have their reverses.
-- Assumes nothing.
use Prim.Native.Nat.{ℕ, ◌%◌}
use Rattle.adjacency.specs.Inner.Side.{list_on}
use Rattle.adjacency.specs.Inner.Portion.{member}
use Rattle.store_reverse.specs.Inner.Check.{reverse}
use Rattle.store_reverse.proofs.Loops.{AllFrom, ListFrom}
use Rattle.store_check.proofs.list_reverses.Given as goal

abbrev pub invariant-loop-i : goal.invariant-loop-i
invariant-loop-i l = ListFrom l.n l.list l.last l.i × AllFrom (λ (k : ℕ). member (reverse l.v k) (list_on l.store l.n l.other (k % 65536))) l.list l.i
