-- `store_reverse::block_reversed` meets its contract: the entries before j have their reverses. Assumes nothing.
use Prim.Native.Nat.{ℕ, ◌-◌, ◌%◌}
use lib.ListN.{length, get_or}
use Rattle.adjacency.specs.Inner.Side.{list_on}
use Rattle.adjacency.specs.Inner.Portion.{member}
use Rattle.store_reverse.specs.Inner.Check.{reverse}
use Rattle.store_reverse.proofs.Loops.{AllBelow}
use Rattle.store_reverse.proofs.block_reversed.Given as goal

abbrev pub invariant-loop-j : goal.invariant-loop-j
invariant-loop-j l = AllBelow (λ (i : ℕ). member (reverse (get_or l.begun i 0 - 1) (get_or l.entries i 0)) (list_on l.store l.n l.other (get_or l.entries i 0 % 65536))) (length l.entries) l.j
