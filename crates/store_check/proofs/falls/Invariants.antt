-- `store_check::falls` meets its contract: the sum is that of the words up to i. Assumes nothing.
use Rattle.store_check.proofs.Order.{Falling}
use Rattle.store_check.proofs.falls.Given as goal

abbrev pub invariant-loop-i : goal.invariant-loop-i
invariant-loop-i l = Falling l.part l.sum l.i
