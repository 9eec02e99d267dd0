-- `store_check::words_fit` meets its contract: the words before i are below the end. Assumes nothing.
use native.Mathlib.Nat.{lt-suc_self, lt_of_le_of_lt}
use native.Mathlib.Omega.{arith}
use borrow.Author.Tests.{lt-ltb, le-ltb}
use Rattle.store_reverse.proofs.Loops.{all_start, all-next, all-stop, all_end}
use Rattle.store_check.proofs.words_fit.Goals as goal

pub loop-word-init : goal.loop-word-init
loop-word-init c = all_start

pub returns-then-limit-word : goal.returns-then-limit-word
returns-then-limit-word c = all-stop c.loop-word.invariant (omega arith) (le-ltb _ _ c.if-limit-word.true)

pub loop-word-preserved : goal.loop-word-preserved
loop-word-preserved c = all-next c.loop-word.invariant (omega arith) (lt-ltb _ _ (lt_of_le_of_lt c.if-limit-word.false (lt-suc_self _)))

pub returns : goal.returns
returns c = all_end c.loop-word.invariant (omega arith)
