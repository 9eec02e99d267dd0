-- `store_check::words_fit` meets its contract: the words before i are below the end. Assumes nothing.
use Prim.Native.Nat.{ℕ, suc}
use lib.Dec.{ltb}
use Rattle.store_reverse.proofs.Loops.{AllFrom}
use Rattle.store_check.proofs.words_fit.Given as goal

abbrev pub invariant-loop-word : goal.invariant-loop-word
invariant-loop-word l = AllFrom (λ (k : ℕ). ltb k (suc l.limit)) l.part l.word-index
