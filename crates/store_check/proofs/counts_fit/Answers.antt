-- `store_check::counts_fit` meets its contract: each test is one of `Counts`. Assumes nothing.
use native.Mathlib.Omega.{arith}
use Rattle.store_check.proofs.Counting.{counts-refused, counts-decide}
use Rattle.store_check.proofs.counts_fit.Goals as goal

pub returns-then-store-lt2 : goal.returns-then-store-lt2
returns-then-store-lt2 c = counts-refused c.args.store.now (λ k. omega arith)

pub returns-then-g-gt-MAX_VERTICES : goal.returns-then-g-gt-MAX_VERTICES
returns-then-g-gt-MAX_VERTICES c = counts-refused c.args.store.now (λ k. omega arith)

pub returns : goal.returns
returns c = counts-decide c.args.store.now (omega arith) (omega arith) (omega arith) (omega arith)
