-- `store_check::falls` meets its contract: the sum is that of the words up to i. Assumes nothing.
use mathlib.Core.Path.{refl}
use native.Mathlib.Omega.{arith}
use Rattle.store_check.proofs.Order.{falls-next, falls-end}
use Rattle.store_check.proofs.falls.Goals as goal

pub loop-i-preserved : goal.loop-i-preserved
loop-i-preserved c = falls-next c.loop-i.invariant (omega arith) refl

pub returns : goal.returns
returns c = falls-end c.loop-i.invariant (omega arith)
