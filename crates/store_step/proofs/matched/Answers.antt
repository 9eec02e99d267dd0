-- `store_step::matched` meets its contract: the entries up to i are matched, and `last` is the last of them. Assumes nothing.
use mathlib.Core.Path.{refl}
use native.Mathlib.Omega.{arith}
use Rattle.store_step.proofs.Matching.{matching-start, matching-next}
use Rattle.store_step.proofs.matched.Goals as goal

pub loop-i-init : goal.loop-i-init
loop-i-init c = matching-start (omega arith) (omega arith)

pub returns-then-limit-entry : goal.returns-then-limit-entry
returns-then-limit-entry c = c.loop-i.invariant.so_far

pub returns-then-n-x : goal.returns-then-n-x
returns-then-n-x c = c.loop-i.invariant.so_far

pub returns-then-back-at : goal.returns-then-back-at
returns-then-back-at c = c.loop-i.invariant.so_far

pub loop-i-preserved : goal.loop-i-preserved
loop-i-preserved c = matching-next c.loop-i.invariant (omega arith) (omega arith) (omega arith) (omega arith) (omega (arith, c.loop-i.invariant.long)) refl
    c.if-back-at-2.false

pub returns : goal.returns
returns c = c.loop-i.invariant.so_far
