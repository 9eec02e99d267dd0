-- `store_step::has` meets its contract: no word before the next is the one that is looked for. Assumes nothing.
use mathlib.Core.Path.{sym}
use native.Mathlib.Omega.{arith}
use borrow.Author.Count.{below_more}
use Rattle.store_step.proofs.Agreeing.{member-at, none-member}
use Rattle.store_step.proofs.has.Goals as goal

pub loop-word-init : goal.loop-word-init
loop-word-init c = λ k l e. omega arith

pub returns-then-word-x : goal.returns-then-word-x
returns-then-word-x c = sym (member-at c.args.x c.args.list.now c.loop-word.word-index (omega arith) c.if-word-x.true)

pub loop-word-preserved : goal.loop-word-preserved
loop-word-preserved c = below_more _ _ c.loop-word.invariant c.if-word-x.false

pub returns : goal.returns
returns c = sym (none-member c.args.x c.args.list.now (λ k l. c.loop-word.invariant k (omega arith)))
