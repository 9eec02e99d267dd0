-- `store_step::entry_before` meets its contract. Assumes nothing.
use Rattle.store_step.proofs.Agreeing.{before-first, before-later}
use Rattle.store_step.proofs.entry_before.Goals as goal

pub returns-then-i-eq0 : goal.returns-then-i-eq0
returns-then-i-eq0 c = before-first c.args.list.now c.args.i c.if-i-eq0.true

pub returns : goal.returns
returns c = before-later c.args.list.now c.args.i c.if-i-eq0.false
