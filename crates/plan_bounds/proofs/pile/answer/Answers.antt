-- `plan_bounds::pile::answer` meets its contract. Assumes nothing.
use mathlib.Core.Path.{sym}
use Rattle.plan_order.proofs.Degrees.{vertices-in}
use Rattle.plan_bounds.proofs.Turning.{numbers-none, numbers-top}
use Rattle.plan_bounds.proofs.pile.answer.Goals as goal

pub whole-pile-requires : goal.whole-pile-requires
whole-pile-requires c = c.requires

pub returns-then-pile-lt1 : goal.returns-then-pile-lt1
returns-then-pile-lt1 c = numbers-none _ _ _ c.whole-pile.result c.whole-pile.ensures.0 c.if-pile-lt1.true

pub under-b-requires : goal.under-b-requires
under-b-requires c = (c.if-pile-lt1.false, c.whole-pile.ensures.1)

pub returns : goal.returns
returns c = numbers-top _ _ _ c.whole-pile.result c.whole-pile.ensures.0 c.under-b.result _ _ c.if-pile-lt1.false c.under-b.ensures (sym (vertices-in _)) c.saturating_mul.ensures
