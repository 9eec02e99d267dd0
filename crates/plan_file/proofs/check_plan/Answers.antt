-- `plan_file::check_plan` meets its contract: the refusal with 0, or 0 with the count of an accepted plan. Assumes nothing.
use mathlib.Core.Path.{sym}
use borrow.Author.Tests.{ne_eqb}
use Rattle.refusals.proofs.Laws.{numbered_as}
use Rattle.plan.specs.File.{check_answer}
use Rattle.plan_file.proofs.Places.{place-long}
use Rattle.plan_file.proofs.Accepted.{accepted}
use Rattle.plan_file.proofs.check_plan.Goals as goal

pub returns-in-Err : goal.returns-in-Err
unfolding check_answer
returns-in-Err c = rw (← c.in-Err.ensures, ← c.number.ensures, ne_eqb _ 0 (numbered_as c.in-Err.refusal c.number.ensures))

pub operator_count-requires : goal.operator_count-requires
operator_count-requires c = place-long _ _ (accepted _ _ (sym c.in-Ok.ensures)).plan-bits

pub returns-in-Ok : goal.returns-in-Ok
unfolding check_answer
returns-in-Ok c = rw (← c.in-Ok.ensures, c.operator_count.ensures)
