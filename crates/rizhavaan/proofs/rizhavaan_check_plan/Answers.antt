-- `rizhavaan::rizhavaan_check_plan` meets its contract: its numbers are Check plan's answer. Assumes nothing.
use mathlib.Core.Path.{sym}
use Rattle.rizhavaan.proofs.rizhavaan_check_plan.Goals as goal

pub returns : goal.returns
returns c = record { answer = sym c.check_plan-answer.ensures }
