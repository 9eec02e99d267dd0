-- `rizhavaan::rizhavaan_load` meets its contract: its numbers are Load's answer. Assumes nothing.
use mathlib.Core.Path.{sym}
use Rattle.rizhavaan.proofs.rizhavaan_load.Goals as goal

pub returns : goal.returns
returns c = record { answer = sym c.load-answer.ensures.answer; words = c.load-answer.ensures.words }
