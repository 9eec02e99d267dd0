-- `rizhavaan::rizhavaan_bounds` meets its contract: its numbers are those of the answer, and the promise is proved of every answer. Assumes nothing.
use mathlib.Core.Path.{sym}
use Rattle.plan_bounds.proofs.Promised.{never-short}
use Rattle.rizhavaan.proofs.rizhavaan_bounds.Goals as goal

pub returns : goal.returns
returns c = record { answer = sym c.bounds-answer.ensures; promised = never-short _ _ _ }
