-- `rizhavaan::rizhavaan_apply_changes` meets its contract: its numbers are the answer of Apply changes. Assumes nothing.
use mathlib.Core.Path.{sym}
use Rattle.changes.proofs.Loaded.{loads-edited}
use Rattle.rizhavaan.proofs.rizhavaan_apply_changes.Goals as goal

pub returns : goal.returns
returns c = record { answer = sym c.apply_changes-edited.ensures.answer; words = c.apply_changes-edited.ensures.words; loaded = loads-edited _ _ _ }
