-- `records::Recorded::refused` meets its contract: a refusal has nothing to store. Assumes nothing.
use mathlib.Core.Path.{refl}
use Rattle.records.proofs.Recorded.refused.Goals as goal

pub returns : goal.returns
returns c = (c.refused-answer.ensures, refl)
