-- `plan::ends` meets its contract. Assumes nothing.
use mathlib.Core.Path.{ap₂, ◌∙◌}
use mathlib.Core.Bool.{◌||◌}
use Rattle.query.proofs.Masks.{in-or}
use Rattle.plan.proofs.ends.Goals as goal

pub returns : goal.returns
returns c w = in-or _ _ w ∙ ap₂ ◌||◌ (c.only.ensures w) (c.only-2.ensures w)
