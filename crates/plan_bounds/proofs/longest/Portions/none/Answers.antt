-- `plan_bounds::longest::Portions::none` meets its contract. Assumes nothing.
use mathlib.Core.Path.{refl}
use Rattle.plan_bounds.proofs.Seeing.{seen_none}
use Rattle.plan_bounds.proofs.longest.Portions.none.Goals as goal

pub returns : goal.returns
returns c = (seen_none _ refl refl refl, refl, refl)
