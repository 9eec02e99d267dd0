-- `plan_bounds::pile::Pile::none` meets its contract. Assumes nothing.
use mathlib.Core.Path.{refl}
use Rattle.lists.specs.Lists.{total, largest}
use Rattle.plan.specs.Inner.Pile.{stack}
use Rattle.plan_bounds.proofs.pile.Pile.none.Goals as goal

pub returns : goal.returns
unfolding stack total largest
returns c = record { depth = refl; sets = refl; rows = refl; needs = refl; costs = refl; largest_is = refl }
