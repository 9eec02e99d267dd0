-- A law of the pile as the code has it. Assumes nothing.
use mathlib.Core.Path.{◌≡◌}
use lib.ListN.{length}
use Rattle.plan.proofs.Stacks.{length-stack}
use Rattle.plan_file.specs.Inner.Pile.{masks_in}
use Rattle.plan_file.specs.declared.rules.Pile.{Pile}

-- A pile has as many masks as its depth says.
pub depth_is : (p : Pile) → length (masks_in p) ≡ p.depth
depth_is p = length-stack p.depth p.sets
