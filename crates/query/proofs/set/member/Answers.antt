-- `query::set::member` meets its contract. Assumes nothing.
use mathlib.Core.Path.{refl}
use Rattle.query.specs.Inner.Mask.{in_mask}
use Rattle.query.proofs.set.member.Goals as goal

pub returns : goal.returns
unfolding in_mask
returns c = refl
