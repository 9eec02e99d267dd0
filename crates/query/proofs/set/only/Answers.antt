-- `query::set::only` meets its contract. Assumes nothing.
use Rattle.query.proofs.Masks.{shifted_one, in-only}
use Rattle.query.proofs.set.only.Goals as goal

pub returns : goal.returns
returns c w = rw (shifted_one c.args.w c.requires) (in-only c.args.w w)
