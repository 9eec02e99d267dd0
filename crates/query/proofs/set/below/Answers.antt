-- `query::set::below` meets its contract. Assumes nothing.
use lib.Pow.{pow_pos}
use Rattle.query.proofs.Masks.{shifted_one, in-below}
use Rattle.query.proofs.set.below.Goals as goal

pub overflow_sub-result : goal.overflow_sub-result
overflow_sub-result c = rw (shifted_one c.args.n c.requires) (pow_pos c.args.n)

pub returns : goal.returns
returns c w = rw (shifted_one c.args.n c.requires) (in-below c.args.n w)
