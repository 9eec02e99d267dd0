-- `query::set::minus` meets its contract. Assumes nothing.
use Rattle.query.proofs.Masks.{in-minus}
use Rattle.query.proofs.set.minus.Goals as goal

pub returns : goal.returns
returns c w = in-minus c.args.a c.args.b w
