-- `changes::fill::merged_sides` meets its contract. Assumes nothing.
use Rattle.changes.proofs.Filled.{sides-merged}
use Rattle.changes.proofs.fill.merged_sides.Goals as goal

pub returns : goal.returns
returns c = sides-merged c.requires.0 c.args.side.now c.requires.1 c.requires.3 c.forward_side.ensures c.backward_side.ensures
