-- `changes::fill::transposed_sides` meets its contract. Assumes nothing.
use native.Mathlib.Omega.{arith}
use Rattle.changes.proofs.Filled.{one-transposable, one-long, sides-made}
use Rattle.changes.proofs.fill.transposed_sides.Goals as goal

pub forward_side-requires : goal.forward_side-requires
forward_side-requires c = (c.requires.0, omega (arith, c.requires.1, c.requires.2))

pub transpose-requires : goal.transpose-requires
transpose-requires c = one-transposable c.requires.0 c.args.side.now c.requires.1 c.requires.2 c.forward_side.ensures

pub forward_side-requires-2 : goal.forward_side-requires-2
forward_side-requires-2 c = (c.requires.0, omega (arith, c.requires.1, c.requires.2, c.transpose.ensures.long, one-long c.requires.0 c.args.side.now c.requires.1 c.requires.2 c.forward_side.ensures))

pub returns : goal.returns
returns c = sides-made c.requires.0 c.args.side.now c.requires.1 c.requires.2 c.forward_side.ensures c.transpose.ensures c.forward_side-2.ensures
