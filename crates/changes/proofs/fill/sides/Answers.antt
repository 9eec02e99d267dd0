-- `changes::fill::sides` meets its contract. Assumes nothing.
use native.Mathlib.Omega.{arith}
use Rattle.changes.proofs.Present.{file-sized}
use Rattle.changes.proofs.Filled.{square-fits, few-changes}
use Rattle.changes.proofs.fill.sides.Goals as goal

pub overflow_mul-k : goal.overflow_mul-k
overflow_mul-k c = omega (arith, square-fits c.args.k (omega (arith, c.requires.0.changes, (file-sized _ _ c.requires.0.file).few)))

pub merged_sides-requires : goal.merged_sides-requires
merged_sides-requires c = (c.requires.0, c.requires.1, few-changes c.args.k c.if-k-m.true (omega (arith, c.requires.0.few, c.requires.1)), c.requires.2)
