-- `store_walk::check_agreement` meets its contract: the tables are large enough. Assumes nothing.
use mathlib.Core.Path.{refl}
use native.Mathlib.Omega.{arith}
use Rattle.store_walk.proofs.check_agreement.Goals as goal

pub walk_within-requires : goal.walk_within-requires
walk_within-requires c = (c.requires, omega arith, record { blocks = 16; long = refl; fit = omega arith }, omega arith, omega arith)

pub walk_within-requires-then-n-le-SOME_VERTICES : goal.walk_within-requires-then-n-le-SOME_VERTICES
walk_within-requires-then-n-le-SOME_VERTICES c = (c.requires, omega arith, record { blocks = 128; long = refl; fit = omega arith }, omega arith, omega arith)

pub walk_within-requires-2 : goal.walk_within-requires-2
walk_within-requires-2 c = (c.requires, c.requires.few, record { blocks = 1024; long = refl; fit = omega (arith, c.requires.few) }, omega arith, omega arith)
