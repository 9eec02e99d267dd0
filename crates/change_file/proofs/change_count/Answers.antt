-- `change_file::change_count` meets its contract: a field of 20 bits is below 2 ^ 20. Assumes nothing.
use native.Mathlib.Omega.{arith}
use Rattle.packed.proofs.Laws.{field_lt}
use Rattle.change_file.proofs.change_count.Goals as goal

pub returns : goal.returns
returns c = omega (arith, field_lt c.args.file.now 0 20)
