-- `graph_file::vertex_count` meets its contract: a field of 16 bits is below 2 ^ 16. Assumes nothing.
use native.Mathlib.Omega.{arith}
use Rattle.packed.proofs.Laws.{field_lt}
use Rattle.graph_file.proofs.vertex_count.Goals as goal

pub returns : goal.returns
returns c = omega (arith, field_lt c.args.file.now 0 16)
