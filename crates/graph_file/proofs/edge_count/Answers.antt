-- `graph_file::edge_count` meets its contract: a field of 20 bits is below 2 ^ 20. Assumes nothing.
use native.Mathlib.Omega.{arith}
use Rattle.packed.proofs.Laws.{field_lt}
use Rattle.graph_file.proofs.edge_count.Goals as goal

pub returns : goal.returns
returns c = omega (arith, field_lt c.args.file.now 16 20)
