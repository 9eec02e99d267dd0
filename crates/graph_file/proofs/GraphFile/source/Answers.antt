-- `graph_file::GraphFile::source` meets its contract: the source stands at the edge's start. Assumes nothing.
use mathlib.Core.Path.{◌∙◌, ap}
use Prim.Native.Nat.{ℕ}
use native.Mathlib.Omega.{arith}
use Rattle.packed.specs.Field.{field_at}
use Rattle.packed.proofs.Laws.{field_lt}
use Rattle.graph_file.proofs.GraphFile.source.Goals as goal

pub returns : goal.returns
returns c = (
  c.field.ensures ∙ ap (λ (at : ℕ). field_at c.args.self.bytes.now at 16) (omega arith),
  rw c.field.ensures (field_lt _ _ 16),
)
