-- `graph_file::GraphFile::forward_entry` meets its contract: the edge's last 24 bits are its forward entry. Assumes nothing.
use mathlib.Core.Path.{◌∙◌, ap}
use Prim.Native.Nat.{ℕ}
use native.Mathlib.Omega.{arith}
use Rattle.packed.specs.Field.{field_at}
use Rattle.packed.proofs.Laws.{field_lt}
use Rattle.graph_file.proofs.Entries.{entry-field}
use Rattle.graph_file.proofs.GraphFile.forward_entry.Goals as goal

pub returns : goal.returns
returns c = (
  c.field.ensures ∙ ap (λ (at : ℕ). field_at c.args.self.bytes.now at 24) (omega arith) ∙ entry-field _ _,
  rw c.field.ensures (field_lt _ _ 24),
)
