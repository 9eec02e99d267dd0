-- `graph_file::GraphFile::vertex_field` meets its contract: the field stands so many bytes past the vertex's start. Assumes nothing.
use mathlib.Core.Path.{◌∙◌, ap}
use Prim.Native.Nat.{ℕ}
use native.Mathlib.Omega.{arith}
use Rattle.packed.specs.Field.{field_at}
use Rattle.graph_file.proofs.GraphFile.vertex_field.Goals as goal

pub returns : goal.returns
returns c = c.field.ensures ∙ ap (λ (at : ℕ). field_at c.args.self.bytes.now at 16) (omega arith)
