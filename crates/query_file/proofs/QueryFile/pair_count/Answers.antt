-- `query_file::QueryFile::pair_count` meets its contract. Assumes nothing.
use mathlib.Core.Path.{◌≡◌, ◌∙◌, ap}
use Prim.Native.Nat.{ℕ}
use native.Mathlib.Omega.{arith}
use Rattle.packed.specs.Field.{field_at}
use Rattle.packed.proofs.Laws.{field_lt}
use Rattle.query.specs.File.{edge_count, edge_start}
use Rattle.query_file.proofs.QueryFile.pair_count.Goals as goal

pub returns : goal.returns
returns c = let s = c.args.self.bytes.now in
    let place : c.edge_start.result ≡ edge_start s (edge_count s) = omega arith in
    let is = c.field.ensures ∙ ap (λ (at : ℕ). field_at s at 4) place in
    (is, omega (arith, is, field_lt s (edge_start s (edge_count s)) 4))
