-- `query_file::QueryFile::fields` meets its contract: after i parts, the array has the field of these. Assumes nothing.
use mathlib.Core.Path.{◌≡◌, sym, ap}
use Prim.Native.Nat.{ℕ, ◌-◌}
use native.Mathlib.Omega.{arith}
use lib.ListN.{replicate}
use Rattle.lists.specs.Lists.{range}
use Rattle.query_file.specs.Inner.Parts.{part_field}
use Rattle.query.specs.Answer.{padded}
use Rattle.query.proofs.Images.{padded-step}
use Rattle.query_file.proofs.QueryFile.fields.Goals as goal

pub loop-i-init : goal.loop-i-init
unfolding padded range
loop-i-init g c = let all : g.row.N - 0 ≡ g.row.N = omega arith in
    ap (λ (k : ℕ). replicate k 0) (sym all)

pub loop-i-preserved : goal.loop-i-preserved
loop-i-preserved g c = let a = c.args in
    padded-step (part_field a.self.bytes.now a.at a.step a.offset a.width) g.row.N _ _ _ (omega arith) c.field.ensures c.loop-i.invariant

pub returns : goal.returns
returns g c = let all : c.loop-i.i ≡ c.args.count = omega arith in
    rw all at c.loop-i.invariant
