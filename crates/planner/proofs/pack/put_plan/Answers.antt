-- `planner::pack::put_plan` meets its contract: the scan's bits, the extends', and zero bits to the end of a byte. Assumes nothing.
use mathlib.Core.Path.{◌≡◌, ◌∙◌, ap, ap₂}
use mathlib.Core.List.{◌++◌, flat_map}
use Prim.Native.Nat.{ℕ, ◌+◌, ◌-◌}
use Prim.Native.Nat.{◌*◌}
use native.Mathlib.Omega.{arith}
use lib.Pow.{pow_pos}
use lib.ListN.{length, drop}
use Rattle.packed.specs.Field.{bytes_for}
use Rattle.packed.specs.Encode.{bytes_of}
use Rattle.packed.specs.Inner.Put.{written}
use Rattle.query.specs.Query.{VertexSet, edge_at}
use Rattle.query.specs.Inner.Mask.{in_mask}
use Rattle.query.specs.Inner.Struct.{query_in}
use Rattle.plan.specs.Plan.{ends}
use Rattle.plan_order.specs.Order.{extends_from}
use Rattle.planner.specs.Draw.{scan_bits, extend_bits, plan_bits}
use Rattle.planner.proofs.Ordering.{length-extends}
use Rattle.planner.proofs.Packing.{length-scan_bits, plan-bits}
use Rattle.plan_order.proofs.Degrees.{edge-ends, ends-mask}
use Rattle.planner.proofs.Turns.{plan-written}
use Rattle.planner.proofs.pack.put_plan.Goals as goal

pub ends-requires : goal.ends-requires
ends-requires c = edge-ends c.args.q c.args.edge c.requires.1 c.edge.result c.edge.ensures c.requires.0.held

pub put_field-requires : goal.put_field-requires
put_field-requires c = let long : length c.put_extends.new.plan ≡ length c.args.plan.now =
    c.put_extends.auto.plan ∙ c.put_scan.auto.plan in
    (omega arith, omega (arith, long, c.plan_bits-bits.ensures, c.requires.2), pow_pos _)

pub returns : goal.returns
returns c = let old = c.args.plan.now in
    let q = query_in c.args.q in
    let n = c.args.q.vertices - 2 in
    let vs = extends_from q (ends (edge_at q c.args.edge)) n in
    let covered : in_mask c.ends.result ≡ ends (edge_at q c.args.edge) =
    ends-mask c.args.q c.args.edge c.edge.result c.ends.result c.edge.ensures c.ends.ensures in
    let count : c.args.q.vertices - 1 ≡ 1 + length vs = rw length-extends (omega (arith, c.requires.0.vertices)) in
    let bits : c.put_extends.new.plan ≡ written old (plan_bits c.args.edge vs) =
    c.put_extends.ensures old (scan_bits (c.args.q.vertices - 1) c.args.edge) c.put_scan.ensures (length-scan_bits _ _)
    ∙ ap₂ (λ (k : ℕ) (S : VertexSet). written old (scan_bits k c.args.edge ++ flat_map extend_bits (extends_from q S n))) count covered
    ∙ ap (written old) (plan-bits c.args.edge vs) in
    let long : length vs ≡ n = length-extends q (ends (edge_at q c.args.edge)) n in
    c.put_field.ensures
    ∙ plan-written old c.put_extends.new.plan c.args.edge c.plan_bits-bits.result vs (λ j. (c.slice_known-1.given j).fits) bits
    (rw long c.plan_bits-bits.ensures) (rw long c.requires.2)
    ∙ ap (λ (k : ℕ). bytes_of (plan_bits c.args.edge vs) ++ drop (bytes_for (12 + 5 * k)) old) long
