-- `plan_order::degree` meets its contract. The loop's invariant: the edges found are those among the first i. Assumes nothing.
use mathlib.Core.Path.{◌≡◌, sym, ◌∙◌, ap, ap₂}
use Prim.Native.Nat.{ℕ, ◌+◌}
use native.Mathlib.Omega.{arith}
use borrow.Author.Rules.{rules}
use Rattle.lists.specs.Lists.{bit}
use Rattle.lists.proofs.Bits.{bit_le}
use Rattle.query.specs.Query.{between}
use Rattle.query.specs.Inner.Mask.{in_mask}
use Rattle.query.proofs.Structs.{edge-read}
use Rattle.plan_order.proofs.Degrees.{edge-ends, joined, joined-none, joined-le, joined-more, degree-covered, degree-all}
use Rattle.plan_order.proofs.degree.Goals as goal

pub returns-then-member : goal.returns-then-member
returns-then-member c = let a = c.args in
    degree-covered a.q a.v (in_mask a.set) (sym c.member.ensures ∙ c.if-member.true)

pub loop-i-init : goal.loop-i-init
loop-i-init c = sym (joined-none c.args.q c.args.v (in_mask c.args.set))

pub joins-requires : goal.joins-requires
joins-requires c = edge-ends c.args.q c.loop-i.i (search rules) c.edge.result c.edge.ensures
    c.requires.0

pub overflow_add-found : goal.overflow_add-found
overflow_add-found c = omega (
  arith,
  joined-le c.args.q c.args.v (in_mask c.args.set) c.loop-i.i,
  bit_le c.joins.result,
  c.requires.0.edges,
)

pub loop-i-preserved : goal.loop-i-preserved
loop-i-preserved c = let i = c.loop-i.i in
    ap₂ (λ (m n : ℕ). m + n) c.loop-i.invariant
    (ap bit (c.joins.ensures ∙ ap (between c.args.v (in_mask c.args.set)) (edge-read c.args.q i c.edge.result (search rules) c.edge.ensures)))
    ∙ sym (joined-more c.args.q c.args.v (in_mask c.args.set) i)

pub returns : goal.returns
returns c = let all : c.loop-i.i ≡ c.args.q.edges = omega arith in
    c.loop-i.invariant ∙ ap (joined c.args.q c.args.v (in_mask c.args.set)) all
    ∙ degree-all c.args.q c.args.v (in_mask c.args.set)
    (sym c.member.ensures ∙ c.if-member.false)
