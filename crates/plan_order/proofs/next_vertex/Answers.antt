-- `plan_order::next_vertex` meets its contract. The loop's invariant: the best of the first v vertices, and its edges. Assumes
-- nothing.
use mathlib.Core.Path.{◌≡◌}
use native.Mathlib.Omega.{arith}
use borrow.Author.Rules.{rules}
use Rattle.query.specs.Inner.Mask.{in_mask}
use Rattle.query.specs.Inner.Struct.{query_in}
use Rattle.plan_order.specs.Order.{degree, next_vertex}
use Rattle.plan_order.proofs.Choosing.{kept-one, most-take, most-leave}
use Rattle.plan_order.proofs.next_vertex.Goals as goal
use Rattle.plan_order.proofs.next_vertex.Goals.{then-most-edges, else-most-edges}

pub degree-most-requires : goal.degree-most-requires
degree-most-requires c = (c.requires.held, omega arith)

pub loop-v-init : goal.loop-v-init
loop-v-init c = (omega arith, kept-one _ _ _ c.degree-most.ensures)

pub degree-edges-requires : goal.degree-edges-requires
degree-edges-requires c = (c.requires.held, omega (arith, c.requires.held.vertices))

pub loop-v-preserved : goal.loop-v-preserved
loop-v-preserved c =
    let asked = degree (query_in c.args.q) (in_mask c.args.set) in (
      search rules,
      elim c.if-most-edges.branch [
        | then-most-edges w ↦ rw (w.best-is, w.most-is) (most-take asked _ c.degree-edges.ensures c.loop-v.invariant.1 w.if-most-edges.true)
        | else-most-edges w ↦ rw (w.best-is, w.most-is) (most-leave asked _ c.degree-edges.ensures c.loop-v.invariant.1 w.if-most-edges.false)
      ],
    )

pub returns : goal.returns
unfolding next_vertex query_in
returns c = let a = c.args in
    let all : c.loop-v.v ≡ a.q.vertices = omega arith in
    (rw all at c.loop-v.invariant.1.is, rw all at c.loop-v.invariant.1.low)
