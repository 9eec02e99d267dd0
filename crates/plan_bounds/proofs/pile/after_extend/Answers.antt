-- `plan_bounds::pile::after_extend` meets its contract (`extended-to`). Assumes nothing.
use mathlib.Core.Path.{sym, ◌∙◌, ap}
use Prim.Native.Nat.{ℕ}
use native.Mathlib.Omega.{arith}
use Rattle.graph.specs.Store.{graph_in}
use Rattle.query.specs.Inner.Mask.{in_mask}
use Rattle.query.specs.Inner.Struct.{query_in}
use Rattle.plan.proofs.Sets.{plus-set}
use Rattle.matching.specs.Row.{width}
use Rattle.plan_bounds.proofs.Seeing.{least-few}
use Rattle.plan_bounds.proofs.Turning.{narrow, extend-still, extended-to}
use Rattle.plan_bounds.proofs.pile.after_extend.Goals as goal

pub returns-then-pile-lt1 : goal.returns-then-pile-lt1
returns-then-pile-lt1 c = extend-still _ _ c.args.v c.args.pile c.if-pile-lt1.true

pub under-b-requires : goal.under-b-requires
under-b-requires c = (c.if-pile-lt1.false, c.requires.3)

pub of_edges-p-requires : goal.of_edges-p-requires
of_edges-p-requires c = (c.requires.0, c.requires.1)

pub only-requires : goal.only-requires
only-requires c = c.requires.2

pub column-requires : goal.column-requires
column-requires c = c.requires.0.held.vertices

pub extended-requires : goal.extended-requires
extended-requires c = (
  rw c.column.ensures (narrow _ _ c.requires.0.held.vertices),
  omega (arith, c.of_edges-p.ensures.0, least-few c.args.store.now c.requires.1 (query_in c.args.q) (in_mask c.under-b.result.set) c.args.v),
)

pub put-requires : goal.put-requires
put-requires c = (c.if-pile-lt1.false, omega (arith, c.if-pile-lt1.false, c.requires.3))

pub returns : goal.returns
unfolding query_in
returns c = extended-to (graph_in c.args.store.now) (query_in c.args.q) c.args.v c.args.pile _ c.under-b.result c.extended.result _ _ _ _ c.if-pile-lt1.false
    c.under-b.ensures c.put.ensures c.of_edges-p.ensures.0 c.of_edges-p.ensures.1 (ap in_mask c.extended.ensures.0 ∙ plus-set _ _ _ c.only.ensures)
    (c.column.ensures ∙ ap (λ (m : ℕ). width c.args.q.vertices (in_mask m)) (sym c.extended.ensures.0))
    c.extended.ensures.1 c.extended.ensures.2 c.saturating_mul.ensures
