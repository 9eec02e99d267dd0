-- `plan_bounds::pile::after_join` meets its contract (`joined_to`). Assumes nothing.
use mathlib.Core.Path.{sym, ◌∙◌, ap}
use Prim.Native.Nat.{ℕ}
use Rattle.query.specs.Inner.Mask.{in_mask}
use Rattle.query.specs.Inner.Struct.{query_in}
use Rattle.plan.proofs.Sets.{or_set}
use Rattle.matching.specs.Row.{width}
use Rattle.plan_bounds.proofs.Turning.{narrow, join-still, joined_to}
use Rattle.plan_bounds.proofs.pile.after_join.Goals as goal

pub returns-then-pile-lt2 : goal.returns-then-pile-lt2
returns-then-pile-lt2 c = λ g. join-still g _ c.args.pile c.if-pile-lt2.true

pub joined-requires : goal.joined-requires
joined-requires c = let v = c.requires.0.held.vertices in (rw c.column.ensures (narrow _ _ v), rw c.column-2.ensures (narrow _ _ v))

pub returns : goal.returns
unfolding query_in
returns c = λ g.
    joined_to g (query_in c.args.q) c.args.pile _ c.under-p.result c.under-b.result _ _ _ c.if-pile-lt2.false c.under-p.ensures c.under-b.ensures c.put.ensures
    c.column.ensures (ap in_mask c.joined.ensures.0 ∙ or_set _ _) (c.column-2.ensures ∙ ap (λ (m : ℕ). width c.args.q.vertices (in_mask m)) (sym c.joined.ensures.0))
    c.joined.ensures.1 c.joined.ensures.2
