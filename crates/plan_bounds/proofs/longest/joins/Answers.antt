-- `plan_bounds::longest::joins` meets its contract. Assumes nothing.
use mathlib.Core.Path.{sym, ◌∙◌}
use Rattle.query.specs.Inner.Mask.{in_mask}
use Rattle.query.specs.Inner.Struct.{as_edge}
use Rattle.plan_order.proofs.Degrees.{joins-out, joins-in, joins-not}
use Rattle.plan_bounds.proofs.longest.joins.Goals as goal

pub returns-then-e-v : goal.returns-then-e-v
returns-then-e-v c = let a = c.args in
    c.member.ensures ∙ sym (joins-out a.v (in_mask a.set) (as_edge a.e) c.if-e-v.true)

pub returns-then-e-v-2 : goal.returns-then-e-v-2
returns-then-e-v-2 c = let a = c.args in
    c.member-then-e-v-2.ensures ∙ sym (joins-in a.v (in_mask a.set) (as_edge a.e) c.if-e-v.false c.if-e-v-2.true)

pub returns : goal.returns
returns c = let a = c.args in
    sym (joins-not a.v (in_mask a.set) (as_edge a.e) c.if-e-v.false c.if-e-v-2.false)
