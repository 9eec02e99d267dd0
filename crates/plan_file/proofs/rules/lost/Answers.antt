-- `plan_file::rules::lost` meets its contract: an edge within neither set is lost where it lies within the union. Assumes nothing.
use mathlib.Core.Path.{sym, ◌∙◌}
use Rattle.query.specs.Inner.Struct.{as_edge}
use Rattle.plan.proofs.Sets.{kept-build, kept-probe, kept-neither}
use Rattle.plan_file.proofs.rules.lost.Goals as goal
use Rattle.plan_file.proofs.rules.lost.Goals.{then-inside-via-then-inside, then-inside-via-else-inside+then-inside-2}

pub returns-then-inside : goal.returns-then-inside
returns-then-inside c = let a = c.args in
    elim c.then-inside.branch [
      | then-inside-via-then-inside w ↦ rw (kept-build a.b a.p (as_edge a.e) (sym c.inside.ensures ∙ w.if-inside.true))
      | then-inside-via-else-inside+then-inside-2 w ↦ rw (kept-probe a.b a.p (as_edge a.e) (sym w.inside-else-inside.ensures ∙ w.if-inside-2.true))
    ]

pub returns : goal.returns
returns c = let a = c.args in
    c.inside-2.ensures
    ∙ sym
    (kept-neither a.b a.p (as_edge a.e) (sym c.inside.ensures ∙ c.if-inside.false)
    (sym c.inside-else-inside.ensures ∙ c.if-inside-2.false))
