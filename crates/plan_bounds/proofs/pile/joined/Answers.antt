-- `plan_bounds::pile::joined` meets its contract. Assumes nothing.
use mathlib.Core.Path.{refl, ◌∙◌}
use Rattle.plan_bounds.proofs.pile.joined.Goals as goal

pub returns : goal.returns
returns c = (
  refl,
  c.saturating_mul.ensures,
  c.join_need.ensures ∙ rw (c.table.ensures, c.saturating_mul-words.ensures),
)
