-- `plan_order::degree` meets its contract. The loop's invariant: the edges found are those among the first i. Assumes nothing.
use mathlib.Core.Path.{◌≡◌}
use Rattle.query.specs.Inner.Mask.{in_mask}
use Rattle.plan_order.proofs.Degrees.{joined}
use Rattle.plan_order.proofs.degree.Given as goal

abbrev pub invariant-loop-i : goal.invariant-loop-i
invariant-loop-i l = l.found ≡ joined l.q l.v (in_mask l.set) l.i
