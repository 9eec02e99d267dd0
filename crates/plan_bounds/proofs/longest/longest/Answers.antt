-- `plan_bounds::longest::longest` meets its contract: the loop's invariant: the most so far is that of the vertices before v. A portion is no longer than its list. Assumes nothing.
use mathlib.Core.Path.{refl, ◌∙◌}
use native.Mathlib.Nat.{le_trans}
use native.Mathlib.Omega.{arith}
use Rattle.lists.specs.Lists.{range, largest}
use Rattle.adjacency.proofs.Accepted.{lookup-within}
use Rattle.plan_bounds.proofs.Seeing.{lookup, portion-in-list, longest-pass, longest-max, longest-all}
use Rattle.plan_bounds.proofs.longest.longest.Goals as goal
use Rattle.plan_bounds.proofs.longest.longest.Goals.{then-most-neighbours, else-most-neighbours}

pub loop-v-init : goal.loop-v-init
unfolding range largest
loop-v-init c = λ d e. refl

pub neighbours-requires : goal.neighbours-requires
neighbours-requires c = lookup-within _ _ _ _ (lookup _ _ _ c.requires.0 _ (omega arith))

pub portion_length-requires : goal.portion_length-requires
portion_length-requires c = lookup _ _ _ c.requires.0 _ (omega arith)

pub loop-v-preserved : goal.loop-v-preserved
loop-v-preserved c = λ d e.
    elim c.if-most-neighbours.branch [
      | then-most-neighbours w ↦ w.most-is ∙ w.max-most.ensures ∙ longest-max _ _ _ _ (c.loop-v.invariant d e) (w.portion_length.ensures d e)
      | else-most-neighbours w ↦
          w.most-is
          ∙ longest-pass _ _ _ (c.loop-v.invariant d e)
          (le_trans (portion-in-list _ _ _ c.requires.0 _ c.loop-v-test.true d e c.args.label) (rw c.neighbours.ensures at w.if-most-neighbours.false))
    ]

pub returns : goal.returns
returns c = λ d e. c.loop-v.invariant d e ∙ longest-all _ _ _ d _ c.requires.0 _ (omega arith)
