-- `store_walk::passes::vertex_pass` meets its contract: the answer is that of the step, or undecided. Assumes nothing.
use mathlib.Core.Path.{refl}
use Rattle.std.proofs.lemmas.Result.{err_from_is_err_and}
use Rattle.store_step.proofs.Stops.{stopped}
use Rattle.store_step.proofs.Stepping.{undecided, passes_on, handed, word_in}
use Rattle.store_walk.proofs.passes.vertex_pass.Goals as goal

pub advance-requires : goal.advance-requires
advance-requires c = record { sides = c.requires.sides.0; step_from = c.requires.step_from }

pub returns-in_err-label : goal.returns-in_err-label
returns-in_err-label c = let p = err_from_is_err_and c.from_residual.result c.from_residual.ensures.1 in
    rw (p.1, p.2) (handed c.in_err-label.ensures.outcome (stopped _))

pub set_of-requires : goal.set_of-requires
set_of-requires c = rw (c.in_ok-label.was, c.in-Some.is) at c.advance.ensures.narrow

pub bounds-sets-v : goal.bounds-sets-v
bounds-sets-v c = word_in c.requires.sides.1.sets_fit c.requires.step_from.vertex_in (c.set_of.ensures _ c.in-Some-set_of.is)

pub returns-in-None : goal.returns-in-None
returns-in-None c = undecided

pub returns-in_default : goal.returns-in_default
returns-in_default c = passes_on c.in_ok-label.ensures.outcome refl

pub returns-in-Some-set_of : goal.returns-in-Some-set_of
returns-in-Some-set_of c = passes_on c.in_ok-label.ensures.outcome refl
