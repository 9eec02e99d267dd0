-- `store_walk::passes::label_passes` meets its contract: the labels below `label` are passed. Assumes nothing.
use mathlib.Core.Path.{refl}
use native.Mathlib.Omega.{arith}
use borrow.Author.Rules.{rules}
use Rattle.std.proofs.lemmas.Result.{err_from_is_err_and}
use Rattle.store_step.proofs.Stops.{stopped}
use Rattle.store_step.proofs.Walking.{walked_on}
use Rattle.store_step.proofs.Stepping.{holds, handed, tables-kept}
use Rattle.store_walk.proofs.passes.label_passes.Goals as goal

pub all_wait-requires : goal.all_wait-requires
all_wait-requires c = (c.requires.sides.0.few, c.requires.sides.1.sets_fit)

pub loop-label-init : goal.loop-label-init
loop-label-init c = (walked_on c.requires.walked_in (omega arith), omega arith, omega arith, refl, refl, search rules)

pub label_pass-requires : goal.label_pass-requires
label_pass-requires c = record { sides = (c.requires.sides.0, tables-kept c.requires.sides.1 c.loop-label.invariant.3 c.loop-label.invariant.4 (search rules)); label_nonzero = (omega arith, omega arith); walked_in = c.loop-label.invariant.0 }

pub returns-in_err-label_pass : goal.returns-in_err-label_pass
returns-in_err-label_pass c = let p = err_from_is_err_and c.from_residual.result c.from_residual.ensures.1 in
    rw (p.1, p.2) (handed c.in_err-label_pass.ensures (stopped _))

pub loop-label-preserved : goal.loop-label-preserved
loop-label-preserved c = (walked_on (c.in_ok-label_pass.ensures.passed refl) (omega arith), omega arith, omega arith, search rules, search rules, search rules)

pub returns : goal.returns
returns c = holds (walked_on c.loop-label.invariant.0 (omega arith))
