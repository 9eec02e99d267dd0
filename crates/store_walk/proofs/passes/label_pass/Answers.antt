-- `store_walk::passes::label_pass` meets its contract: the vertices of the words before i are passed. Assumes nothing.
use mathlib.Core.Path.{refl}
use native.Mathlib.Omega.{arith}
use borrow.Author.Rules.{rules}
use Rattle.std.proofs.lemmas.Result.{err_from_is_err_and}
use Rattle.store_step.proofs.Stops.{stopped}
use Rattle.store_step.proofs.Walking.{walked_on}
use Rattle.store_step.proofs.Stepping.{undecided, holds, handed, tables-kept, block_in}
use Rattle.store_walk.proofs.passes.label_pass.Goals as goal

pub returns-then-set-eq0 : goal.returns-then-set-eq0
returns-then-set-eq0 c = holds (walked_on c.requires.walked_in (omega arith))

pub returns-then-set-gt-SETS : goal.returns-then-set-gt-SETS
returns-then-set-gt-SETS c = undecided

pub loop-i-init : goal.loop-i-init
loop-i-init c = (walked_on c.requires.walked_in (omega arith), omega arith, refl, refl, refl)

pub bounds-sets-i : goal.bounds-sets-i
bounds-sets-i c = omega (arith, c.loop-i.invariant.4, block_in {set = 15} c.requires.sides.1.sets_fit c.loop-i.i (omega (arith, c.div_ceil-i-end.ensures)) (omega arith))

pub word_pass-requires : goal.word_pass-requires
word_pass-requires c = record { sides = (c.requires.sides.0, tables-kept c.requires.sides.1 c.loop-i.invariant.2 c.loop-i.invariant.3 c.loop-i.invariant.4); labelled = (record { label = c.args.label; begins = refl; given = omega arith; narrow = omega arith }, omega arith); walked_in = walked_on c.loop-i.invariant.0 (omega arith) }

pub returns-in_err-word_pass : goal.returns-in_err-word_pass
returns-in_err-word_pass c = let p = err_from_is_err_and c.from_residual.result c.from_residual.ensures.1 in
    rw (p.1, p.2) (handed c.in_err-word_pass.ensures (stopped _))

pub loop-i-preserved : goal.loop-i-preserved
loop-i-preserved c = (walked_on (c.in_ok-word_pass.ensures.passed refl) (omega arith), omega arith, search rules, search rules, search rules)

pub returns : goal.returns
returns c = holds (walked_on c.loop-i.invariant.0 (omega (arith, c.requires.sides.0.few)))
