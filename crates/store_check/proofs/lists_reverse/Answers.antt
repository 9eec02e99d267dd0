-- `store_check::lists_reverse` meets its contract: the lists of the vertices below v fit, and have their reverses. Assumes nothing.
use native.Mathlib.Omega.{arith}
use mathlib.Core.Path.{◌∙◌}
use Rattle.store_reverse.proofs.Loops.{lists-both, below-start, below_next, below-stop, below_end}
use Rattle.store_check.proofs.lists_reverse.Goals as goal

pub loop-v-init : goal.loop-v-init
loop-v-init c = below-start

pub neighbours-requires : goal.neighbours-requires
neighbours-requires c = c.requires.by_index c.loop-v.v (omega arith)

pub list_reverses-requires : goal.list_reverses-requires
list_reverses-requires c = record { good_side = c.requires.good_side; v_lt_n = (omega arith, c.requires.n_bound) }

pub returns-then-not-list_reverses : goal.returns-then-not-list_reverses
returns-then-not-list_reverses c = below-stop c.loop-v.invariant (omega arith) (rw c.neighbours.ensures at c.list_reverses.ensures) c.if-not-list_reverses.true
    ∙ lists-both c.args.store.now c.args.n c.args.side c.args.other

pub loop-v-preserved : goal.loop-v-preserved
loop-v-preserved c = below_next c.loop-v.invariant (omega arith) (rw c.neighbours.ensures at c.list_reverses.ensures) c.if-not-list_reverses.false

pub returns : goal.returns
returns c = below_end c.loop-v.invariant (omega arith) ∙ lists-both c.args.store.now c.args.n c.args.side c.args.other
