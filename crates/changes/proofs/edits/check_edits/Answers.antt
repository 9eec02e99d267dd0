-- `changes::edits::check_edits` meets its contract. Assumes nothing.
use native.Mathlib.Omega.{arith}
use Rattle.changes.proofs.Present.{editable-sized, looked-within, looked-ascends, stands-there, applying-none, applying-more, applying-stop, applying-all}
use Rattle.changes.proofs.edits.check_edits.Goals as goal

pub loop-i-init : goal.loop-i-init
loop-i-init c = applying-none _ _

pub source-requires : goal.source-requires
source-requires c = (editable-sized c.requires, omega arith)

pub neighbours-list-requires : goal.neighbours-list-requires
neighbours-list-requires c = looked-within c.requires c.loop-i-test.true (omega (arith, c.source.ensures.0))

pub forward_entry-e-requires : goal.forward_entry-e-requires
forward_entry-e-requires c = (editable-sized c.requires, omega arith)

pub place-hint-requires : goal.place-hint-requires
place-hint-requires c = looked-ascends c.requires c.loop-i-test.true c.source.ensures.0 c.neighbours-list.ensures

pub stands-requires : goal.stands-requires
stands-requires c = (looked-ascends c.requires c.loop-i-test.true c.source.ensures.0 c.neighbours-list.ensures, c.place-hint.ensures)

pub adds-requires : goal.adds-requires
adds-requires c = (editable-sized c.requires, omega arith)

pub returns-then-stands-adds : goal.returns-then-stands-adds
returns-then-stands-adds c = applying-stop _ _ (omega arith) (stands-there c.requires c.loop-i-test.true c.source.ensures.0 c.neighbours-list.ensures c.forward_entry-e.ensures.0 c.stands.ensures) c.adds.ensures c.if-stands-adds.true

pub loop-i-preserved : goal.loop-i-preserved
loop-i-preserved c = applying-more c.loop-i.invariant (stands-there c.requires c.loop-i-test.true c.source.ensures.0 c.neighbours-list.ensures c.forward_entry-e.ensures.0 c.stands.ensures) c.adds.ensures c.if-stands-adds.false

pub returns : goal.returns
returns c = applying-all c.loop-i.invariant (omega arith)
