-- `plan::Plan::operator` meets its contract, by its tests of the kind. Assumes nothing.
use borrow.Author.Tests.{ne_eqb}
use Rattle.plan.proofs.Plan.operator.Goals as goal

pub returns-then-kind-eq-SCAN : goal.returns-then-kind-eq-SCAN
returns-then-kind-eq-SCAN c = rw c.if-kind-eq-SCAN.true

pub returns-then-kind-eq-EXTEND : goal.returns-then-kind-eq-EXTEND
returns-then-kind-eq-EXTEND c = rw c.if-kind-eq-EXTEND.true

pub returns : goal.returns
returns c = rw (ne_eqb _ 0 c.if-kind-eq-SCAN.false, ne_eqb _ 1 c.if-kind-eq-EXTEND.false)
