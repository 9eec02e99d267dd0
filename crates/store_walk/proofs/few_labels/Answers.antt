-- `store_walk::few_labels` meets its contract: no more labels are counted than few. Assumes nothing.
use native.Mathlib.Omega.{arith}
use Rattle.store_walk.proofs.few_labels.Goals as goal
use Rattle.store_walk.proofs.few_labels.Goals.{then-not-seen-label+else-labels-eq-FEW_LABELS, else-not-seen-label}

pub loop-i-init : goal.loop-i-init
loop-i-init c = (omega arith, omega arith)

pub loop-i-preserved : goal.loop-i-preserved
loop-i-preserved c = (
  elim c.if-not-seen-label.branch [
    | then-not-seen-label+else-labels-eq-FEW_LABELS w ↦ omega arith
    | else-not-seen-label w ↦ omega arith
  ],
  omega arith,
)
