-- `store_check::offsets_fit` meets its contract: a failed test refuses the offsets, and with none failed they rise from 0 to m. Assumes nothing.
use Rattle.store_reverse.proofs.Loops.{offsets-first}
use Rattle.store_check.proofs.Dropping.{drops-off, offsets-decide}
use Rattle.store_check.proofs.offsets_fit.Goals as goal
use Rattle.store_check.proofs.offsets_fit.Goals.{then-part-ne0-via-then-part-ne0, then-part-ne0-via-else-part-ne0+then-drops-ne0}

pub returns-then-part-ne0 : goal.returns-then-part-ne0
returns-then-part-ne0 c = elim c.then-part-ne0.branch [
  | then-part-ne0-via-then-part-ne0 w ↦ offsets-first c.args.m c.args.part.now c.requires.0 w.if-part-ne0.true
  | then-part-ne0-via-else-part-ne0+then-drops-ne0 w ↦ drops-off c.args.m c.args.part.now c.requires.0 w.drops.ensures w.if-drops-ne0.true
]

pub returns : goal.returns
returns c = offsets-decide c.args.m c.args.part.now c.requires.0 c.if-part-ne0.false c.drops.ensures c.if-drops-ne0.false
