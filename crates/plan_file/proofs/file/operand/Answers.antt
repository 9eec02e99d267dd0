-- `plan_file::file::operand` meets its contract: an operand has at most 5 bits. Assumes nothing.
use native.Mathlib.Nat.{le_trans}
use lib.Dec.{lit≤}
use Rattle.plan_file.proofs.Places.{operand-width-le}
use Rattle.plan_file.proofs.file.operand.Goals as goal

pub field-requires-2 : goal.field-requires-2
field-requires-2 c = (rw c.operand_width.ensures (le_trans (operand-width-le c.field.result) (lit≤ tt)), rw (c.operand_width.ensures, c.field.ensures) c.requires.1)

pub returns : goal.returns
returns c = rw (c.field-2.ensures, c.operand_width.ensures, c.field.ensures)
