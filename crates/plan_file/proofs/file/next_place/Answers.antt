-- `plan_file::file::next_place` meets its contract: an operand has at most 5 bits. Assumes nothing.
use native.Mathlib.Omega.{arith}
use Rattle.plan_file.proofs.Places.{operand-width-le}
use Rattle.plan_file.proofs.file.next_place.Goals as goal

pub overflow_add-result-2 : goal.overflow_add-result-2
overflow_add-result-2 c = omega (arith, c.operand_width.ensures, operand-width-le c.field.result)

pub returns : goal.returns
returns c = record { is = rw (c.operand_width.ensures, c.field.ensures); near = omega (arith, c.operand_width.ensures, operand-width-le c.field.result) }
