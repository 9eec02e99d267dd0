-- `packed::field` meets its contract: it is cut from the word at its first byte (`field_cut`). Assumes nothing.
use native.Mathlib.Omega.{arith}
use Rattle.packed.proofs.Laws.{field_cut}
use Rattle.packed.proofs.Shifts.{low_fits}
use Rattle.packed.proofs.field.Goals as goal

pub overflow_cast-result : goal.overflow_cast-result
overflow_cast-result c = record { fits = rw c.cut.ensures (low_fits _ c.args.width 32 (omega arith)) }

pub returns : goal.returns
returns c = rw (c.cut.ensures, c.word.ensures) (field_cut _ _ _ 32 (omega arith))
