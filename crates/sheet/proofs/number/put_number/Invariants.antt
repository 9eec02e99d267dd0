-- `sheet::number::put_number` meets its contract: the digits after those that are left are written. Assumes nothing.
use lib.ListN.{length}
use Rattle.sheet.proofs.Numbers.{Writing}
use Rattle.sheet.proofs.number.put_number.Given as goal

abbrev pub invariant-loop-i : goal.invariant-loop-i
invariant-loop-i l = Writing l.x (length l.initial.columns) l.columns l.i l.rest
