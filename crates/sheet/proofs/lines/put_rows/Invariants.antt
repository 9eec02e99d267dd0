-- `sheet::lines::put_rows` meets its contract: the first i rows are written, the other lines are blank. Assumes nothing.
use Rattle.sheet.proofs.Rowed.{Rowed}
use Rattle.sheet.proofs.lines.put_rows.Given as goal

abbrev pub invariant-loop-i : goal.invariant-loop-i
invariant-loop-i l = Rowed l.words l.n l.rows l.lines l.i
