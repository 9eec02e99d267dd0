-- `sheet::lines::put_blank_lines` meets its contract: the first i lines are blank. Assumes nothing.
use Rattle.sheet.proofs.Blanked.{Blanked}
use Rattle.sheet.proofs.lines.put_blank_lines.Given as goal

abbrev pub invariant-loop-i : goal.invariant-loop-i
invariant-loop-i l = Blanked l.initial.bytes l.bytes l.i
