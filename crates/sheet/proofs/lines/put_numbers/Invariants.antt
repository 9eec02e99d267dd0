-- `sheet::lines::put_numbers` meets its contract: the first i numbers are written, blanks follow. Assumes nothing.
use Rattle.sheet.proofs.Numbered.{Numbered}
use Rattle.sheet.proofs.lines.put_numbers.Given as goal

abbrev pub invariant-loop-i : goal.invariant-loop-i
invariant-loop-i l = Numbered l.numbers l.initial.text l.text l.i
