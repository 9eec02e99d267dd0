-- `change_file::check_edges` meets its contract. The loop's invariant: the changes before i fit, and `least` is one more than the key
-- of the one before i. Assumes nothing.
use Rattle.change_file.proofs.Reading.{Fit}
use Rattle.change_file.proofs.check_edges.Given as goal

abbrev pub invariant-loop-i : goal.invariant-loop-i
invariant-loop-i l = Fit l.n l.file l.least l.i
