-- `words::move_down` meets its contract: the first i words are those from `from` on, which are read before they are written over.
-- Assumes nothing.
use lib.ListN.{drop}
use Rattle.words.proofs.Copying.{Copied}
use Rattle.words.proofs.move_down.Given as goal

abbrev pub invariant-loop-i : goal.invariant-loop-i
invariant-loop-i l = Copied (drop l.from l.initial.part) l.initial.part l.part l.i
