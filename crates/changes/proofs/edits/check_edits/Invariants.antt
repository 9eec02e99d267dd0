-- `changes::edits::check_edits` meets its contract. Assumes nothing.
use Rattle.graph.specs.Store.{graph_in}
use Rattle.changes.proofs.Present.{Applying}
use Rattle.changes.proofs.edits.check_edits.Given as goal

abbrev pub invariant-loop-i : goal.invariant-loop-i
invariant-loop-i l = Applying (graph_in l.old) l.file l.i
