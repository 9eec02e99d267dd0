-- `plan_order::count_labels` meets its contract. The loop's invariant: the counts are those of the first i entries.
-- Assumes nothing.
use Rattle.counting_sort.proofs.Counting.{Tallied}
use Rattle.plan_order.proofs.Tallies.{label_at}
use Rattle.plan_order.proofs.count_labels.Given as goal

abbrev pub invariant-loop-entry : goal.invariant-loop-entry
invariant-loop-entry l = Tallied (label_at l.entries) 256 l.entry-index l.counts
