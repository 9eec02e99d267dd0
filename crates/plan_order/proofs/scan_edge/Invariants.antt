-- `plan_order::scan_edge` meets its contract. The loop's invariant: the best of the first i edges, and its label's count.
-- Assumes nothing.
use Prim.Native.Nat.{◌≤◌}
use Rattle.query.specs.Inner.Struct.{query_in}
use Rattle.plan_order.proofs.Choosing.{Fewest}
use Rattle.plan_order.proofs.Tallies.{size_by}
use Rattle.plan_order.proofs.scan_edge.Given as goal

abbrev pub invariant-loop-i : goal.invariant-loop-i
invariant-loop-i l = (l.i ≤ l.q.edges) × Fewest (size_by l.counts (query_in l.q)) l.i l.best l.fewest
