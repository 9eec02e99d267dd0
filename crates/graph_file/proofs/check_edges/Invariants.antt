-- `graph_file::check_edges` meets its contract. The loop's invariant: no edge before i is at fault, and `least` is one more than
-- the key of the edge before i. Assumes nothing.
use Prim.Native.Nat.{◌≤◌}
use Rattle.graph_file.proofs.Refused.{Faultless}
use Rattle.graph_file.proofs.check_edges.Given as goal

abbrev pub invariant-loop-i : goal.invariant-loop-i
invariant-loop-i l = (l.i ≤ l.file.graph.edges) × Faultless l.file.bytes.now l.least l.i
