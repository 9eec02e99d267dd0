-- `query_file::faults::check_edges` meets its contract: no edge before i has a fault, and `least` is the least key that ascends at i.
-- Assumes nothing.
use mathlib.Core.Path.{◌≡◌}
use Prim.Native.Nat.{◌≤◌}
use Rattle.query_file.specs.Inner.Parts.{query_edges_fault}
use Rattle.query_file.proofs.FileLaws.{least_key}
use Rattle.query_file.proofs.faults.check_edges.Given as goal

abbrev pub invariant-loop-i : goal.invariant-loop-i
invariant-loop-i l = (l.i ≤ l.file.edges) × (query_edges_fault l.file.bytes.now l.i ≡ 0) × (l.least ≡ least_key l.file.bytes.now l.i)
