-- `query_file::faults::check_pairs` meets its contract: no pair before i has a fault, and `least` is the least key that ascends at i.
-- Assumes nothing.
use mathlib.Core.Path.{◌≡◌}
use Prim.Native.Nat.{◌≤◌}
use Rattle.query_file.specs.Inner.Parts.{query_pairs_fault}
use Rattle.query_file.proofs.FileLaws.{least_pair}
use Rattle.query_file.proofs.faults.check_pairs.Given as goal

abbrev pub invariant-loop-i : goal.invariant-loop-i
invariant-loop-i l = (l.i ≤ l.k) × (query_pairs_fault l.file.bytes.now l.i ≡ 0) × (l.least ≡ least_pair l.file.bytes.now l.i)
