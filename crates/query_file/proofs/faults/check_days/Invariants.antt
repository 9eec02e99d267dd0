-- `query_file::faults::check_days` meets its contract: no vertex before w has a fault. Assumes nothing.
use mathlib.Core.Path.{◌≡◌}
use Prim.Native.Nat.{◌≤◌}
use Rattle.query_file.specs.Inner.Parts.{query_days_fault}
use Rattle.query_file.proofs.faults.check_days.Given as goal

abbrev pub invariant-loop-w : goal.invariant-loop-w
invariant-loop-w l = (l.w ≤ l.file.vertices) × (query_days_fault l.file.bytes.now l.w ≡ 0)
