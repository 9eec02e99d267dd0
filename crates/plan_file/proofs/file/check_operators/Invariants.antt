-- `plan_file::file::check_operators` meets its contract: the loop has passed i operators without fault. Assumes nothing.
use Prim.Native.Nat.{◌≤◌}
use Rattle.plan_file.specs.Inner.Parts.{of_size}
use Rattle.plan_file.proofs.Places.{Passed}
use Rattle.plan_file.proofs.file.check_operators.Given as goal

abbrev pub invariant-loop-i : goal.invariant-loop-i
invariant-loop-i l = (l._i ≤ l.count) × Passed (of_size l.n l.m) l.file l._i l.at
