-- `plan_file::plan_of` meets its contract: the loop has copied i operators. Assumes nothing.
use Prim.Native.Nat.{◌≤◌}
use Rattle.plan_file.proofs.Structs.{Copied}
use Rattle.plan_file.proofs.plan_of.Given as goal

abbrev pub invariant-loop-i : goal.invariant-loop-i
invariant-loop-i l = (l.i ≤ l.count) × Copied l.file l.i l.at l.kinds l.operands
