-- `plan_spectrum::writing::write_entries` meets its contract. Assumes nothing.
use Prim.Native.Nat.{◌-◌}
use Rattle.plan_spectrum.proofs.Entering.{Entered}
use Rattle.plan_spectrum.proofs.writing.write_entries.Given as goal

abbrev pub invariant-loop-k : goal.invariant-loop-k
invariant-loop-k l = Entered l.width l.plans l.list l.costs l.initial.out l.out l.k
