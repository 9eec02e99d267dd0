-- `plan_spectrum::listing::list_orderings` meets its contract. Assumes nothing.
use Prim.Native.Nat.{◌-◌}
use Rattle.plan_spectrum.proofs.Scanning.{Scanned}
use Rattle.plan_spectrum.proofs.listing.list_orderings.Given as goal

abbrev pub invariant-loop-i : goal.invariant-loop-i
invariant-loop-i l = Scanned l.q l.initial.out l.out l.found l.i
