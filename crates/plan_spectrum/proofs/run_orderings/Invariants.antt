-- `plan_spectrum::run_orderings` meets its contract. Assumes nothing.
use Prim.Native.Nat.{◌-◌}
use Rattle.graph.specs.Store.{graph_in}
use Rattle.query.specs.Inner.Struct.{query_in}
use Rattle.plan_spectrum.proofs.Pricing.{Priced}
use Rattle.plan_spectrum.proofs.run_orderings.Given as goal

abbrev pub invariant-loop-k : goal.invariant-loop-k
invariant-loop-k l = Priced (graph_in l.store) (query_in l.q) l.initial.work l.work l.initial.costs l.costs l.k
