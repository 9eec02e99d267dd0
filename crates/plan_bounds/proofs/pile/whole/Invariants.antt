-- `plan_bounds::pile::whole` meets its contract: the loop's invariant: the pile is that of the first i operators. Assumes nothing.
use Rattle.graph.specs.Store.{graph_in}
use Rattle.query.specs.Inner.Struct.{query_in}
use Rattle.plan_bounds.proofs.Turning.{Turned}
use Rattle.plan_bounds.proofs.pile.whole.Given as goal

abbrev pub invariant-loop-i : goal.invariant-loop-i
invariant-loop-i l = Turned (graph_in l.store) (query_in l.q) l.plan l.i l.pile
