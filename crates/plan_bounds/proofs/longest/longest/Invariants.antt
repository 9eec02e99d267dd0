-- `plan_bounds::longest::longest` meets its contract: the loop's invariant: the most so far is that of the vertices before v. A portion is no longer than its list. Assumes nothing.
use mathlib.Core.Path.{◌≡◌}
use Rattle.lists.specs.Lists.{range, largest}
use Rattle.graph.specs.Graph.{Direction, portion_length}
use Rattle.graph.specs.Store.{graph_in}
use Rattle.adjacency.specs.Inner.Side.{side_in}
use Rattle.plan_bounds.proofs.longest.longest.Given as goal

abbrev pub invariant-loop-v : goal.invariant-loop-v
invariant-loop-v l = (d : Direction) → l.side ≡ side_in d l.store → l.most ≡ largest (portion_length (graph_in l.store) d l.label) (range l.v)
