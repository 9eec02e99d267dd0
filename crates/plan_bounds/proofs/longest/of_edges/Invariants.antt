-- `plan_bounds::longest::of_edges` meets its contract: the loop's invariant: the portions seen are those of the first i query edges that run between v and the set. Assumes nothing.
use Prim.Native.Nat.{◌*◌, ◌≤◌}
use Rattle.graph.specs.Store.{graph_in}
use Rattle.query.specs.Inner.Mask.{in_mask}
use Rattle.plan_bounds.specs.Inner.Held.{Seen}
use Rattle.plan_bounds.proofs.Seeing.{lengths_of}
use Rattle.plan_bounds.proofs.longest.of_edges.Given as goal

abbrev pub invariant-loop-i : goal.invariant-loop-i
invariant-loop-i l = Seen (lengths_of (graph_in l.store) l.q l.v (in_mask l.set) l.i) l.seen × (l.seen.count ≤ l.i) × (l.seen.sum ≤ l.i * 1048575)
