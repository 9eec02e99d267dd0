-- `query::Query::adjacent` meets its contract: after i edges, the set of v's neighbours by these. Assumes nothing.
use Prim.Native.Nat.{◌≤◌}
use Rattle.query.specs.Inner.Mask.{MaskOf}
use Rattle.query.proofs.Touch.{by_first}
use Rattle.query.proofs.Query.adjacent.Given as goal

abbrev pub invariant-loop-i : goal.invariant-loop-i
invariant-loop-i l = (l.i ≤ l.self.edges) × MaskOf l.found (by_first l.self l.v l.i)
