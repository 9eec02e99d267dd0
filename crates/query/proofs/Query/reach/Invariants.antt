-- `query::Query::reach` meets its contract: after w vertices, the set has grown by those below w. Assumes nothing.
use Prim.Native.Nat.{◌≤◌}
use Rattle.query.specs.Inner.Struct.{query_in}
use Rattle.query.specs.Inner.Mask.{in_mask, MaskOf, with_neighbours}
use Rattle.query.proofs.Query.reach.Given as goal

abbrev pub invariant-loop-w : goal.invariant-loop-w
invariant-loop-w l = (l.w ≤ l.self.vertices) × MaskOf l.next (with_neighbours (query_in l.self) (in_mask l.set) l.w)
