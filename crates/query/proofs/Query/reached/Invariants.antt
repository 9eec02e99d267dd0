-- `query::Query::reached` meets its contract: after k steps, the vertices that k edges lead to. Assumes nothing.
use Prim.Native.Nat.{◌≤◌}
use Rattle.query.specs.Query.{among, reached}
use Rattle.query.specs.Inner.Struct.{query_in}
use Rattle.query.specs.Inner.Mask.{MaskOf}
use Rattle.query.proofs.Query.reached.Given as goal

abbrev pub invariant-loop-step : goal.invariant-loop-step
invariant-loop-step l = (l._step ≤ l.self.vertices) × MaskOf l.seen (among (reached (query_in l.self) l._step))
