-- `plan_order::next_vertex` meets its contract. The loop's invariant: the best of the first v vertices, and its edges. Assumes
-- nothing.
use Prim.Native.Nat.{◌≤◌}
use Rattle.query.specs.Inner.Mask.{in_mask}
use Rattle.query.specs.Inner.Struct.{query_in}
use Rattle.plan_order.specs.Order.{degree}
use Rattle.plan_order.proofs.Choosing.{Most}
use Rattle.plan_order.proofs.next_vertex.Given as goal

abbrev pub invariant-loop-v : goal.invariant-loop-v
invariant-loop-v l = (l.v ≤ l.q.vertices) × Most (degree (query_in l.q) (in_mask l.set)) l.v l.best l.most
