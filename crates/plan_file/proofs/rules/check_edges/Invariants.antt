-- `plan_file::rules::check_edges` meets its contract: the loop has lost none of the first i edges. Assumes nothing.
use mathlib.Core.Path.{◌≡◌}
use mathlib.Core.Bool.{true}
use Prim.Native.Nat.{ℕ, ◌≤◌, ◌<◌}
use Rattle.query.specs.Query.{edge_at}
use Rattle.query.specs.Inner.Struct.{query_in}
use Rattle.query.specs.Inner.Mask.{in_mask}
use Rattle.plan.specs.Inner.Pile.{kept}
use Rattle.plan_file.proofs.rules.check_edges.Given as goal

abbrev pub invariant-loop-i : goal.invariant-loop-i
invariant-loop-i l = (l.i ≤ l.q.edges) × ((j : ℕ) → j < l.i → kept (in_mask l.b) (in_mask l.p) (edge_at (query_in l.q) j) ≡ true)
