-- `planner::pack::put_extends` meets its contract. The loop's invariant: the bits of the first i extends are written. Assumes nothing.
use mathlib.Core.Path.{◌≡◌}
use mathlib.Core.List.{List, ◌++◌}
use Prim.Native.Nat.{ℕ, ◌+◌, ◌*◌, ◌≤◌}
use lib.ListN.{length}
use Rattle.packed.specs.Inner.Put.{written}
use Rattle.query.specs.Inner.Mask.{in_mask}
use Rattle.query.specs.Inner.Struct.{query_in}
use Rattle.plan_order.specs.Order.{extends_from}
use Rattle.planner.proofs.Turns.{Turned, bits_to}
use Rattle.planner.proofs.pack.put_extends.Given as goal

abbrev pub invariant-loop-i : goal.invariant-loop-i
invariant-loop-i l = (l.at ≡ 12 + 5 * l._i) × (l._i ≤ l.extends) × (length l.plan ≡ length l.initial.plan) × Turned (query_in l.q) (in_mask l.set) l.extends l._i l.covered
    × ((old bits : List ℕ) → l.initial.plan ≡ written old bits → length bits ≡ 12
    → l.plan ≡ written old (bits ++ bits_to (extends_from (query_in l.q) (in_mask l.set) l.extends) l._i))
