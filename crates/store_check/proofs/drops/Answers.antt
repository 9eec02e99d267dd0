-- `store_check::drops` meets its contract: the words up to i are counted. Assumes nothing.
use mathlib.Core.Path.{◌≡◌, refl, subst}
use Prim.Native.Nat.{ℕ, ◌+◌, ◌-◌}
use native.Mathlib.Omega.{arith}
use lib.Dec.{ltb}
use lib.ListN.{length, get_or}
use Rattle.lists.proofs.Bits.{bit_le}
use Rattle.store_check.specs.Inner.Order.{Drops}
use Rattle.store_check.proofs.Dropping.{drops-start, drops-next}
use Rattle.store_check.proofs.drops.Goals as goal

pub loop-i-init : goal.loop-i-init
loop-i-init c = (omega arith, omega arith, drops-start)

pub overflow_add-sum : goal.overflow_add-sum
overflow_add-sum c = let i = c.loop-i.i in
    omega (arith, bit_le (ltb (get_or c.args.part.now (i + 1) 0) (get_or c.args.part.now i 0)))

pub loop-i-preserved : goal.loop-i-preserved
loop-i-preserved c = let i = c.loop-i.i in
    (omega arith, omega (arith, bit_le (ltb (get_or c.args.part.now (i + 1) 0) (get_or c.args.part.now i 0))), drops-next c.loop-i.invariant.2 refl)

pub returns : goal.returns
returns c = subst (λ (k : ℕ). Drops c.args.part.now k c.loop-i.sum)
    (let e : c.loop-i.i ≡ length c.args.part.now - 1 = omega arith in e) c.loop-i.invariant.2
