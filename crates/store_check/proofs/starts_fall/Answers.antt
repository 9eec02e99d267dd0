-- `store_check::starts_fall` meets its contract: the sum is that of the lists of the vertices below v. Assumes nothing.
use mathlib.Core.Path.{◌≡◌, refl, ◌∙◌, ap}
use Prim.Native.Nat.{ℕ}
use native.Mathlib.Omega.{arith}
use Rattle.lists.specs.Lists.{bit, range, count_if}
use Rattle.lists.proofs.Bits.{bit_le}
use Rattle.store_check.specs.Inner.Order.{start_falls}
use Rattle.store_check.proofs.Order.{starts-next}
use Rattle.store_check.proofs.starts_fall.Goals as goal

pub loop-v-init : goal.loop-v-init
unfolding count_if range
loop-v-init c = (omega arith, omega arith, refl)

pub start_falls-requires : goal.start_falls-requires
start_falls-requires c = c.requires.0 c.loop-v.v (omega arith)

pub loop-v-preserved : goal.loop-v-preserved
loop-v-preserved c = let a = c.args in
    (omega arith, omega (arith, bit_le c.start_falls.result), starts-next a.store.now a.n a.side c.loop-v.v c.loop-v.invariant.2 (ap bit c.start_falls.ensures))

pub returns : goal.returns
returns c = let a = c.args in
    c.loop-v.invariant.2
    ∙ ap (λ (k : ℕ). count_if (start_falls a.store.now a.n a.side) (range k)) (let e : c.loop-v.v ≡ a.n = omega arith in e)

pub overflow_add-sum : goal.overflow_add-sum
overflow_add-sum c = omega (arith, bit_le c.start_falls.result)
