-- `store_walk::all_done` meets its contract: where none of the vertices below v has entries left, all theirs are done.
-- Assumes nothing.
use mathlib.Core.Path.{ap}
use Prim.Native.Nat.{ℕ, ◌+◌}
use native.Mathlib.Numerals.{add-one}
use native.Mathlib.Omega.{arith}
use lib.Dec.{ltb}
use lib.ListN.{get_or}
use borrow.Author.Tests.{eqb-true}
use Rattle.words.proofs.Zeros.{byte_le}
use Rattle.store_walk.proofs.Sums.{none_below}
use borrow.Author.Count.{below_more}
use Rattle.store_walk.proofs.all_done.Goals as goal

pub loop-v-init : goal.loop-v-init
loop-v-init c = (omega arith, omega arith, λ z k l. absurd (omega arith))

pub overflow_add-left-in-loop-v : goal.overflow_add-left-in-loop-v
overflow_add-left-in-loop-v c = omega (arith, c.type_inv.done c.loop-v.v, c.requires.3 c.loop-v.v (omega arith))

pub overflow_add-left-in-loop-v-2 : goal.overflow_add-left-in-loop-v-2
overflow_add-left-in-loop-v-2 c = let v = c.loop-v.v in
    omega (arith, byte_le (ltb (get_or c.args.starts.now v 0 + get_or c.args.done.now v 0) (get_or c.args.starts.now (v + 1) 0)))

pub loop-v-preserved : goal.loop-v-preserved
loop-v-preserved c = let a = c.args in
    let v = c.loop-v.v in
    let x = get_or a.starts.now v 0 + get_or a.done.now v 0 in
    let y = get_or a.starts.now (v + 1) 0 in
    (omega arith, omega (arith, byte_le (ltb x y)), λ z. below_more _ _ (c.loop-v.invariant.2 (omega arith)) (omega (arith, none_below x y (omega arith), ap (λ (k : ℕ). get_or a.starts.now k 0) (add-one v))))

pub returns : goal.returns
returns c = λ e u h. c.loop-v.invariant.2 (eqb-true _ _ e) u (omega arith)
