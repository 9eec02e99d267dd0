-- `store_walk::at_ends` meets its contract: where none of the cursors before i is apart, they stand at their ends.
-- Assumes nothing.
use mathlib.Core.Bool.{not}
use native.Mathlib.Omega.{arith}
use lib.Dec.{eqb}
use lib.ListN.{get_or}
use borrow.Author.Tests.{eqb-true}
use Rattle.words.proofs.Zeros.{byte_le}
use Rattle.store_walk.proofs.Sums.{no_difference}
use borrow.Author.Count.{below_more}
use Rattle.store_walk.proofs.at_ends.Goals as goal

pub loop-i-init : goal.loop-i-init
loop-i-init c = (omega arith, omega arith, λ z k l. absurd (omega arith))

pub overflow_add-apart : goal.overflow_add-apart
overflow_add-apart c = let i = c.loop-i.i in
    omega (arith, byte_le (not (eqb (get_or c.args.cursors.now i 0) (get_or c.args.ends.now i 0))))

pub loop-i-preserved : goal.loop-i-preserved
loop-i-preserved c = let i = c.loop-i.i in
    let x = get_or c.args.cursors.now i 0 in
    let y = get_or c.args.ends.now i 0 in
    (omega arith, omega (arith, byte_le (not (eqb x y))), λ z. below_more _ _ (c.loop-i.invariant.2 (omega arith)) (no_difference x y (omega arith)))

pub returns : goal.returns
returns c = λ e t h. c.loop-i.invariant.2 (eqb-true _ _ e) t (omega arith)
