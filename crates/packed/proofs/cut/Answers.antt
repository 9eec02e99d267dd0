-- `packed::cut` meets its contract: 1 shifted by `width`, less 1, is a mask of that many ones. Assumes nothing.
use Prim.Native.Nat.{◌/◌, ◌^◌}
use native.Mathlib.Omega.{arith}
use lib.Dec.{lit<}
use lib.Pow.{pow_pos, shl_exact}
use Rattle.packed.proofs.Shifts.{masked}
use Rattle.packed.proofs.cut.Goals as goal

pub overflow_sub-result : goal.overflow_sub-result
overflow_sub-result c = rw (shl_exact 2 c.args.width 64 (lit< tt) (omega arith)) (omega (arith, pow_pos c.args.width))

pub returns : goal.returns
returns c = masked (c.args.w / 2 ^ c.args.after) c.args.width (omega arith)
