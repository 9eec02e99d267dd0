-- `packed::fill_set` meets its contract: up to the end of their last byte, 8 - bits % 8 bits follow `bits` bits, or none. Assumes
-- nothing.
use mathlib.Core.Path.{◌≡◌}
use Prim.Native.Nat.{◌-◌, ◌*◌, ◌%◌}
use native.Mathlib.Omega.{arith}
use Rattle.packed.specs.Field.{bytes_for, fill_set}
use Rattle.packed.proofs.fill_set.Goals as goal

pub returns : goal.returns
unfolding fill_set
returns c = let width : 8 * bytes_for c.args.bits - c.args.bits ≡ (8 - c.args.bits % 8) % 8 = omega arith in
    rw (c.field.ensures, width)
