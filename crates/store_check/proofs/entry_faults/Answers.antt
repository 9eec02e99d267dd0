-- `store_check::entry_faults` meets its contract: a bool as a number is 0 or 1. Assumes nothing.
use Prim.Native.Nat.{◌%◌}
use native.Mathlib.Omega.{arith}
use mathlib.Core.Path.{refl}
use lib.Dec.{leb, ltb}
use Rattle.lists.proofs.Bits.{bit_le}
use Rattle.store_check.proofs.entry_faults.Goals as goal

pub overflow_add-result : goal.overflow_add-result
overflow_add-result c = omega (arith, bit_le (ltb c.args.entry 65536), bit_le (leb 16777216 c.args.entry))

pub overflow_add-result-2 : goal.overflow_add-result-2
overflow_add-result-2 c = omega (arith, bit_le (ltb c.args.entry 65536), bit_le (leb 16777216 c.args.entry), bit_le (leb c.args.n (c.args.entry % 65536)))

pub returns : goal.returns
returns c = (refl, omega (arith, bit_le (ltb c.args.entry 65536), bit_le (leb 16777216 c.args.entry), bit_le (leb c.args.n (c.args.entry % 65536))))
