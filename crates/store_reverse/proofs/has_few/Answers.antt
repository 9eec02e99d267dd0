-- `store_reverse::has_few` meets its contract: every word of the list is looked at. Assumes nothing.
use mathlib.Core.Path.{sym}
use native.Mathlib.Omega.{arith}
use Prim.Native.Nat.{◌-◌}
use lib.Dec.{ltb}
use lib.ListN.{length}
use Rattle.words.proofs.Zeros.{byte_le}
use Rattle.store_reverse.proofs.Few.{lacks-none, few-found}
use Rattle.store_reverse.proofs.has_few.Goals as goal

pub returns-then-list-eq0 : goal.returns-then-list-eq0
returns-then-list-eq0 c = sym (lacks-none c.args.x c.args.list.now c.if-list-eq0.true)

pub overflow_add-third : goal.overflow_add-third
overflow_add-third c = let end = length c.args.list.now - 1 in omega (arith, byte_le (ltb 0 end), byte_le (ltb 1 end))

pub returns : goal.returns
returns c = few-found c.args.x c.args.list.now (omega arith) c.requires
