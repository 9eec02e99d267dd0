-- `packed::put::put_byte` meets its contract: past the end nothing is set. Assumes nothing.
use mathlib.Core.Path.{sym}
use lib.Seq.{set_out}
use Rattle.packed.proofs.put.put_byte.Goals as goal

pub returns-else-i-s : goal.returns-else-i-s
returns-else-i-s c = sym (set_out _ _ _ c.if-i-s.false)
