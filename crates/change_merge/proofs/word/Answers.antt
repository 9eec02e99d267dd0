-- `change_merge::word` meets its contract. Assumes nothing.
use native.Mathlib.Omega.{arith}
use mathlib.Core.Path.{sym}
use lib.ListN.{get_or-eq_default}
use Rattle.change_merge.proofs.Nexts.{word_at}
use Rattle.change_merge.proofs.word.Goals as goal

pub returns-then-i-list : goal.returns-then-i-list
returns-then-i-list c = let a = c.args in word_at a.list.now a.i 0 16777216 (omega arith)

pub returns-else-i-list : goal.returns-else-i-list
returns-else-i-list c = let a = c.args in sym (get_or-eq_default a.list.now 16777216 {n = a.i} (omega arith))
