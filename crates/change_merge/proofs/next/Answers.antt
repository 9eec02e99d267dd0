-- `change_merge::next` meets its contract. Assumes nothing.
use native.Mathlib.Omega.{arith}
use Rattle.change_merge.proofs.Nexts.{next-end, next-other, next_here}
use Rattle.change_merge.proofs.next.Goals as goal

pub returns-then-j-k : goal.returns-then-j-k
returns-then-j-k c = next-end _ _ c.requires.0 _ _ (omega arith)

pub returns-then-key-v : goal.returns-then-key-v
returns-then-key-v c = next-other _ _ c.requires.0 _ _ (omega arith) c.side_key-key.ensures (λ e. c.if-key-v.true (omega arith))

pub returns : goal.returns
returns c = next_here _ _ c.requires.0 _ _ (omega arith) c.side_key-key.ensures (omega arith)
