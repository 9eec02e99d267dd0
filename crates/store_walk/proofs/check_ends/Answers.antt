-- `store_walk::check_ends` meets its contract: the answers to its two tests. Assumes nothing.
use native.Mathlib.Omega.{arith}
use Rattle.store_walk.proofs.Finished.{offsets-long, offsets-small, at_end, not-ended}
use Rattle.store_walk.proofs.check_ends.Goals as goal

pub all_done-requires : goal.all_done-requires
all_done-requires c = let r = c.requires.0 in (offsets-long r, omega arith, r.few, offsets-small r)

pub returns-then-not-at_ends : goal.returns-then-not-at_ends
returns-then-not-at_ends c = not-ended

pub returns : goal.returns
returns c = at_end c.requires.0 (c.at_ends.ensures c.if-not-at_ends.false) (c.all_done.ensures c.if-not-all_done.false)
