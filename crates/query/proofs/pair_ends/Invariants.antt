-- `query::pair_ends` meets its contract: after i pairs, the ends that these have with v. Assumes nothing.
use Rattle.query.specs.Inner.Mask.{MaskOf}
use Rattle.query.proofs.Pairs.{by_pairs}
use Rattle.query.proofs.pair_ends.Given as goal

abbrev pub invariant-loop-i : goal.invariant-loop-i
invariant-loop-i l = MaskOf l.found (by_pairs l.v l.ones l.others l.i)
