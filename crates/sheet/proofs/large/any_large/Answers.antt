-- `sheet::large::any_large` meets its contract: the bits of the first i words are gathered. Assumes nothing.
use native.Mathlib.Omega.{arith}
use Rattle.sheet.proofs.Gathered.{gathered_none, gathered_next, gathered-all}
use Rattle.sheet.proofs.large.any_large.Goals as goal

pub loop-word-init : goal.loop-word-init
loop-word-init c = (omega arith, gathered_none c.args.words.now)

pub loop-word-preserved : goal.loop-word-preserved
loop-word-preserved c = let l = c.loop-word in (omega arith, gathered_next _ l.seen l.word-index (omega arith) l.invariant.1)

pub returns : goal.returns
returns c = let l = c.loop-word in gathered-all _ l.seen l.word-index (omega arith) l.invariant.1
