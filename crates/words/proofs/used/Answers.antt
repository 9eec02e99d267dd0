-- `words::used` meets its contract: the words from `end` on are 0. Assumes nothing.
use Prim.Native.Nat.{◌-◌}
use native.Mathlib.Omega.{arith}
use lib.ListN.{drop, length-drop}
use lib.Seq.{length-take-le}
use Rattle.words.proofs.Zeros.{more-zeros, last-zeros}
use Rattle.words.proofs.used.Goals as goal

pub loop-end-init : goal.loop-end-init
loop-end-init c = (omega arith, λ k a b. absurd (omega arith))

pub set_words-requires : goal.set_words-requires
set_words-requires c = let part = c.args.part.now in
    rw (length-take-le (c.loop-end.end - (c.loop-end.end - 4096)) (drop (c.loop-end.end - 4096) part) (rw length-drop (omega arith))) (omega arith)

pub returns-then-set_words-ne0 : goal.returns-then-set_words-ne0
returns-then-set_words-ne0 c = (c.loop-end.invariant.0, last-zeros c.args.part.now c.loop-end.end c.loop-end.invariant.1)

pub loop-end-preserved : goal.loop-end-preserved
loop-end-preserved c = (omega arith, more-zeros c.args.part.now (c.loop-end.end - 4096) c.loop-end.end (omega arith) c.loop-end.invariant.0 (c.set_words.ensures c.if-set_words-ne0.false) c.loop-end.invariant.1)

pub returns : goal.returns
returns c = (c.loop-end.invariant.0, last-zeros c.args.part.now c.loop-end.end c.loop-end.invariant.1)
