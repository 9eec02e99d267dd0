-- `store_reverse::blocks_reversed` meets its contract: the entries of the blocks before `base` have their reverses. Assumes nothing.
use mathlib.Core.Path.{◌∙◌, ap}
use native.Mathlib.Omega.{arith}
use lib.ListN.{length}
use Rattle.store_reverse.proofs.Reverses.{tested-none, block-begins, block-fits, block-refuses, tested-more, tested-all, length-begun, few-begun}
use Rattle.store_reverse.proofs.blocks_reversed.Goals as goal

pub loop-base-init : goal.loop-base-init
loop-base-init c = (c.requires.1, λ f. tested-none f)

pub lists_begun-requires : goal.lists_begun-requires
lists_begun-requires c = let f = c.requires.0 in
    (block-begins f (c.loop-base.invariant.1 f) (omega arith), c.loop-base.invariant.0)

pub block_reversed-requires : goal.block_reversed-requires
block_reversed-requires c = let f = c.requires.0 in
    (f.good, omega (arith, f.few), block-fits f (c.loop-base.invariant.1 f) (omega arith) c.block.ensures c.lists_begun.ensures (ap length c.lists_begun.ensures ∙ length-begun _ _))

pub returns-then-not-block_reversed : goal.returns-then-not-block_reversed
returns-then-not-block_reversed c = let f = c.requires.0 in
    block-refuses f (c.loop-base.invariant.1 f) (omega arith) c.block.ensures c.lists_begun.ensures c.block_reversed.ensures c.if-not-block_reversed.true

pub bounds-begun : goal.bounds-begun
bounds-begun c = omega (arith, ap length c.lists_begun.ensures ∙ length-begun _ _)

pub overflow_cast-next : goal.overflow_cast-next
overflow_cast-next c = let f = c.requires.0 in
    omega (arith, few-begun f c.loop-base.base c.lists_begun.ensures)

pub overflow_add-base : goal.overflow_add-base
overflow_add-base c = omega (arith, c.requires.0.countable)

pub loop-base-preserved : goal.loop-base-preserved
loop-base-preserved c = (ap length c.lists_begun.ensures ∙ length-begun _ _, λ f. tested-more f (c.loop-base.invariant.1 f) (omega arith) c.block.ensures c.lists_begun.ensures c.block_reversed.ensures c.if-not-block_reversed.false)

pub returns : goal.returns
returns c = let f = c.requires.0 in tested-all f (c.loop-base.invariant.1 f) (omega arith)
