-- `store_reverse::block_reversed` meets its contract: the entries before j have their reverses. Assumes nothing.
use native.Mathlib.Omega.{arith}
use Rattle.store_reverse.proofs.Loops.{below-start, below_next, below-stop, below_end}
use Rattle.store_reverse.proofs.block_reversed.Goals as goal

pub loop-j-init : goal.loop-j-init
loop-j-init c = below-start

pub bounds-begun-j : goal.bounds-begun-j
bounds-begun-j c = omega (arith, c.requires.2.size)

pub overflow_sub-begun : goal.overflow_sub-begun
overflow_sub-begun c = omega (arith, c.requires.2.vertex c.loop-j.j (omega arith))

pub is_reversed-requires : goal.is_reversed-requires
is_reversed-requires c = let v = c.requires.2.vertex c.loop-j.j (omega arith) in
    (c.requires.0, omega (arith, v), c.requires.1, c.requires.2.fits c.loop-j.j (omega arith))

pub returns-then-not-is_reversed : goal.returns-then-not-is_reversed
returns-then-not-is_reversed c = below-stop c.loop-j.invariant (omega arith) c.is_reversed.ensures c.if-not-is_reversed.true

pub loop-j-preserved : goal.loop-j-preserved
loop-j-preserved c = below_next c.loop-j.invariant (omega arith) c.is_reversed.ensures c.if-not-is_reversed.false

pub returns : goal.returns
returns c = below_end c.loop-j.invariant (omega arith)
