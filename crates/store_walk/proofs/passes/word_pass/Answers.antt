-- `store_walk::passes::word_pass` meets its contract: the vertices of the word below the lowest of w are passed. Assumes nothing.
use mathlib.Core.Path.{refl, ap}
use Prim.Native.Nat.{◌<◌}
use native.Mathlib.Omega.{arith}
use borrow.Author.Rules.{rules}
use Rattle.std.proofs.lemmas.Result.{err_from_is_err_and}
use Rattle.store_step.proofs.Stops.{stopped}
use Rattle.bitset.specs.Inner.Set.{lowest_bit, without_lowest}
use Rattle.store_walk.proofs.Lowest.{lowest-most, lowest-rises}
use Rattle.store_step.proofs.Walking.{walked_on}
use Rattle.store_step.proofs.Stepping.{holds, handed, tables-kept, next-step}
use Rattle.store_walk.proofs.passes.word_pass.Goals as goal

pub loop-w-init : goal.loop-w-init
loop-w-init c = (c.requires.walked_in, omega arith, refl, refl, refl)

pub overflow_add-v : goal.overflow_add-v
overflow_add-v c = omega (arith, c.lowest.ensures.1)

pub returns-then-n-v : goal.returns-then-n-v
returns-then-n-v c = holds (walked_on c.loop-w.invariant.0 (omega (arith, lowest-most c.loop-w.w)))

pub vertex_pass-requires : goal.vertex_pass-requires
vertex_pass-requires c = let t = tables-kept c.requires.sides.1 c.loop-w.invariant.2 c.loop-w.invariant.3 c.loop-w.invariant.4 in
    let low = c.lowest in
    record { sides = (c.requires.sides.0, t); step_from = next-step c.requires.labelled.0 t c.loop-w.invariant.0 (omega arith) (omega (arith, low.ensures.0)) }

pub returns-in_err-vertex_pass : goal.returns-in_err-vertex_pass
returns-in_err-vertex_pass c = let p = err_from_is_err_and c.from_residual.result c.from_residual.ensures.1 in
    rw (p.1, p.2) (handed c.in_err-vertex_pass.ensures (stopped _))

pub loop-w-smaller : goal.loop-w-smaller
loop-w-smaller c = c.without_lowest-w.ensures.1

pub loop-w-preserved : goal.loop-w-preserved
loop-w-preserved c = let low = c.lowest in
    let k : low.result < 64 = low.ensures.1 in
    let rises : lowest_bit c.loop-w.w < lowest_bit (without_lowest c.loop-w.w) =
    lowest-rises c.loop-w.w (omega arith) c.loop-w.invariant.1 (omega (arith, low.ensures.0)) in (
      walked_on (c.in_ok-vertex_pass.ensures.passed refl) (omega (arith, low.ensures.0, ap lowest_bit c.without_lowest-w.ensures.0)),
      omega (arith, c.loop-w.invariant.1, c.without_lowest-w.ensures.1),
      search rules,
      search rules,
      search rules,
    )

pub returns : goal.returns
returns c = holds (walked_on c.loop-w.invariant.0 (omega (arith, lowest-most c.loop-w.w)))
