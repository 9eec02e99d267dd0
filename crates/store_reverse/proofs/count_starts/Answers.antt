-- `store_reverse::count_starts` meets its contract: the lists of the vertices below v are counted. Assumes nothing.
use mathlib.Core.Path.{refl, ◌∙◌, ap}
use Prim.Native.Nat.{ℕ, ◌≤◌, ◌<◌}
use native.Mathlib.Omega.{arith}
use lib.ListN.{get_or, replicate}
use Rattle.counting_sort.proofs.Counting.{tallied-fits, tallied-more}
use Rattle.store_reverse.specs.Inner.Begun.{start_in}
use Rattle.store_reverse.proofs.Blocks.{next-few, starts-some, start_small, not-before, tallied-first, tallied-passed, tallied-all}
use Rattle.store_reverse.proofs.count_starts.Goals as goal

pub overflow_cast-counts : goal.overflow_cast-counts
overflow_cast-counts c = let h = c.requires.0 in omega (arith, next-few h, h.few)

pub bounds-counts-0 : goal.bounds-counts-0
bounds-counts-0 c = omega (arith, c.fill.auto.self, c.requires.1)

pub overflow_sub-v-end : goal.overflow_sub-v-end
overflow_sub-v-end c = starts-some c.requires.0

pub loop-v-init : goal.loop-v-init
loop-v-init c = (omega arith, next-few c.requires.0, tallied-first c.requires.0 (c.fill.ensures.after (λ y e. e) ∙ ap (λ (k : ℕ). replicate {A = ℕ} k 0) c.requires.1))

pub overflow_cast-at : goal.overflow_cast-at
overflow_cast-at c = omega (arith, start_small c.requires.0 c.loop-v.v (omega arith))

pub overflow_add-base : goal.overflow_add-base
overflow_add-base c = omega (arith, c.requires.0.near)

pub returns-then-base-at : goal.returns-then-base-at
returns-then-base-at c = tallied-passed c.requires.0 c.loop-v.invariant.2 (omega arith) c.if-base-at.true

pub overflow_sub-counts : goal.overflow_sub-counts
overflow_sub-counts c = let inside : let a = c.args in a.base ≤ get_or a.starts.now c.loop-v.v 0 = not-before c.requires.0 c.loop-v.v c.loop-v.invariant.0 (omega arith) in
    inside

pub offset_bounds-counts-at : goal.offset_bounds-counts-at
offset_bounds-counts-at c = let inside : let a = c.args in a.base ≤ get_or a.starts.now c.loop-v.v 0 = not-before c.requires.0 c.loop-v.v c.loop-v.invariant.0 (omega arith) in
    omega (arith, inside)

pub bounds-counts-at : goal.bounds-counts-at
bounds-counts-at c = let inside : let a = c.args in a.base ≤ get_or a.starts.now c.loop-v.v 0 = not-before c.requires.0 c.loop-v.v c.loop-v.invariant.0 (omega arith) in
    omega (arith, inside, c.loop-v.invariant.2.long)

pub overflow_add-counts : goal.overflow_add-counts
overflow_add-counts c = let inside : let a = c.args in a.base ≤ get_or a.starts.now c.loop-v.v 0 = not-before c.requires.0 c.loop-v.v c.loop-v.invariant.0 (omega arith) in
    let t : start_in c.args.starts.now c.args.base c.loop-v.v < 1024 = omega (arith, inside) in
    omega (arith, tallied-fits (start_in c.args.starts.now c.args.base) 1024 c.loop-v.invariant.2 refl t, c.requires.0.few)

pub bounds-counts-at-in-loop-v : goal.bounds-counts-at-in-loop-v
bounds-counts-at-in-loop-v c = let inside : let a = c.args in a.base ≤ get_or a.starts.now c.loop-v.v 0 = not-before c.requires.0 c.loop-v.v c.loop-v.invariant.0 (omega arith) in
    omega (arith, inside, c.loop-v.invariant.2.long)

pub loop-v-preserved : goal.loop-v-preserved
loop-v-preserved c = let inside : let a = c.args in a.base ≤ get_or a.starts.now c.loop-v.v 0 = not-before c.requires.0 c.loop-v.v c.loop-v.invariant.0 (omega arith) in
    let t : start_in c.args.starts.now c.args.base c.loop-v.v < 1024 = omega (arith, inside) in
    (omega arith, omega arith, tallied-more (start_in c.args.starts.now c.args.base) 1024 c.loop-v.invariant.2 refl t)

pub returns : goal.returns
returns c = let h = c.requires.0 in
    tallied-all h c.loop-v.invariant.2 (omega arith) (omega arith)
