-- `plan_order::count_labels` meets its contract. The loop's invariant: the counts are those of the first i entries.
-- Assumes nothing.
use mathlib.Core.Path.{◌≡◌, refl}
use native.Mathlib.Omega.{arith}
use lib.ListN.{length}
use borrow.Author.Rules.{rules}
use Rattle.counting_sort.proofs.Counting.{tallied-none, tallied-fits, tallied-more}
use Rattle.plan_order.proofs.Tallies.{label-below, tallied-all}
use Rattle.plan_order.proofs.count_labels.Goals as goal

pub loop-entry-init : goal.loop-entry-init
loop-entry-init c = tallied-none _ _ _ refl

pub overflow_cast-label : goal.overflow_cast-label
overflow_cast-label c = omega (arith, label-below c.args.entries.now c.loop-entry.entry-index c.requires (search rules))

pub offset_bounds-counts-label : goal.offset_bounds-counts-label
offset_bounds-counts-label c = omega (arith, label-below c.args.entries.now c.loop-entry.entry-index c.requires (search rules))

pub bounds-counts-label : goal.bounds-counts-label
bounds-counts-label c = label-below c.args.entries.now c.loop-entry.entry-index c.requires (search rules)

pub overflow_add-counts : goal.overflow_add-counts
overflow_add-counts c = let low = label-below c.args.entries.now c.loop-entry.entry-index c.requires (search rules) in
    omega (arith, tallied-fits _ _ c.loop-entry.invariant refl low, c.requires.few)

pub bounds-counts-label-in-loop-entry : goal.bounds-counts-label-in-loop-entry
bounds-counts-label-in-loop-entry c = label-below c.args.entries.now c.loop-entry.entry-index c.requires (search rules)

pub loop-entry-preserved : goal.loop-entry-preserved
loop-entry-preserved c = tallied-more _ _ c.loop-entry.invariant refl (label-below c.args.entries.now c.loop-entry.entry-index c.requires (search rules))

pub overflow_cast-counts : goal.overflow_cast-counts
overflow_cast-counts c = omega (arith, c.requires.few)

pub returns : goal.returns
returns c = let all : c.loop-entry.entry-index ≡ length c.args.entries.now = omega arith in
    tallied-all c.args.entries.now c.loop-entry.counts (rw all at c.loop-entry.invariant)
