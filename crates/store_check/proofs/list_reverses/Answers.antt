-- `store_check::list_reverses` meets its contract: the entries before i ascend up to `last`, fit, and have their reverses.
-- Assumes nothing.
use Prim.Native.Nat.{◌%◌, ◌<◌}
use mathlib.Core.Path.{refl, sym, ◌∙◌}
use mathlib.Core.Bool.{◌&&◌}
use Rattle.lists.proofs.Tests.{and_l, and_r, and_both}
use native.Mathlib.Omega.{arith}
use lib.ListN.{get_or}
use Rattle.store_reverse.specs.Inner.Check.{list_fits, list_reversed}
use Rattle.store_reverse.proofs.Loops.{fails-with, all_start, all-next, all-stop, all_end, list-start, list-next, list-stop, list-end, entry_in_lem}
use Rattle.store_reverse.proofs.Fits.{side-ascends}
use Rattle.store_check.proofs.list_reverses.Goals as goal

pub loop-i-init : goal.loop-i-init
loop-i-init c = (list-start, all_start)

pub returns-then-not-entry_fits : goal.returns-then-not-entry_fits
returns-then-not-entry_fits c = let a = c.args in
    fails-with (list_fits a.n a.list.now) (list_fits a.n a.list.now && list_reversed a.store.now a.n a.other a.v a.list.now)
    (list-stop c.loop-i.invariant.0 (omega arith) c.entry_fits.ensures c.if-not-entry_fits.true) refl (and_l _ _)

pub overflow_add-reverse : goal.overflow_add-reverse
overflow_add-reverse c = let entry : let k = get_or c.args.list.now c.loop-i.i 0 in
    (k < 16777216) × (k % 65536 < c.args.n) = entry_in_lem _ _ _ c.entry_fits.ensures c.if-not-entry_fits.false in
    omega (arith, entry)

pub neighbours-requires : goal.neighbours-requires
neighbours-requires c = let entry : let k = get_or c.args.list.now c.loop-i.i 0 in
    (k < 16777216) × (k % 65536 < c.args.n) = entry_in_lem _ _ _ c.entry_fits.ensures c.if-not-entry_fits.false in
    c.requires.good_side.within _ (entry).1

pub has_hinted-requires : goal.has_hinted-requires
has_hinted-requires c = let entry : let k = get_or c.args.list.now c.loop-i.i 0 in
    (k < 16777216) × (k % 65536 < c.args.n) = entry_in_lem _ _ _ c.entry_fits.ensures c.if-not-entry_fits.false in
    (rw c.neighbours.ensures (side-ascends c.requires.good_side _ (entry).1), omega (arith, (entry).1, c.requires.v_lt_n.1))

pub returns-then-not-has_hinted : goal.returns-then-not-has_hinted
unfolding list_reversed
returns-then-not-has_hinted c = let a = c.args in
    fails-with (list_reversed a.store.now a.n a.other a.v a.list.now) (list_fits a.n a.list.now && list_reversed a.store.now a.n a.other a.v a.list.now)
    (all-stop c.loop-i.invariant.1 (omega (arith, c.loop-i-test.true)) (sym (rw c.neighbours.ensures at c.has_hinted.ensures) ∙ c.if-not-has_hinted.true)) refl (and_r _ _)

pub loop-i-preserved : goal.loop-i-preserved
loop-i-preserved c = (
  list-next c.loop-i.invariant.0 (omega arith) c.entry_fits.ensures c.if-not-entry_fits.false,
  all-next c.loop-i.invariant.1 (omega arith) (sym (rw c.neighbours.ensures at c.has_hinted.ensures) ∙ c.if-not-has_hinted.false),
)

pub returns : goal.returns
unfolding list_reversed
returns c = let a = c.args in
    sym (and_both (list_fits a.n a.list.now) (list_reversed a.store.now a.n a.other a.v a.list.now)
    (sym (list-end c.loop-i.invariant.0 (omega arith))) (sym (all_end c.loop-i.invariant.1 (omega arith))))
