-- `store_step::verdict` meets its contract: the answers to the tests of an entry. Assumes nothing.
use mathlib.Core.Path.{refl}
use native.Mathlib.Omega.{arith}
use Prim.Native.Nat.{◌%◌, ◌<◌}
use lib.ListN.{get_or}
use Rattle.store_reverse.proofs.Loops.{entry_in_lem}
use Rattle.store_step.proofs.Agreeing.{entry-refutes, reverse-refutes}
use Rattle.store_step.proofs.verdict.Goals as goal

pub returns-then-not-entry_fits : goal.returns-then-not-entry_fits
returns-then-not-entry_fits c = entry-refutes c.args.store.now c.args.n c.args.other c.args.v c.args.list.now c.args.i (omega arith)
    c.entry_before.ensures c.entry_fits.ensures c.if-not-entry_fits.true

pub overflow_add-reverse : goal.overflow_add-reverse
overflow_add-reverse c = let entry : let k = get_or c.args.list.now c.args.i 0 in
    (k < 16777216) × (k % 65536 < c.args.n) = entry_in_lem _ _ _ c.entry_fits.ensures c.if-not-entry_fits.false in
    omega (arith, entry)

pub neighbours-requires : goal.neighbours-requires
neighbours-requires c = let entry : let k = get_or c.args.list.now c.args.i 0 in
    (k < 16777216) × (k % 65536 < c.args.n) = entry_in_lem _ _ _ c.entry_fits.ensures c.if-not-entry_fits.false in
    c.requires.0 _ (entry).1

pub returns-then-has : goal.returns-then-has
returns-then-has c = λ h. absurd (h refl)

pub returns : goal.returns
returns c = reverse-refutes c.args.store.now c.args.n c.args.other c.args.v c.args.list.now c.args.i (omega arith)
    c.neighbours.ensures c.has.ensures c.if-has.false
