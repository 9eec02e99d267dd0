-- `change_merge::merge_list` meets its contract. Assumes nothing.
use native.Mathlib.Omega.{arith}
use mathlib.Core.Path.{◌≡◌, sym, ◌∙◌}
use lib.ListN.{length, length-drop}
use Rattle.lists.proofs.Parts.{rest_at}
use Rattle.change_merge.specs.Inner.Merge.{side_keys}
use Rattle.change_merge.proofs.Nexts.{length-side}
use Rattle.change_merge.proofs.Merging.{merging-none, word-there, word_room, word-put, word-taken, change-there, change-room, change-put, merged-next, merged-len, merged-room, merged-words}
use Rattle.change_merge.proofs.merge_list.Goals as goal

pub next-e-requires : goal.next-e-requires
next-e-requires c = (c.requires.keyed.0, c.requires.keyed.1, omega (arith, length-side _ _ c.requires.keyed.0))

pub loop-e-init : goal.loop-e-init
loop-e-init c = merging-none c.requires.mergeable c.next-e.ensures

pub bounds-out-len : goal.bounds-out-len
bounds-out-len c = word_room c.requires.mergeable c.loop-e.invariant c.loop-e-test.true c.word-x.ensures c.if-x-e.true

pub overflow_add-len : goal.overflow_add-len
overflow_add-len c = omega (arith, word_room c.requires.mergeable c.loop-e.invariant c.loop-e-test.true c.word-x.ensures c.if-x-e.true)

pub overflow_add-i : goal.overflow_add-i
overflow_add-i c = omega (arith, word-there c.requires.mergeable c.loop-e.invariant c.loop-e-test.true c.word-x.ensures c.if-x-e.true)

pub loop-e-smaller-then-x-e : goal.loop-e-smaller-then-x-e
loop-e-smaller-then-x-e c = omega (arith, word-there c.requires.mergeable c.loop-e.invariant c.loop-e-test.true c.word-x.ensures c.if-x-e.true)

pub loop-e-preserved-then-x-e : goal.loop-e-preserved-then-x-e
loop-e-preserved-then-x-e c = word-put c.requires.mergeable c.loop-e.invariant c.loop-e-test.true c.word-x.ensures c.if-x-e.true

pub overflow_add-i-then-x-e-2 : goal.overflow_add-i-then-x-e-2
overflow_add-i-then-x-e-2 c = omega (arith, c.loop-e.invariant.within)

pub overflow_add-at : goal.overflow_add-at
overflow_add-at c = let size : length (side_keys c.args.file.now c.args.keys.now) ≡ c.args.k = length-side _ _ c.requires.keyed.0 ∙ sym c.requires.keyed.1 in
    omega (arith, change-there c.requires.mergeable c.loop-e.invariant c.loop-e-test.true, size)

pub next-e-requires-then-x-e-2 : goal.next-e-requires-then-x-e-2
next-e-requires-then-x-e-2 c = let size : length (side_keys c.args.file.now c.args.keys.now) ≡ c.args.k = length-side _ _ c.requires.keyed.0 ∙ sym c.requires.keyed.1 in
    (c.requires.keyed.0, c.requires.keyed.1, omega (arith, change-there c.requires.mergeable c.loop-e.invariant c.loop-e-test.true, size))

pub loop-e-smaller-then-x-e-2 : goal.loop-e-smaller-then-x-e-2
loop-e-smaller-then-x-e-2 c = let size : length (side_keys c.args.file.now c.args.keys.now) ≡ c.args.k = length-side _ _ c.requires.keyed.0 ∙ sym c.requires.keyed.1 in
    omega (arith, change-there c.requires.mergeable c.loop-e.invariant c.loop-e-test.true, size, c.loop-e.invariant.within)

pub loop-e-preserved-then-x-e-2 : goal.loop-e-preserved-then-x-e-2
loop-e-preserved-then-x-e-2 c = word-taken c.requires.mergeable c.loop-e.invariant c.loop-e-test.true c.word-x.ensures c.if-x-e-2.true c.next-e-then-x-e-2.ensures

pub bounds-out-len-else-x-e-2 : goal.bounds-out-len-else-x-e-2
bounds-out-len-else-x-e-2 c = change-room c.requires.mergeable c.loop-e.invariant c.loop-e-test.true c.word-x.ensures (omega arith)

pub overflow_add-len-else-x-e-2 : goal.overflow_add-len-else-x-e-2
overflow_add-len-else-x-e-2 c = omega (arith, change-room c.requires.mergeable c.loop-e.invariant c.loop-e-test.true c.word-x.ensures (omega arith))

pub overflow_add-at-else-x-e-2 : goal.overflow_add-at-else-x-e-2
overflow_add-at-else-x-e-2 c = let size : length (side_keys c.args.file.now c.args.keys.now) ≡ c.args.k = length-side _ _ c.requires.keyed.0 ∙ sym c.requires.keyed.1 in
    omega (arith, change-there c.requires.mergeable c.loop-e.invariant c.loop-e-test.true, size)

pub next-e-requires-else-x-e-2 : goal.next-e-requires-else-x-e-2
next-e-requires-else-x-e-2 c = let size : length (side_keys c.args.file.now c.args.keys.now) ≡ c.args.k = length-side _ _ c.requires.keyed.0 ∙ sym c.requires.keyed.1 in
    (c.requires.keyed.0, c.requires.keyed.1, omega (arith, change-there c.requires.mergeable c.loop-e.invariant c.loop-e-test.true, size))

pub loop-e-smaller : goal.loop-e-smaller
loop-e-smaller c = let size : length (side_keys c.args.file.now c.args.keys.now) ≡ c.args.k = length-side _ _ c.requires.keyed.0 ∙ sym c.requires.keyed.1 in
    omega (arith, change-there c.requires.mergeable c.loop-e.invariant c.loop-e-test.true, size)

pub loop-e-preserved : goal.loop-e-preserved
loop-e-preserved c = change-put c.requires.mergeable c.loop-e.invariant c.loop-e-test.true c.word-x.ensures (omega arith) c.next-e-else-x-e-2.ensures

pub overflow_sub-rest : goal.overflow_sub-rest
overflow_sub-rest c = omega (arith, c.loop-e.invariant.within)

pub copy-requires : goal.copy-requires
copy-requires c = (rw (rest_at _ _, length-drop) (omega arith), merged-room c.requires.mergeable c.loop-e.invariant c.loop-e-test.false)

pub overflow_add-result : goal.overflow_add-result
overflow_add-result c = omega (arith, merged-len c.requires.mergeable c.loop-e.invariant c.loop-e-test.false)

pub returns : goal.returns
returns c = record { words = merged-words c.requires.mergeable c.loop-e.invariant c.loop-e-test.false c.copy.ensures; answer = (merged-len c.requires.mergeable c.loop-e.invariant c.loop-e-test.false, merged-next c.requires.mergeable c.loop-e.invariant c.loop-e-test.false) }
