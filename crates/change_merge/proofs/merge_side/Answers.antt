-- `change_merge::merge_side` meets its contract. Assumes nothing.
use mathlib.Core.Path.{◌≡◌, sym, ◌∙◌}
use Prim.Native.Nat.{◌+◌, ◌<◌}
use native.Mathlib.Omega.{arith}
use lib.ListN.{length, set}
use Rattle.change_merge.specs.Inner.Merge.{entries_of, side_keys, keys_on, Fitting}
use Rattle.change_merge.proofs.Nexts.{length-side}
use Rattle.change_merge.proofs.Siding.{Siding, Ahead, siding-none, next-ahead, next-inside, end-ahead, siding-copyable, siding-copied, siding-fits, siding-low, siding-able, lent-long, siding-small, siding-next, siding-all, zero-fits, zero-first, zero_rest}
use Rattle.change_merge.proofs.merge_side.Goals as goal

pub bounds-side-0 : goal.bounds-side-0
bounds-side-0 c = omega (arith, c.requires.fitting.fits)

pub loop-next-init : goal.loop-next-init
loop-next-init c = let fits : Fitting ((keys_on c.args.old.now c.args.n c.args.at)) ((side_keys c.args.file.now c.args.keys.now)) c.args.n (length ((set c.args.side.now 0 0))) = zero-fits c.args.side.now c.requires.fitting in
    siding-none _ _ _ _ c.requires.side_of.rising (fits) (zero-first c.args.side.now c.requires.fitting)

pub vertex_at-u-requires : goal.vertex_at-u-requires
vertex_at-u-requires c = (c.requires.keyed.0, omega (arith, c.requires.keyed.1, c.loop-next-test.true))

pub copy_lists-len-requires : goal.copy_lists-len-requires
copy_lists-len-requires c = let fits : Fitting ((keys_on c.args.old.now c.args.n c.args.at)) ((side_keys c.args.file.now c.args.keys.now)) c.args.n (length ((set c.args.side.now 0 0))) = zero-fits c.args.side.now c.requires.fitting in
    let size : length ((side_keys c.args.file.now c.args.keys.now)) ≡ c.args.k = length-side _ _ c.requires.keyed.0 ∙ sym c.requires.keyed.1 in
    let ahead : Ahead ((side_keys c.args.file.now c.args.keys.now)) c.args.n c.loop-next.v c.loop-next.next c.vertex_at-u.result = next-ahead _ _ _ _ c.requires.side_of.rising (fits) c.loop-next.invariant (omega (arith, size, c.loop-next-test.true)) c.vertex_at-u.ensures in
    (c.requires.side_of, siding-copyable _ _ _ _ c.requires.side_of.rising (fits) c.loop-next.invariant (ahead))

pub overflow_add-len : goal.overflow_add-len
overflow_add-len c = let fits : Fitting ((keys_on c.args.old.now c.args.n c.args.at)) ((side_keys c.args.file.now c.args.keys.now)) c.args.n (length ((set c.args.side.now 0 0))) = zero-fits c.args.side.now c.requires.fitting in
    let size : length ((side_keys c.args.file.now c.args.keys.now)) ≡ c.args.k = length-side _ _ c.requires.keyed.0 ∙ sym c.requires.keyed.1 in
    let ahead : Ahead ((side_keys c.args.file.now c.args.keys.now)) c.args.n c.loop-next.v c.loop-next.next c.vertex_at-u.result = next-ahead _ _ _ _ c.requires.side_of.rising (fits) c.loop-next.invariant (omega (arith, size, c.loop-next-test.true)) c.vertex_at-u.ensures in
    let inside : c.vertex_at-u.result < c.args.n = next-inside _ _ _ _ c.requires.side_of.rising (fits) c.loop-next.invariant (omega (arith, size, c.loop-next-test.true)) c.vertex_at-u.ensures in
    let copied : Siding ((keys_on c.args.old.now c.args.n c.args.at)) ((side_keys c.args.file.now c.args.keys.now)) c.args.n ((set c.args.side.now 0 0)) c.vertex_at-u.result ((c.copy_lists-len.new.side)) c.loop-next.next (c.loop-next.len + c.copy_lists-len.result) = siding-copied _ _ _ _ c.requires.side_of.rising (fits) c.loop-next.invariant (ahead) _ c.copy_lists-len.ensures in
    omega (arith, siding-low _ _ _ _ c.requires.side_of.rising (fits) (copied) (inside))

pub neighbours-list-requires : goal.neighbours-list-requires
neighbours-list-requires c = let fits : Fitting ((keys_on c.args.old.now c.args.n c.args.at)) ((side_keys c.args.file.now c.args.keys.now)) c.args.n (length ((set c.args.side.now 0 0))) = zero-fits c.args.side.now c.requires.fitting in
    let size : length ((side_keys c.args.file.now c.args.keys.now)) ≡ c.args.k = length-side _ _ c.requires.keyed.0 ∙ sym c.requires.keyed.1 in
    let inside : c.vertex_at-u.result < c.args.n = next-inside _ _ _ _ c.requires.side_of.rising (fits) c.loop-next.invariant (omega (arith, size, c.loop-next-test.true)) c.vertex_at-u.ensures in
    c.requires.side_of.within _ (inside)

pub overflow_add-n-in-loop-next : goal.overflow_add-n-in-loop-next
overflow_add-n-in-loop-next c = let fits : Fitting ((keys_on c.args.old.now c.args.n c.args.at)) ((side_keys c.args.file.now c.args.keys.now)) c.args.n (length ((set c.args.side.now 0 0))) = zero-fits c.args.side.now c.requires.fitting in
    let size : length ((side_keys c.args.file.now c.args.keys.now)) ≡ c.args.k = length-side _ _ c.requires.keyed.0 ∙ sym c.requires.keyed.1 in
    let ahead : Ahead ((side_keys c.args.file.now c.args.keys.now)) c.args.n c.loop-next.v c.loop-next.next c.vertex_at-u.result = next-ahead _ _ _ _ c.requires.side_of.rising (fits) c.loop-next.invariant (omega (arith, size, c.loop-next-test.true)) c.vertex_at-u.ensures in
    let inside : c.vertex_at-u.result < c.args.n = next-inside _ _ _ _ c.requires.side_of.rising (fits) c.loop-next.invariant (omega (arith, size, c.loop-next-test.true)) c.vertex_at-u.ensures in
    let copied : Siding ((keys_on c.args.old.now c.args.n c.args.at)) ((side_keys c.args.file.now c.args.keys.now)) c.args.n ((set c.args.side.now 0 0)) c.vertex_at-u.result ((c.copy_lists-len.new.side)) c.loop-next.next (c.loop-next.len + c.copy_lists-len.result) = siding-copied _ _ _ _ c.requires.side_of.rising (fits) c.loop-next.invariant (ahead) _ c.copy_lists-len.ensures in
    omega (arith, siding-low _ _ _ _ c.requires.side_of.rising (fits) (copied) (inside))

pub offset_bounds-side-n : goal.offset_bounds-side-n
offset_bounds-side-n c = let fits : Fitting ((keys_on c.args.old.now c.args.n c.args.at)) ((side_keys c.args.file.now c.args.keys.now)) c.args.n (length ((set c.args.side.now 0 0))) = zero-fits c.args.side.now c.requires.fitting in
    let size : length ((side_keys c.args.file.now c.args.keys.now)) ≡ c.args.k = length-side _ _ c.requires.keyed.0 ∙ sym c.requires.keyed.1 in
    let ahead : Ahead ((side_keys c.args.file.now c.args.keys.now)) c.args.n c.loop-next.v c.loop-next.next c.vertex_at-u.result = next-ahead _ _ _ _ c.requires.side_of.rising (fits) c.loop-next.invariant (omega (arith, size, c.loop-next-test.true)) c.vertex_at-u.ensures in
    let inside : c.vertex_at-u.result < c.args.n = next-inside _ _ _ _ c.requires.side_of.rising (fits) c.loop-next.invariant (omega (arith, size, c.loop-next-test.true)) c.vertex_at-u.ensures in
    let copied : Siding ((keys_on c.args.old.now c.args.n c.args.at)) ((side_keys c.args.file.now c.args.keys.now)) c.args.n ((set c.args.side.now 0 0)) c.vertex_at-u.result ((c.copy_lists-len.new.side)) c.loop-next.next (c.loop-next.len + c.copy_lists-len.result) = siding-copied _ _ _ _ c.requires.side_of.rising (fits) c.loop-next.invariant (ahead) _ c.copy_lists-len.ensures in
    omega (arith, siding-low _ _ _ _ c.requires.side_of.rising (fits) (copied) (inside))

pub slice_bounds-merge_list-count : goal.slice_bounds-merge_list-count
slice_bounds-merge_list-count c = let fits : Fitting ((keys_on c.args.old.now c.args.n c.args.at)) ((side_keys c.args.file.now c.args.keys.now)) c.args.n (length ((set c.args.side.now 0 0))) = zero-fits c.args.side.now c.requires.fitting in
    let size : length ((side_keys c.args.file.now c.args.keys.now)) ≡ c.args.k = length-side _ _ c.requires.keyed.0 ∙ sym c.requires.keyed.1 in
    let ahead : Ahead ((side_keys c.args.file.now c.args.keys.now)) c.args.n c.loop-next.v c.loop-next.next c.vertex_at-u.result = next-ahead _ _ _ _ c.requires.side_of.rising (fits) c.loop-next.invariant (omega (arith, size, c.loop-next-test.true)) c.vertex_at-u.ensures in
    let inside : c.vertex_at-u.result < c.args.n = next-inside _ _ _ _ c.requires.side_of.rising (fits) c.loop-next.invariant (omega (arith, size, c.loop-next-test.true)) c.vertex_at-u.ensures in
    let copied : Siding ((keys_on c.args.old.now c.args.n c.args.at)) ((side_keys c.args.file.now c.args.keys.now)) c.args.n ((set c.args.side.now 0 0)) c.vertex_at-u.result ((c.copy_lists-len.new.side)) c.loop-next.next (c.loop-next.len + c.copy_lists-len.result) = siding-copied _ _ _ _ c.requires.side_of.rising (fits) c.loop-next.invariant (ahead) _ c.copy_lists-len.ensures in
    siding-fits _ _ _ _ c.requires.side_of.rising (fits) (copied) (inside)

pub slice_bounds-merge_list-start : goal.slice_bounds-merge_list-start
slice_bounds-merge_list-start c = let fits : Fitting ((keys_on c.args.old.now c.args.n c.args.at)) ((side_keys c.args.file.now c.args.keys.now)) c.args.n (length ((set c.args.side.now 0 0))) = zero-fits c.args.side.now c.requires.fitting in
    let size : length ((side_keys c.args.file.now c.args.keys.now)) ≡ c.args.k = length-side _ _ c.requires.keyed.0 ∙ sym c.requires.keyed.1 in
    let ahead : Ahead ((side_keys c.args.file.now c.args.keys.now)) c.args.n c.loop-next.v c.loop-next.next c.vertex_at-u.result = next-ahead _ _ _ _ c.requires.side_of.rising (fits) c.loop-next.invariant (omega (arith, size, c.loop-next-test.true)) c.vertex_at-u.ensures in
    let inside : c.vertex_at-u.result < c.args.n = next-inside _ _ _ _ c.requires.side_of.rising (fits) c.loop-next.invariant (omega (arith, size, c.loop-next-test.true)) c.vertex_at-u.ensures in
    let copied : Siding ((keys_on c.args.old.now c.args.n c.args.at)) ((side_keys c.args.file.now c.args.keys.now)) c.args.n ((set c.args.side.now 0 0)) c.vertex_at-u.result ((c.copy_lists-len.new.side)) c.loop-next.next (c.loop-next.len + c.copy_lists-len.result) = siding-copied _ _ _ _ c.requires.side_of.rising (fits) c.loop-next.invariant (ahead) _ c.copy_lists-len.ensures in
    siding-fits _ _ _ _ c.requires.side_of.rising (fits) (copied) (inside)

pub merge_list-merged-requires : goal.merge_list-merged-requires
merge_list-merged-requires c = let fits : Fitting ((keys_on c.args.old.now c.args.n c.args.at)) ((side_keys c.args.file.now c.args.keys.now)) c.args.n (length ((set c.args.side.now 0 0))) = zero-fits c.args.side.now c.requires.fitting in
    let size : length ((side_keys c.args.file.now c.args.keys.now)) ≡ c.args.k = length-side _ _ c.requires.keyed.0 ∙ sym c.requires.keyed.1 in
    let ahead : Ahead ((side_keys c.args.file.now c.args.keys.now)) c.args.n c.loop-next.v c.loop-next.next c.vertex_at-u.result = next-ahead _ _ _ _ c.requires.side_of.rising (fits) c.loop-next.invariant (omega (arith, size, c.loop-next-test.true)) c.vertex_at-u.ensures in
    let inside : c.vertex_at-u.result < c.args.n = next-inside _ _ _ _ c.requires.side_of.rising (fits) c.loop-next.invariant (omega (arith, size, c.loop-next-test.true)) c.vertex_at-u.ensures in
    let copied : Siding ((keys_on c.args.old.now c.args.n c.args.at)) ((side_keys c.args.file.now c.args.keys.now)) c.args.n ((set c.args.side.now 0 0)) c.vertex_at-u.result ((c.copy_lists-len.new.side)) c.loop-next.next (c.loop-next.len + c.copy_lists-len.result) = siding-copied _ _ _ _ c.requires.side_of.rising (fits) c.loop-next.invariant (ahead) _ c.copy_lists-len.ensures in
    let listed : c.neighbours-list.result.now ≡ entries_of c.vertex_at-u.result ((keys_on c.args.old.now c.args.n c.args.at)) = c.neighbours-list.ensures ∙ c.requires.side_of.lists _ (inside) in
    record { keyed = c.requires.keyed; mergeable = siding-able _ _ _ _ c.requires.side_of.rising (fits) (copied) (inside) (listed) }

pub overflow_add-len-in-loop-next : goal.overflow_add-len-in-loop-next
overflow_add-len-in-loop-next c = let fits : Fitting ((keys_on c.args.old.now c.args.n c.args.at)) ((side_keys c.args.file.now c.args.keys.now)) c.args.n (length ((set c.args.side.now 0 0))) = zero-fits c.args.side.now c.requires.fitting in
    let size : length ((side_keys c.args.file.now c.args.keys.now)) ≡ c.args.k = length-side _ _ c.requires.keyed.0 ∙ sym c.requires.keyed.1 in
    let ahead : Ahead ((side_keys c.args.file.now c.args.keys.now)) c.args.n c.loop-next.v c.loop-next.next c.vertex_at-u.result = next-ahead _ _ _ _ c.requires.side_of.rising (fits) c.loop-next.invariant (omega (arith, size, c.loop-next-test.true)) c.vertex_at-u.ensures in
    let inside : c.vertex_at-u.result < c.args.n = next-inside _ _ _ _ c.requires.side_of.rising (fits) c.loop-next.invariant (omega (arith, size, c.loop-next-test.true)) c.vertex_at-u.ensures in
    let copied : Siding ((keys_on c.args.old.now c.args.n c.args.at)) ((side_keys c.args.file.now c.args.keys.now)) c.args.n ((set c.args.side.now 0 0)) c.vertex_at-u.result ((c.copy_lists-len.new.side)) c.loop-next.next (c.loop-next.len + c.copy_lists-len.result) = siding-copied _ _ _ _ c.requires.side_of.rising (fits) c.loop-next.invariant (ahead) _ c.copy_lists-len.ensures in
    let listed : c.neighbours-list.result.now ≡ entries_of c.vertex_at-u.result ((keys_on c.args.old.now c.args.n c.args.at)) = c.neighbours-list.ensures ∙ c.requires.side_of.lists _ (inside) in
    omega (arith, siding-small _ _ _ _ c.requires.side_of.rising (fits) (copied) (inside) (listed) c.merge_list-merged.ensures.words c.merge_list-merged.ensures.answer.0 c.merge_list-merged.ensures.answer.1)

pub overflow_cast-side : goal.overflow_cast-side
overflow_cast-side c = let fits : Fitting ((keys_on c.args.old.now c.args.n c.args.at)) ((side_keys c.args.file.now c.args.keys.now)) c.args.n (length ((set c.args.side.now 0 0))) = zero-fits c.args.side.now c.requires.fitting in
    let size : length ((side_keys c.args.file.now c.args.keys.now)) ≡ c.args.k = length-side _ _ c.requires.keyed.0 ∙ sym c.requires.keyed.1 in
    let ahead : Ahead ((side_keys c.args.file.now c.args.keys.now)) c.args.n c.loop-next.v c.loop-next.next c.vertex_at-u.result = next-ahead _ _ _ _ c.requires.side_of.rising (fits) c.loop-next.invariant (omega (arith, size, c.loop-next-test.true)) c.vertex_at-u.ensures in
    let inside : c.vertex_at-u.result < c.args.n = next-inside _ _ _ _ c.requires.side_of.rising (fits) c.loop-next.invariant (omega (arith, size, c.loop-next-test.true)) c.vertex_at-u.ensures in
    let copied : Siding ((keys_on c.args.old.now c.args.n c.args.at)) ((side_keys c.args.file.now c.args.keys.now)) c.args.n ((set c.args.side.now 0 0)) c.vertex_at-u.result ((c.copy_lists-len.new.side)) c.loop-next.next (c.loop-next.len + c.copy_lists-len.result) = siding-copied _ _ _ _ c.requires.side_of.rising (fits) c.loop-next.invariant (ahead) _ c.copy_lists-len.ensures in
    let listed : c.neighbours-list.result.now ≡ entries_of c.vertex_at-u.result ((keys_on c.args.old.now c.args.n c.args.at)) = c.neighbours-list.ensures ∙ c.requires.side_of.lists _ (inside) in
    omega (arith, siding-small _ _ _ _ c.requires.side_of.rising (fits) (copied) (inside) (listed) c.merge_list-merged.ensures.words c.merge_list-merged.ensures.answer.0 c.merge_list-merged.ensures.answer.1)

pub overflow_add-side : goal.overflow_add-side
overflow_add-side c = let fits : Fitting ((keys_on c.args.old.now c.args.n c.args.at)) ((side_keys c.args.file.now c.args.keys.now)) c.args.n (length ((set c.args.side.now 0 0))) = zero-fits c.args.side.now c.requires.fitting in
    let size : length ((side_keys c.args.file.now c.args.keys.now)) ≡ c.args.k = length-side _ _ c.requires.keyed.0 ∙ sym c.requires.keyed.1 in
    let inside : c.vertex_at-u.result < c.args.n = next-inside _ _ _ _ c.requires.side_of.rising (fits) c.loop-next.invariant (omega (arith, size, c.loop-next-test.true)) c.vertex_at-u.ensures in
    omega (arith, inside, c.requires.fitting.few)

pub offset_bounds-side-u : goal.offset_bounds-side-u
offset_bounds-side-u c = let fits : Fitting ((keys_on c.args.old.now c.args.n c.args.at)) ((side_keys c.args.file.now c.args.keys.now)) c.args.n (length ((set c.args.side.now 0 0))) = zero-fits c.args.side.now c.requires.fitting in
    let size : length ((side_keys c.args.file.now c.args.keys.now)) ≡ c.args.k = length-side _ _ c.requires.keyed.0 ∙ sym c.requires.keyed.1 in
    let inside : c.vertex_at-u.result < c.args.n = next-inside _ _ _ _ c.requires.side_of.rising (fits) c.loop-next.invariant (omega (arith, size, c.loop-next-test.true)) c.vertex_at-u.ensures in
    omega (arith, inside, c.requires.fitting.few)

pub bounds-side-u : goal.bounds-side-u
bounds-side-u c = let fits : Fitting ((keys_on c.args.old.now c.args.n c.args.at)) ((side_keys c.args.file.now c.args.keys.now)) c.args.n (length ((set c.args.side.now 0 0))) = zero-fits c.args.side.now c.requires.fitting in
    let size : length ((side_keys c.args.file.now c.args.keys.now)) ≡ c.args.k = length-side _ _ c.requires.keyed.0 ∙ sym c.requires.keyed.1 in
    let ahead : Ahead ((side_keys c.args.file.now c.args.keys.now)) c.args.n c.loop-next.v c.loop-next.next c.vertex_at-u.result = next-ahead _ _ _ _ c.requires.side_of.rising (fits) c.loop-next.invariant (omega (arith, size, c.loop-next-test.true)) c.vertex_at-u.ensures in
    let inside : c.vertex_at-u.result < c.args.n = next-inside _ _ _ _ c.requires.side_of.rising (fits) c.loop-next.invariant (omega (arith, size, c.loop-next-test.true)) c.vertex_at-u.ensures in
    let copied : Siding ((keys_on c.args.old.now c.args.n c.args.at)) ((side_keys c.args.file.now c.args.keys.now)) c.args.n ((set c.args.side.now 0 0)) c.vertex_at-u.result ((c.copy_lists-len.new.side)) c.loop-next.next (c.loop-next.len + c.copy_lists-len.result) = siding-copied _ _ _ _ c.requires.side_of.rising (fits) c.loop-next.invariant (ahead) _ c.copy_lists-len.ensures in
    let listed : c.neighbours-list.result.now ≡ entries_of c.vertex_at-u.result ((keys_on c.args.old.now c.args.n c.args.at)) = c.neighbours-list.ensures ∙ c.requires.side_of.lists _ (inside) in
    omega (arith, lent-long _ _ _ _ c.requires.side_of.rising (fits) (copied) (inside) (listed) c.merge_list-merged.ensures.words, siding-fits _ _ _ _ c.requires.side_of.rising (fits) (copied) (inside), inside)

pub overflow_add-v : goal.overflow_add-v
overflow_add-v c = let fits : Fitting ((keys_on c.args.old.now c.args.n c.args.at)) ((side_keys c.args.file.now c.args.keys.now)) c.args.n (length ((set c.args.side.now 0 0))) = zero-fits c.args.side.now c.requires.fitting in
    let size : length ((side_keys c.args.file.now c.args.keys.now)) ≡ c.args.k = length-side _ _ c.requires.keyed.0 ∙ sym c.requires.keyed.1 in
    let inside : c.vertex_at-u.result < c.args.n = next-inside _ _ _ _ c.requires.side_of.rising (fits) c.loop-next.invariant (omega (arith, size, c.loop-next-test.true)) c.vertex_at-u.ensures in
    omega (arith, inside, c.requires.fitting.few)

pub loop-next-smaller : goal.loop-next-smaller
loop-next-smaller c = let fits : Fitting ((keys_on c.args.old.now c.args.n c.args.at)) ((side_keys c.args.file.now c.args.keys.now)) c.args.n (length ((set c.args.side.now 0 0))) = zero-fits c.args.side.now c.requires.fitting in
    let size : length ((side_keys c.args.file.now c.args.keys.now)) ≡ c.args.k = length-side _ _ c.requires.keyed.0 ∙ sym c.requires.keyed.1 in
    let ahead : Ahead ((side_keys c.args.file.now c.args.keys.now)) c.args.n c.loop-next.v c.loop-next.next c.vertex_at-u.result = next-ahead _ _ _ _ c.requires.side_of.rising (fits) c.loop-next.invariant (omega (arith, size, c.loop-next-test.true)) c.vertex_at-u.ensures in
    let inside : c.vertex_at-u.result < c.args.n = next-inside _ _ _ _ c.requires.side_of.rising (fits) c.loop-next.invariant (omega (arith, size, c.loop-next-test.true)) c.vertex_at-u.ensures in
    omega (arith, (ahead).above, inside)

pub loop-next-preserved : goal.loop-next-preserved
loop-next-preserved c = let fits : Fitting ((keys_on c.args.old.now c.args.n c.args.at)) ((side_keys c.args.file.now c.args.keys.now)) c.args.n (length ((set c.args.side.now 0 0))) = zero-fits c.args.side.now c.requires.fitting in
    let size : length ((side_keys c.args.file.now c.args.keys.now)) ≡ c.args.k = length-side _ _ c.requires.keyed.0 ∙ sym c.requires.keyed.1 in
    let ahead : Ahead ((side_keys c.args.file.now c.args.keys.now)) c.args.n c.loop-next.v c.loop-next.next c.vertex_at-u.result = next-ahead _ _ _ _ c.requires.side_of.rising (fits) c.loop-next.invariant (omega (arith, size, c.loop-next-test.true)) c.vertex_at-u.ensures in
    let inside : c.vertex_at-u.result < c.args.n = next-inside _ _ _ _ c.requires.side_of.rising (fits) c.loop-next.invariant (omega (arith, size, c.loop-next-test.true)) c.vertex_at-u.ensures in
    let copied : Siding ((keys_on c.args.old.now c.args.n c.args.at)) ((side_keys c.args.file.now c.args.keys.now)) c.args.n ((set c.args.side.now 0 0)) c.vertex_at-u.result ((c.copy_lists-len.new.side)) c.loop-next.next (c.loop-next.len + c.copy_lists-len.result) = siding-copied _ _ _ _ c.requires.side_of.rising (fits) c.loop-next.invariant (ahead) _ c.copy_lists-len.ensures in
    let listed : c.neighbours-list.result.now ≡ entries_of c.vertex_at-u.result ((keys_on c.args.old.now c.args.n c.args.at)) = c.neighbours-list.ensures ∙ c.requires.side_of.lists _ (inside) in
    siding-next _ _ _ _ c.requires.side_of.rising (fits) (copied) (inside) (listed) c.merge_list-merged.ensures.words c.merge_list-merged.ensures.answer.0 c.merge_list-merged.ensures.answer.1

pub copy_lists-requires : goal.copy_lists-requires
copy_lists-requires c = let fits : Fitting ((keys_on c.args.old.now c.args.n c.args.at)) ((side_keys c.args.file.now c.args.keys.now)) c.args.n (length ((set c.args.side.now 0 0))) = zero-fits c.args.side.now c.requires.fitting in
    let size : length ((side_keys c.args.file.now c.args.keys.now)) ≡ c.args.k = length-side _ _ c.requires.keyed.0 ∙ sym c.requires.keyed.1 in
    (c.requires.side_of, siding-copyable _ _ _ _ c.requires.side_of.rising (fits) c.loop-next.invariant (end-ahead _ _ _ _ c.requires.side_of.rising (fits) c.loop-next.invariant (omega (arith, size, c.loop-next-test.false))))

pub returns : goal.returns
returns c = let fits : Fitting ((keys_on c.args.old.now c.args.n c.args.at)) ((side_keys c.args.file.now c.args.keys.now)) c.args.n (length ((set c.args.side.now 0 0))) = zero-fits c.args.side.now c.requires.fitting in
    let size : length ((side_keys c.args.file.now c.args.keys.now)) ≡ c.args.k = length-side _ _ c.requires.keyed.0 ∙ sym c.requires.keyed.1 in
    zero_rest _ _ _ _ (siding-all _ _ _ _ c.requires.side_of.rising (fits) (siding-copied _ _ _ _ c.requires.side_of.rising (fits) c.loop-next.invariant (end-ahead _ _ _ _ c.requires.side_of.rising (fits) c.loop-next.invariant (omega (arith, size, c.loop-next-test.false))) _ c.copy_lists.ensures) c.requires.side_of.bounded)
