-- `plan_spectrum::orderings` meets its contract. Assumes nothing.
-- The counted part of the scratch lies in it, and is as long as it counts.
use mathlib.Core.Path.{◌≡◌, sym, ◌∙◌, subst}
use Prim.Native.Nat.{ℕ, ◌≤◌}
use native.Mathlib.Omega.{arith}
use lib.ListN.{length, take, length-append}
use lib.Seq.{length-take-le}
use Rattle.run_spec.specs.Run.{counted}
use Rattle.run.proofs.Answers.{cleared-scratch}
use Rattle.graph.specs.Store.{graph_in}
use Rattle.plan_spectrum.proofs.Answers.{Done, counted-done}
use Rattle.plan_spectrum.proofs.Claimed.{every-ordering}
use borrow.Author.Rules.{rules}
use Rattle.plan_spectrum.proofs.orderings.Goals as goal

pub slice_bounds-orderings_counted-end-2 : goal.slice_bounds-orderings_counted-end-2
slice_bounds-orderings_counted-end-2 c = let part : c.counted-length.result ≤ length c.args.scratch.now = rw c.counted-length.ensures (omega arith) in
    sym (length-take-le _ _ (part))

pub orderings_counted-answer-requires : goal.orderings_counted-answer-requires
orderings_counted-answer-requires c = let part : c.counted-length.result ≤ length c.args.scratch.now = rw c.counted-length.ensures (omega arith) in
    let part_length : let s = c.args.scratch.now in length (take c.counted-length.result s) ≡ counted (length s) = length-take-le _ _ (part) ∙ c.counted-length.ensures in
    rw (part_length) (omega arith)

pub slice_bounds-clear_used-end-2 : goal.slice_bounds-clear_used-end-2
slice_bounds-clear_used-end-2 c = let part : c.counted-length.result ≤ length c.args.scratch.now = rw c.counted-length.ensures (omega arith) in
    let left-length : length c.orderings_counted-answer.new.work ≡ c.counted-length.result = let same : length c.orderings_counted-answer.new.work ≡ length (take c.counted-length.result c.args.scratch.now) = search rules in
    same ∙ length-take-le _ _ (part) in
    sym (length-take-le _ _ (rw length-append (omega (arith, left-length))))

pub returns : goal.returns
returns c = let part : c.counted-length.result ≤ length c.args.scratch.now = rw c.counted-length.ensures (omega arith) in
    let part_length : let s = c.args.scratch.now in length (take c.counted-length.result s) ≡ counted (length s) = length-take-le _ _ (part) ∙ c.counted-length.ensures in
    let left-length : length c.orderings_counted-answer.new.work ≡ c.counted-length.result = let same : length c.orderings_counted-answer.new.work ≡ length (take c.counted-length.result c.args.scratch.now) = search rules in
    same ∙ length-take-le _ _ (part) in
    let a = c.args in
    let done = counted-done a.store.now a.query.now (length a.scratch.now) a.words.now c.orderings_counted-answer.new.words c.orderings_counted-answer.result
    (subst (λ (n : ℕ). Done a.store.now a.query.now n a.words.now c.orderings_counted-answer.result c.orderings_counted-answer.new.words) (part_length) c.orderings_counted-answer.ensures) in record { answer = done.0; listed = done.1; cleared = cleared-scratch c.counted-length.result a.scratch.now c.orderings_counted-answer.new.work _ c.counted-length.ensures (left-length) c.clear_used.ensures; every = every-ordering (graph_in a.store.now) a.query.now }
