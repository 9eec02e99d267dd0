-- `query_file::faults::check_pairs` meets its contract: no pair before i has a fault, and `least` is the least key that ascends at i.
-- Assumes nothing.
use mathlib.Core.Path.{◌≡◌, refl, sym, ◌∙◌}
use Prim.Native.Nat.{◌<◌}
use native.Mathlib.Omega.{arith}
use borrow.Author.Rules.{rules}
use Rattle.std.proofs.lemmas.Result.{err_from_is_err_and}
use Rattle.refusals.proofs.Laws.{numbered}
use Rattle.lists.specs.Lists.{range}
use Rattle.lists.specs.Refusal.{first}
use Rattle.query.specs.File.{pair_count}
use Rattle.query_file.specs.Inner.Parts.{query_pairs_fault}
use Rattle.query_file.proofs.Structs.{at-most-pairs}
use Rattle.query_file.proofs.FileLaws.{pair-key-lt, least_pair, pair-fault-here, least-pair-next, pairs_next, pairs-stop}
use Rattle.query_file.proofs.faults.check_pairs.Goals as goal

pub loop-i-init : goal.loop-i-init
unfolding query_pairs_fault least_pair range first
loop-i-init c = (omega arith, refl, refl)

pub check_pair-requires : goal.check_pair-requires
check_pair-requires c = let few = at-most-pairs c.args.file.bytes.now in
    search rules

pub returns-in_err-check_pair : goal.returns-in_err-check_pair
returns-in_err-check_pair c =
    let p = err_from_is_err_and c.from_residual.result c.from_residual.ensures.1 in
    let a = c.args in
    let l = c.loop-i in
    let s = a.file.bytes.now in
    let below : l.i < pair_count s = omega arith in
    let here = pair-fault-here s a.file.vertices _ l.i c.args.file.counted.0 c.pair_start-at.ensures l.least _ l.invariant.2 c.in_err-check_pair.ensures in
    rw (p.1, p.2) (here ∙ sym (pairs-stop s (pair_count s) l.i below l.invariant.1 (λ z. numbered _ (here ∙ z))))

pub overflow_add-least : goal.overflow_add-least
overflow_add-least c = let a = c.args in
    omega (arith, pair-key-lt a.file.bytes.now c.pair_start-at.result)

pub loop-i-preserved : goal.loop-i-preserved
loop-i-preserved c = let a = c.args in
    let l = c.loop-i in
    let s = a.file.bytes.now in
    let here = pair-fault-here s a.file.vertices _ l.i c.args.file.counted.0 c.pair_start-at.ensures l.least _ l.invariant.2 c.in_ok-check_pair.ensures in (
      omega arith,
      pairs_next s l.i l.invariant.1 (sym here),
      least-pair-next s a.file.vertices _ l.i c.args.file.counted.0 c.pair_start-at.ensures c.pair_key-least.result c.pair_key-least.ensures,
    )

pub returns : goal.returns
returns c = let all : c.loop-i.i ≡ pair_count c.args.file.bytes.now = omega arith in
    sym (rw all at c.loop-i.invariant.1)
