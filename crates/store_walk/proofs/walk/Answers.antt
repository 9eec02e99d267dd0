-- `store_walk::walk` meets its contract: before the passes nothing is done, and after them the last tests decide. Assumes nothing.
use mathlib.Core.Path.{refl}
use Prim.Native.Nat.{◌+◌, ◌-◌}
use native.Mathlib.Omega.{arith}
use lib.ListN.{drop}
use Rattle.std.proofs.lemmas.Result.{err_from_is_err_and}
use Rattle.store_step.proofs.Stops.{stopped}
use Rattle.store_step.proofs.Stepping.{tables-kept}
use Rattle.store_walk.proofs.Finished.{walked_none, copied_at, rising-sides, ended-decides, outcome-decides}
use borrow.Author.Rules.{rules}
use Rattle.store_walk.proofs.walk.Goals as goal

pub label_passes-requires : goal.label_passes-requires
label_passes-requires c = record {
  sides = (rising-sides c.requires.both_rise.0, tables-kept c.requires.both_rise.1 (search rules) refl refl);
  walked_in = walked_none c.args.store.now c.args.side c.args.other
      (copied_at c.args.store.now c.args.n c.args.other
      (c.args.other + c.args.n - c.args.other) (drop c.args.n c.args.cursors.now) c.copy.ensures (omega arith) (omega (arith, c.requires.both_rise.0.other_room))) c.requires.by_index 65536;
}

pub returns-in_err-label_passes : goal.returns-in_err-label_passes
returns-in_err-label_passes c = let p = err_from_is_err_and c.from_residual.result c.from_residual.ensures.1 in
    rw (p.1, p.2) (outcome-decides c.in_err-label_passes.ensures (stopped _))

pub returns : goal.returns
returns c = ended-decides (rising-sides c.requires.both_rise.0) (c.in_ok-label_passes.ensures.passed refl) c.check_ends.ensures
