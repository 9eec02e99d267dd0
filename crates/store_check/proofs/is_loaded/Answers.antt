-- `store_check::is_loaded` meets its contract: the counts, the labels and the days, and then the rest. Assumes nothing.
use mathlib.Core.Path.{sym, ◌∙◌}
use native.Mathlib.Omega.{arith}
use Rattle.store_check.proofs.Counting.{counts-passed, fit-counts}
use Rattle.store_check.proofs.Decided.{counts-refuse, vertices-refuse}
use Rattle.store_check.proofs.is_loaded.Goals as goal

pub returns-then-not-counts_fit : goal.returns-then-not-counts_fit
returns-then-not-counts_fit c = counts-refuse c.args.store.now c.counts_fit.ensures c.if-not-counts_fit.true

pub of_store-g-requires : goal.of_store-g-requires
of_store-g-requires c = (counts-passed c.args.store.now c.counts_fit.ensures c.if-not-counts_fit.false).named

pub days-requires : goal.days-requires
days-requires c = omega (arith, counts-passed c.args.store.now c.counts_fit.ensures c.if-not-counts_fit.false)

pub vertices_fit-requires : goal.vertices_fit-requires
vertices_fit-requires c = let k = counts-passed c.args.store.now c.counts_fit.ensures c.if-not-counts_fit.false in
    (omega arith, omega arith, omega (arith, k.room))

pub returns-then-not-vertices_fit : goal.returns-then-not-vertices_fit
returns-then-not-vertices_fit c = vertices-refuse c.args.store.now c.vertices_fit.ensures c.if-not-vertices_fit.true

pub overflow_cast-g : goal.overflow_cast-g
overflow_cast-g c = omega (arith, counts-passed c.args.store.now c.counts_fit.ensures c.if-not-counts_fit.false)

pub forward-requires : goal.forward-requires
forward-requires c = omega (arith, counts-passed c.args.store.now c.counts_fit.ensures c.if-not-counts_fit.false)

pub backward-requires : goal.backward-requires
backward-requires c = omega (arith, counts-passed c.args.store.now c.counts_fit.ensures c.if-not-counts_fit.false)

pub sides_fit-requires : goal.sides_fit-requires
sides_fit-requires c = let s = c.args.store.now in record {
  counted = record {
    counts = fit-counts s (counts-passed s c.counts_fit.ensures c.if-not-counts_fit.false);
    vertices = omega arith;
    edges = omega arith;
    forward_at = omega arith;
    backward_at = omega arith;
  };
  store_value = sym c.vertices_fit.ensures ∙ c.if-not-vertices_fit.false;
}
