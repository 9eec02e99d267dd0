-- `plan_spectrum::run_orderings` meets its contract. Assumes nothing.
use mathlib.Core.Path.{refl}
use Prim.Native.Nat.{◌-◌}
use native.Mathlib.Omega.{arith}
use Rattle.std.proofs.lemmas.Result.{err_from_is_err_and}
use Rattle.refusals.proofs.Laws.{numbered}
use Rattle.plan_spectrum.proofs.Pricing.{price-start, row_fits, runs, priced-refused, priced-more, price-done}
use Rattle.plan_spectrum.proofs.run_orderings.Goals as goal

pub overflow_sub-width : goal.overflow_sub-width
overflow_sub-width c = omega (arith, c.requires.small.at-least)

pub loop-k-init : goal.loop-k-init
loop-k-init c = price-start c.args.store.now c.args.q c.args.list.now c.args.plans c.args.work.now c.args.costs.now c.requires

pub overflow_mul-k : goal.overflow_mul-k
overflow_mul-k c = let lp = c.loop-k in
    omega (arith, row_fits c.args.store.now c.args.q c.args.list.now c.args.plans c.args.work.now c.args.costs.now c.requires lp.k c.loop-k-test.true)

pub plan_at-plan-requires : goal.plan_at-plan-requires
plan_at-plan-requires c = let lp = c.loop-k in
    (row_fits c.args.store.now c.args.q c.args.list.now c.args.plans c.args.work.now c.args.costs.now c.requires lp.k c.loop-k-test.true, omega (arith, c.requires.small.at_most))

pub count_run-requires : goal.count_run-requires
count_run-requires c = let lp = c.loop-k in
    runs c.args.store.now c.args.q c.args.list.now c.args.plans c.args.work.now c.args.costs.now c.requires lp.work lp.costs lp.k lp.invariant c.loop-k-test.true c.plan_at-plan.result c.plan_at-plan.ensures.0 c.plan_at-plan.ensures.1

pub returns-in_err-tally : goal.returns-in_err-tally
returns-in_err-tally c = let lp = c.loop-k in
    let p = err_from_is_err_and c.from_residual.result c.from_residual.ensures.1 in
    rw (p.1, p.2)
    (priced-refused c.args.store.now c.args.q c.args.list.now c.args.plans c.args.work.now c.args.costs.now c.requires lp.work lp.costs lp.k lp.invariant c.loop-k-test.true c.plan_at-plan.result c.plan_at-plan.ensures.0 c.plan_at-plan.ensures.1 _ c.in_err-tally.ensures (numbered _))

pub offset_bounds-costs-k : goal.offset_bounds-costs-k
offset_bounds-costs-k c = let lp = c.loop-k in
    omega (arith, c.requires.room, lp.invariant.costs_kept, c.loop-k-test.true)

pub bounds-costs-k : goal.bounds-costs-k
bounds-costs-k c = let lp = c.loop-k in
    omega (arith, c.requires.room, lp.invariant.costs_kept, c.loop-k-test.true)

pub loop-k-preserved : goal.loop-k-preserved
loop-k-preserved c = let lp = c.loop-k in
    priced-more c.args.store.now c.args.q c.args.list.now c.args.plans c.args.work.now c.args.costs.now c.requires lp.work lp.costs lp.k lp.invariant c.loop-k-test.true c.plan_at-plan.result c.plan_at-plan.ensures.0 c.plan_at-plan.ensures.1 _ c.in_ok-tally.ensures c.in_ok-tally.tally refl
    (omega (arith, c.requires.room, lp.invariant.costs_kept, c.loop-k-test.true)) c.count_run.new.work c.count_run.auto.work

pub returns : goal.returns
returns c = let lp = c.loop-k in
    price-done c.args.store.now c.args.q c.args.list.now c.args.plans c.args.work.now c.args.costs.now c.requires lp.work lp.costs lp.k lp.invariant (λ h. absurd (omega (arith, h)))
