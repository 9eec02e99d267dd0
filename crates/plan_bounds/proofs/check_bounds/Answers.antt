-- `plan_bounds::check_bounds` meets its contract: the store's fault counts where the plan has none. Assumes nothing.
use mathlib.Core.Path.{sym, ◌∙◌}
use Rattle.std.proofs.lemmas.Result.{err_from_is_err_and}
use Rattle.refusals.proofs.Laws.{numbered}
use Rattle.plan_bounds.proofs.Answers.{fault-plan, fault-store}
use Rattle.plan_bounds.proofs.check_bounds.Goals as goal

pub returns-in_err-check_plan_file : goal.returns-in_err-check_plan_file
returns-in_err-check_plan_file c = let a = c.args in
    let p = err_from_is_err_and c.from_residual.result c.from_residual.ensures.1 in
    rw (p.1, p.2) (fault-plan a.store.now a.query.now a.plan.now _ c.in_err-check_plan_file.ensures (numbered _))

pub returns : goal.returns
returns c = let a = c.args in
    c.check_store.ensures ∙ sym (fault-store a.store.now a.query.now a.plan.now (sym c.in_ok-check_plan_file.ensures))
