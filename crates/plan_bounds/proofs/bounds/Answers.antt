-- `plan_bounds::bounds` meets its contract. Assumes nothing.
use mathlib.Core.Path.{◌≡◌, sym, ◌∙◌}
use Rattle.refusals.proofs.Laws.{numbered}
use Rattle.graph.specs.Store.{store_fault}
use Rattle.plan.specs.File.{check_fault}
use Rattle.plan_file.proofs.Accepted.{accepted}
use Rattle.plan_bounds.proofs.Answers.{read-drawable, refused, plan_accepted, store_accepted, all_named, few-operators, answered-bounds}
use Rattle.plan_bounds.proofs.bounds.Goals as goal

pub returns-in-Err : goal.returns-in-Err
returns-in-Err c = let a = c.args in
    c.refused.ensures ∙ refused a.store.now a.query.now a.plan.now _ (sym c.in-Err.ensures) (numbered c.in-Err.refusal)

pub query_of-requires : goal.query_of-requires
query_of-requires c = let a = c.args in
    (accepted _ _ (plan_accepted a.store.now a.query.now a.plan.now (sym c.in-Ok.ensures))).query_readable

pub plan_of-requires : goal.plan_of-requires
plan_of-requires c = let a = c.args in
    (accepted _ _ (plan_accepted a.store.now a.query.now a.plan.now (sym c.in-Ok.ensures))).plan-bits

pub answer-requires : goal.answer-requires
answer-requires c = let a = c.args in
    let checked : check_fault a.query.now a.plan.now ≡ 0 = plan_accepted a.store.now a.query.now a.plan.now (sym c.in-Ok.ensures) in
    let good : store_fault a.store.now ≡ 0 = store_accepted a.store.now a.query.now a.plan.now (sym c.in-Ok.ensures) in
    rw (c.query_of.ensures, c.plan_of.ensures)
    (read-drawable a.query.now a.plan.now checked, good, few-operators a.store.now a.query.now a.plan.now checked, all_named a.store.now a.query.now a.plan.now checked)

pub returns-in-Ok : goal.returns-in-Ok
returns-in-Ok c = let a = c.args in
    let checked : check_fault a.query.now a.plan.now ≡ 0 = plan_accepted a.store.now a.query.now a.plan.now (sym c.in-Ok.ensures) in
    let good : store_fault a.store.now ≡ 0 = store_accepted a.store.now a.query.now a.plan.now (sym c.in-Ok.ensures) in
    answered-bounds a.store.now a.query.now a.plan.now checked good c.answer.result
    (rw (c.query_of.ensures, c.plan_of.ensures) at c.answer.ensures)
