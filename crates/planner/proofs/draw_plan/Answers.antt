-- `planner::draw_plan` meets its contract. Assumes nothing.
-- Past the checks the query is read and the store accepted.
use mathlib.Core.Path.{◌≡◌, sym, ◌∙◌}
use Rattle.refusals.proofs.Laws.{numbered}
use Rattle.lists.proofs.Faults.{first_head, first_tail, first_one}
use Rattle.graph.specs.Store.{store_fault}
use Rattle.query.specs.File.{query_fault}
use Rattle.query_file.proofs.FileLaws.{query_readable}
use Rattle.query_file.proofs.Structs.{file-struct}
use Rattle.planner.proofs.Answers.{settled-checked, settled-drawn}
use Rattle.planner.proofs.Drawing.{read-drawable}
use Rattle.planner.proofs.draw_plan.Goals as goal

pub returns-in-Err : goal.returns-in-Err
returns-in-Err c = let a = c.args in
    let s = settled-checked a.store.now a.query.now a.plan.now _ c.in-Err.ensures (numbered _) in
    let e = c.refused.ensures in
    record { answer = rw e s.0; bytes = s.1.0; checked = rw e s.1.1 }

pub query_of-requires : goal.query_of-requires
query_of-requires c =
    let read : query_fault c.args.query.now ≡ 0 = first_head _ _ (sym c.in-Ok.ensures) in
    query_readable _ read

pub draw_accepted-requires : goal.draw_accepted-requires
draw_accepted-requires c =
    let read : query_fault c.args.query.now ≡ 0 = first_head _ _ (sym c.in-Ok.ensures) in
    let good : store_fault c.args.store.now ≡ 0 = sym (first_one _) ∙ first_tail _ _ (sym c.in-Ok.ensures) in
    (rw c.query_of.ensures (read-drawable _ read), good)

pub returns-in-Ok : goal.returns-in-Ok
returns-in-Ok c =
    let read : query_fault c.args.query.now ≡ 0 = first_head _ _ (sym c.in-Ok.ensures) in
    let good : store_fault c.args.store.now ≡ 0 = sym (first_one _) ∙ first_tail _ _ (sym c.in-Ok.ensures) in
    let a = c.args in
    let s =
    settled-drawn a.store.now a.query.now a.plan.now read good _ _
    (rw (file-struct a.query.now) at (rw c.query_of.ensures at c.draw_accepted.ensures)) in
    record { answer = s.0; bytes = s.1.0; checked = s.1.1 }
