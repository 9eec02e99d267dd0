-- `plan_file::check_plan_file` meets its contract: the query's faults, then the file's, then the rules'. Assumes nothing.
-- Past the first test the query has no fault.
use mathlib.Core.Path.{◌≡◌, sym, ◌∙◌, ap}
use mathlib.Core.List.{List}
use Prim.Native.Nat.{ℕ}
use Rattle.std.proofs.lemmas.Result.{err_from_is_err_and}
use Rattle.refusals.proofs.Laws.{numbered}
use Rattle.query.specs.Answer.{struct_of}
use Rattle.query.specs.File.{query_of}
use Rattle.query.specs.declared.Query.{Query as QueryStruct}
use Rattle.query_file.proofs.Structs.{file-struct}
use Rattle.query_file.proofs.FileLaws.{query_readable, query_held}
use Rattle.plan_file.specs.Inner.Parts.{of_size, plan_file_fault}
use Rattle.plan.specs.Inner.Struct.{plan_struct}
use Rattle.plan_file.proofs.Structs.{file-operators}
use Rattle.plan_file.proofs.Accepted.{file-fault-size, all_named, bits-all, count-le, check-query, check-file, check-rules}
use Rattle.plan_file.proofs.check_plan_file.Goals as goal

-- What the code asks of the query's size is what the definition asks of the query.
file-is : (query plan : List ℕ) {q : QueryStruct} → q ≡ struct_of (query_of query)
    → plan_file_fault (of_size q.vertices q.edges) plan ≡ plan_file_fault (query_of query) plan
file-is query plan is = ap (λ (d : QueryStruct). plan_file_fault (of_size d.vertices d.edges) plan) is ∙ file-fault-size (query_of query) plan

pub returns-in_err-check_query : goal.returns-in_err-check_query
returns-in_err-check_query c =
    let p = err_from_is_err_and c.from_residual.result c.from_residual.ensures.1 in
    let h = c.in_err-check_query.ensures in
    rw (p.1, p.2) (h ∙ sym (check-query _ _ (λ z. numbered _ (h ∙ z))))

pub query_of-q-requires : goal.query_of-q-requires
query_of-q-requires c = query_readable _ (sym c.in_ok-check_query.ensures)

pub returns-in_err-check_file : goal.returns-in_err-check_file
returns-in_err-check_file c =
    let p = err_from_is_err_and c.from_residual-in_err-check_file.result c.from_residual-in_err-check_file.ensures.1 in
    let h = c.in_err-check_file.ensures ∙ file-is c.args.query.now c.args.plan.now c.query_of-q.ensures in
    rw (p.1, p.2) (h ∙ sym (check-file _ _ (sym c.in_ok-check_query.ensures) (λ z. numbered _ (h ∙ z))))

pub plan_of-requires : goal.plan_of-requires
plan_of-requires c = bits-all _ _ (sym (c.in_ok-check_file.ensures ∙ file-is c.args.query.now c.args.plan.now c.query_of-q.ensures))

pub check_rules-requires : goal.check_rules-requires
unfolding plan_struct
check_rules-requires c =
    let s = c.args.query.now in
    rw (c.query_of-q.ensures, c.plan_of.ensures, file-struct s, file-operators _)
    (query_held s (sym c.in_ok-check_query.ensures), count-le _, all_named _ _ (sym (c.in_ok-check_file.ensures ∙ file-is s c.args.plan.now c.query_of-q.ensures)))

pub returns : goal.returns
returns c =
    let file-clear = sym (c.in_ok-check_file.ensures ∙ file-is c.args.query.now c.args.plan.now c.query_of-q.ensures) in
    c.check_rules.ensures
    ∙ rw (c.query_of-q.ensures, c.plan_of.ensures, file-struct, file-operators)
    (sym (check-rules _ _ (sym c.in_ok-check_query.ensures) file-clear))
