-- `query_file::check_query` meets its contract: the file's faults, then connectivity. Assumes nothing.
use mathlib.Core.Path.{sym, ◌∙◌, ap}
use mathlib.Core.Bool.{not}
use Rattle.std.proofs.lemmas.Result.{err_from_is_err_and}
use Rattle.refusals.proofs.Laws.{numbered}
use Rattle.lists.specs.Refusal.{refuse}
use Rattle.query.specs.Query.{Query, connected}
use Rattle.query.specs.Inner.Struct.{query_in}
use Rattle.query.specs.declared.Query.{Query as QueryStruct}
use Rattle.query_file.proofs.Structs.{file-struct, held}
use Rattle.query_file.proofs.FileLaws.{query-first, query-last, file-readable}
use Rattle.query_file.proofs.check_query.Goals as goal

pub returns-in_err-check_file : goal.returns-in_err-check_file
returns-in_err-check_file c =
    let p = err_from_is_err_and c.from_residual.result c.from_residual.ensures.1 in
    let h = c.in_err-check_file.ensures in
    rw (p.1, p.2) (h ∙ sym (query-first _ (λ z. numbered _ (h ∙ z))))

pub query_of-requires : goal.query_of-requires
query_of-requires c = file-readable _ (sym c.in_ok-check_file.ensures)

pub check_connected-requires : goal.check_connected-requires
check_connected-requires c = rw c.query_of.ensures (held _ (file-readable _ (sym c.in_ok-check_file.ensures)).limits)

pub returns : goal.returns
returns c =
    c.check_connected.ensures ∙ ap (λ (q : QueryStruct). refuse 11 (not (connected (query_in q)))) c.query_of.ensures
    ∙ ap (λ (q : Query). refuse 11 (not (connected q))) (file-struct c.args.file.now) ∙ sym (query-last _ (sym c.in_ok-check_file.ensures))
