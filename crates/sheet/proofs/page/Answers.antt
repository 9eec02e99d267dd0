-- `sheet::page` meets its contract. Assumes nothing.
use mathlib.Core.Path.{sym}
use Rattle.refusals.proofs.Laws.{numbered}
use Rattle.sheet.proofs.Refusals.{rows_right}
use Rattle.sheet.proofs.Answers.{page-accepted, refused-left, accepted-left}
use Rattle.sheet.proofs.Sheets.{sheets-hold-every-row}
use Rattle.sheet.proofs.page.Goals as goal

pub returns-in-Err : goal.returns-in-Err
returns-in-Err c = let a = c.args in
    let l = refused-left a.list.now a.n a.rows a.page a.bytes.now _ _ (sym c.in-Err.ensures) (numbered c.in-Err.refusal) c.refused.ensures in
    record { answer = l.0; bytes = l.1; sheets = sheets-hold-every-row a.list.now a.n a.rows a.bytes.now }

pub page_count-pages-requires : goal.page_count-pages-requires
page_count-pages-requires c = let a = c.args in
    (rows_right a.list.now a.n a.rows (page-accepted a.list.now a.n a.rows a.page _ (sym c.in-Ok.ensures)).rows_right).few

pub put_page-requires : goal.put_page-requires
put_page-requires c = let a = c.args in
    rw c.page_count-pages.ensures (page-accepted a.list.now a.n a.rows a.page _ (sym c.in-Ok.ensures))

pub returns-in-Ok : goal.returns-in-Ok
returns-in-Ok c = let a = c.args in
    let l = accepted-left a.list.now a.n a.rows a.page a.bytes.now _ _ (sym c.in-Ok.ensures) c.page_count-pages.ensures c.put_page.ensures in
    record { answer = l.0; bytes = l.1; sheets = sheets-hold-every-row a.list.now a.n a.rows a.bytes.now }
