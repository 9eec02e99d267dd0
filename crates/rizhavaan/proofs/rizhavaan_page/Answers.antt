-- `rizhavaan::rizhavaan_page` meets its contract: its number is the page's answer. Assumes nothing.
use mathlib.Core.Path.{sym}
use Rattle.rizhavaan.proofs.rizhavaan_page.Goals as goal

pub returns : goal.returns
returns c =
    let e = c.page-answer.ensures in
    record { answer = sym e.answer; text = e.bytes; sheets = e.sheets }
