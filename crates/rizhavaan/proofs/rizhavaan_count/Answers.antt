-- `rizhavaan::rizhavaan_count` meets its contract: its numbers are Count's answer. Assumes nothing.
use mathlib.Core.Path.{sym}
use Rattle.rizhavaan.proofs.rizhavaan_count.Goals as goal

pub returns : goal.returns
returns c =
    let e = c.count-answer.ensures in
    record { answer = sym e.answer; cleared = e.cleared; tells = e.tells }
