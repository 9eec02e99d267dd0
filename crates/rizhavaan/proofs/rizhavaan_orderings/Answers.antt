-- `rizhavaan::rizhavaan_orderings` meets its contract: its number is the answer of all orderings. Assumes nothing.
use mathlib.Core.Path.{sym}
use Rattle.rizhavaan.proofs.rizhavaan_orderings.Goals as goal

pub returns : goal.returns
returns c =
    let e = c.orderings-answer.ensures in
    record { answer = sym e.answer; listed = e.listed; cleared = e.cleared; every = e.every }
