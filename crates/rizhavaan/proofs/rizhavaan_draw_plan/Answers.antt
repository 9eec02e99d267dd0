-- `rizhavaan::rizhavaan_draw_plan` meets its contract: its number is Draw plan's answer. Assumes nothing.
use mathlib.Core.Path.{sym}
use Rattle.rizhavaan.proofs.rizhavaan_draw_plan.Goals as goal

pub returns : goal.returns
returns c =
    let e = c.draw_plan-answer.ensures in
    record { answer = sym e.answer; packed = e.bytes; checked = e.checked }
