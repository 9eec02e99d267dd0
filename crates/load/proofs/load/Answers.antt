-- `load::load` meets its contract: the answer and every word of the store, refused and accepted. Assumes nothing.
use mathlib.Core.Path.{sym, ◌∙◌}
use native.Mathlib.Omega.{arith}
use Rattle.refusals.proofs.Laws.{numbered_as}
use Rattle.graph.proofs.FileGraph.{accepted}
use Rattle.load.proofs.Answered.{answer-refused, store-refused, file-accepted, room-accepted, answer-accepted, store-accepted}
use Rattle.load.proofs.load.Goals as goal

pub returns-in-Err : goal.returns-in-Err
returns-in-Err c = record { answer = answer-refused _ c.args.store.now (c.number.ensures ∙ c.in-Err.ensures) (numbered_as c.in-Err.refusal c.number.ensures); words = store-refused _ c.args.store.now (c.number.ensures ∙ c.in-Err.ensures) (numbered_as c.in-Err.refusal c.number.ensures) }

pub of-whole-requires : goal.of-whole-requires
of-whole-requires c = omega (arith, (accepted _ (file-accepted _ c.args.store.now (sym c.in-Ok.ensures))).sized)

pub fill-requires : goal.fill-requires
fill-requires c = let store = c.args.store.now in
    let e = sym c.in-Ok.ensures in
    let vn = c.of-whole.ensures.1 in
    let vm = c.of-whole.ensures.2 in
    (rw c.of-whole.ensures.0 (file-accepted _ store e), room-accepted _ store e vn vm)

pub returns-in-Ok : goal.returns-in-Ok
returns-in-Ok c = let store = c.args.store.now in
    let e = sym c.in-Ok.ensures in
    let vn = c.of-whole.ensures.1 in
    let vm = c.of-whole.ensures.2 in
    record { answer = answer-accepted _ store e vn vm; words = store-accepted _ store e vn vm (rw c.of-whole.ensures.0 at c.fill.ensures) }
