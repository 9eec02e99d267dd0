-- `store_check::sides_fit` meets its contract: a failed test refuses the store, and then the walk decides, or the search. Assumes nothing.
use mathlib.Core.Path.{sym, ◌∙◌}
use native.Mathlib.Omega.{arith}
use Rattle.store_check.proofs.Counting.{counted-few, forward-room, backward-room}
use Rattle.store_check.proofs.Decided.{ahead-refuses, back-refuses, both-rise, walk-decides}
use Rattle.store_check.proofs.sides_fit.Goals as goal

pub side_offsets_fit-requires : goal.side_offsets_fit-requires
side_offsets_fit-requires c = (forward-room c.requires.counted, counted-few c.requires.counted)

pub returns-then-not-side_offsets_fit : goal.returns-then-not-side_offsets_fit
returns-then-not-side_offsets_fit c = ahead-refuses c.requires.counted c.side_offsets_fit.ensures c.if-not-side_offsets_fit.true

pub side_offsets_fit-requires-2 : goal.side_offsets_fit-requires-2
side_offsets_fit-requires-2 c = (backward-room c.requires.counted, counted-few c.requires.counted)

pub returns-then-not-side_offsets_fit-2 : goal.returns-then-not-side_offsets_fit-2
returns-then-not-side_offsets_fit-2 c = back-refuses c.requires.counted c.side_offsets_fit-2.ensures c.if-not-side_offsets_fit-2.true

pub check_agreement-requires : goal.check_agreement-requires
check_agreement-requires c = both-rise c.requires.counted c.requires.store_value (sym c.side_offsets_fit.ensures ∙ c.if-not-side_offsets_fit.false) (sym c.side_offsets_fit-2.ensures ∙ c.if-not-side_offsets_fit-2.false)

pub searched-requires : goal.searched-requires
searched-requires c = record { counted = c.requires.counted; store_value = c.requires.store_value; forward_value = (sym c.side_offsets_fit.ensures ∙ c.if-not-side_offsets_fit.false, sym c.side_offsets_fit-2.ensures ∙ c.if-not-side_offsets_fit-2.false) }

pub returns-in-Ok : goal.returns-in-Ok
returns-in-Ok c = walk-decides c.requires.counted c.requires.store_value (sym c.side_offsets_fit.ensures ∙ c.if-not-side_offsets_fit.false) (sym c.side_offsets_fit-2.ensures ∙ c.if-not-side_offsets_fit-2.false) c.in-Ok.ensures (λ e. omega arith)

pub returns-in-Err-Disagree : goal.returns-in-Err-Disagree
returns-in-Err-Disagree c = walk-decides c.requires.counted c.requires.store_value (sym c.side_offsets_fit.ensures ∙ c.if-not-side_offsets_fit.false) (sym c.side_offsets_fit-2.ensures ∙ c.if-not-side_offsets_fit-2.false) (rw c.in-Err-Disagree.field-0-is at c.in-Err-Disagree.ensures) (λ e. omega arith)
