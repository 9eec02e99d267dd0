-- `plan_file::file::check_file` meets its contract: a count of 5 bits is below 32. Assumes nothing.
use mathlib.Core.Path.{sym, ◌∙◌}
use native.Mathlib.Omega.{arith}
use borrow.Author.Tests.{eq-eqb, ne_eqb}
use Rattle.packed.proofs.Laws.{field_lt}
use Rattle.plan_file.specs.Inner.Parts.{plan_file_fault}
use Rattle.plan_file.proofs.Refusals.{stops, passes}
use Rattle.plan_file.proofs.Places.{bits-lack, bits-there}
use Rattle.plan_file.proofs.file.check_file.Goals as goal

pub returns-then-file-lt1 : goal.returns-then-file-lt1
unfolding plan_file_fault
returns-then-file-lt1 c = rw (stops 11 _ _ (bits-lack c.args.file.now 5 c.if-file-lt1.true))

pub returns-then-count-eq0 : goal.returns-then-count-eq0
unfolding plan_file_fault
returns-then-count-eq0 c = rw (
  passes 12 _ _ (bits-there _ 5 c.if-file-lt1.false),
  stops 13 _ _ (eq-eqb _ 0 (sym c.operator_count-count.ensures ∙ c.if-count-eq0.true)),
)

pub check_operators-requires : goal.check_operators-requires
check_operators-requires c = (
  omega (arith, c.operator_count-count.ensures, field_lt c.args.file.now 0 5),
  c.if-file-lt1.false,
)

pub returns : goal.returns
unfolding plan_file_fault
returns c = rw (
  passes 12 _ _ (bits-there _ 5 c.if-file-lt1.false),
  passes 14 _ _ (ne_eqb _ 0 (rw c.operator_count-count.ensures at c.if-count-eq0.false)),
  ← c.operator_count-count.ensures,
) c.check_operators.ensures
