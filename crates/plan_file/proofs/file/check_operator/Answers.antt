-- `plan_file::file::check_operator` meets its contract: its tests, in bytes, are those of the definition, in bits. Assumes nothing.
use mathlib.Core.Path.{◌∙◌, sym}
use lib.ListN.{length-replicate}
use borrow.Author.Tests.{eq-eqb, ne_eqb}
use Rattle.plan_file.proofs.Refusals.{stops, passes}
use Rattle.plan_file.proofs.Places.{bits-lack, bits-there}
use Rattle.plan_file.proofs.file.check_operator.Goals as goal

pub returns-then-file-bytes_for : goal.returns-then-file-bytes_for
returns-then-file-bytes_for c = rw (stops 11 _ _ (bits-lack _ _ (rw c.bytes_for.ensures at c.if-file-bytes_for.true)))

pub returns-then-kind-eq-NO_KIND : goal.returns-then-kind-eq-NO_KIND
returns-then-kind-eq-NO_KIND c = rw (
  passes 12 _ _ (bits-there _ _ (rw c.bytes_for.ensures at c.if-file-bytes_for.false)),
  stops 13 _ _ (eq-eqb _ 3 (sym c.field-kind.ensures ∙ c.if-kind-eq-NO_KIND.true)),
)

pub returns-then-file-bytes_for-2 : goal.returns-then-file-bytes_for-2
returns-then-file-bytes_for-2 c = rw (
  passes 12 _ _ (bits-there _ _ (rw c.bytes_for.ensures at c.if-file-bytes_for.false)),
  passes 14 _ _ (ne_eqb _ 3 (rw c.field-kind.ensures at c.if-kind-eq-NO_KIND.false)),
  stops 11 _ _ (bits-lack _ _ (rw (c.bytes_for-2.ensures, c.next_place.ensures.is) at c.if-file-bytes_for-2.true)),
)

pub returns : goal.returns
returns c = rw (
  passes 12 _ _ (bits-there _ _ (rw c.bytes_for.ensures at c.if-file-bytes_for.false)),
  passes 14 _ _ (ne_eqb _ 3 (rw c.field-kind.ensures at c.if-kind-eq-NO_KIND.false)),
  passes 12 _ _ (bits-there _ _ (rw (c.bytes_for-2.ensures, c.next_place.ensures.is) at c.if-file-bytes_for-2.false)),
  length-replicate c.args.m,
  ← c.operand.ensures,
  ← c.field-kind.ensures,
) c.check_operand.ensures
