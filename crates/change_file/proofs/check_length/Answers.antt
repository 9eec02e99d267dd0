-- `change_file::check_length` meets its contract: each return is what the definition says under the tests that led there.
-- Assumes nothing.
use mathlib.Core.Path.{sym, ◌∙◌}
use native.Mathlib.Omega.{arith}
use Rattle.change_file.proofs.Reading.{fault-size, fault-fill, fault-none}
use Rattle.change_file.proofs.check_length.Goals as goal
use Rattle.change_file.proofs.check_length.Goals.{then-file-bytes_for-via-then-file-bytes_for, then-file-bytes_for-via-else-file-bytes_for+then-fill_set}

pub returns-then-file-lt3 : goal.returns-then-file-lt3
returns-then-file-lt3 c = fault-size _ (λ e. omega (arith, c.if-file-lt3.true))

pub returns-then-file-bytes_for : goal.returns-then-file-bytes_for
returns-then-file-bytes_for c = elim c.then-file-bytes_for.branch [
  | then-file-bytes_for-via-then-file-bytes_for w ↦ fault-size _ (λ e. w.if-file-bytes_for.true (omega arith))
  | then-file-bytes_for-via-else-file-bytes_for+then-fill_set w ↦ fault-fill _ (omega arith) (omega arith) (sym w.fill_set.ensures ∙ w.if-fill_set.true)
]

pub returns : goal.returns
returns c = fault-none _ (omega arith) (omega arith) (sym c.fill_set.ensures ∙ c.if-fill_set.false)
