-- `query_file::faults::pair_key` meets its contract. Assumes nothing.
use mathlib.Core.Path.{◌∙◌}
use Rattle.query_file.proofs.FileLaws.{pair-key-field}
use Rattle.query_file.proofs.faults.pair_key.Goals as goal

pub returns : goal.returns
returns c = c.field.ensures ∙ pair-key-field _ _
