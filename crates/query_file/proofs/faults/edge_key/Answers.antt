-- `query_file::faults::edge_key` meets its contract. Assumes nothing.
use mathlib.Core.Path.{◌∙◌}
use Rattle.query_file.proofs.FileLaws.{key-field}
use Rattle.query_file.proofs.faults.edge_key.Goals as goal

pub returns : goal.returns
returns c = c.field.ensures ∙ key-field _ _
