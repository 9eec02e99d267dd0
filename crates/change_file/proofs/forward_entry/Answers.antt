-- `change_file::forward_entry` meets its contract. Assumes nothing.
use Rattle.packed.proofs.Laws.{field_lt}
use Rattle.change_file.proofs.Reading.{entry-field}
use Rattle.change_file.proofs.forward_entry.Goals as goal

pub returns : goal.returns
returns c = (entry-field _ _ c.field.ensures, rw c.field.ensures (field_lt _ _ 24))
