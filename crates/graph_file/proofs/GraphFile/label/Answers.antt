-- `graph_file::GraphFile::label` meets its contract: it is a part of the forward entry. Assumes nothing.
use native.Mathlib.Omega.{arith}
use Rattle.graph_file.proofs.Entries.{entry-label}
use Rattle.graph_file.proofs.GraphFile.label.Goals as goal

pub returns : goal.returns
returns c = (entry-label _ _ c.forward_entry.ensures.0, omega arith)
