-- `changes::fill::forward_side` meets its contract. Assumes nothing.
use mathlib.Core.List.{[]}
use Rattle.graph.specs.Graph.{forward}
use Rattle.changes.proofs.Filled.{side-old, no_keys, filed, at_forward, side-fits, side-made}
use Rattle.changes.proofs.fill.forward_side.Goals as goal

pub merge_side-requires : goal.merge_side-requires
merge_side-requires c = record { side_of = side-old c.requires.0 forward [] (at_forward c.requires.0) (filed c.requires.0); keyed = (no_keys c.requires.0, c.requires.0.changes); fitting = side-fits c.requires.0 forward [] (at_forward c.requires.0) (filed c.requires.0) c.requires.1 }

pub returns : goal.returns
returns c = side-made c.requires.0 forward [] (at_forward c.requires.0) (filed c.requires.0) c.args.side.now c.merge_side.ensures
