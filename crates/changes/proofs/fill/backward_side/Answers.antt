-- `changes::fill::backward_side` meets its contract. Assumes nothing.
use native.Mathlib.Omega.{arith}
use borrow.Author.Rules.{rules}
use mathlib.Core.Path.{sym, ◌∙◌}
use Rattle.graph.specs.Graph.{backward}
use Rattle.changes.proofs.Filled.{old-counts, low-vertices, side-old, distinct, sorted-size, some-keys, sorted, side-fits, side-made}
use Rattle.changes.proofs.Present.{file-sized}
use Rattle.changes.proofs.fill.backward_side.Goals as goal

pub of_store-requires : goal.of_store-requires
of_store-requires c = (old-counts c.requires.0).0

pub backward-at-requires : goal.backward-at-requires
backward-at-requires c = (omega (arith, c.of_store.ensures.0, c.requires.0.vertices, low-vertices c.requires.0), omega (arith, c.of_store.ensures.1, (old-counts c.requires.0).1))

pub backward_keys-requires : goal.backward_keys-requires
backward_keys-requires c = (file-sized _ _ c.requires.0.file, distinct c.requires.0, c.requires.0.changes, search rules)

pub slice_bounds-merge_side-end : goal.slice_bounds-merge_side-end
slice_bounds-merge_side-end c = c.requires.0.changes ∙ sym (sorted-size c.requires.0 c.backward_keys.ensures)

pub merge_side-requires : goal.merge_side-requires
merge_side-requires c = record { side_of = side-old c.requires.0 backward _ (omega (arith, c.backward-at.ensures, c.of_store.ensures)) (sorted c.requires.0 c.backward_keys.ensures); keyed = (some-keys c.requires.0 c.backward_keys.ensures, c.requires.0.changes); fitting = side-fits c.requires.0 backward _ (omega (arith, c.backward-at.ensures, c.of_store.ensures)) (sorted c.requires.0 c.backward_keys.ensures) c.requires.2 }

pub returns : goal.returns
returns c = side-made c.requires.0 backward _ (omega (arith, c.backward-at.ensures, c.of_store.ensures)) (sorted c.requires.0 c.backward_keys.ensures) c.args.side.now c.merge_side.ensures
