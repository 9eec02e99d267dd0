-- `store_reverse::short_lists_reversed` meets its contract: the entries decide as the lists do. Assumes nothing.
use mathlib.Core.Path.{refl, ◌∙◌}
use Rattle.store_reverse.proofs.Reverses.{side-flat, same-reverses}
use Rattle.store_reverse.proofs.short_lists_reversed.Goals as goal

pub blocks_reversed-requires : goal.blocks_reversed-requires
blocks_reversed-requires c = (side-flat c.requires, refl)

pub returns : goal.returns
returns c = c.blocks_reversed.ensures ∙ same-reverses c.requires
