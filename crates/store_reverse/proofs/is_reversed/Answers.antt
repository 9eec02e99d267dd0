-- `store_reverse::is_reversed` meets its contract: short or long, the list decides. Assumes nothing.
use mathlib.Core.Path.{◌∙◌}
use native.Mathlib.Omega.{arith}
use Rattle.store_reverse.proofs.Fits.{side-ascends}
use Rattle.store_reverse.proofs.is_reversed.Goals as goal

pub neighbours-list-requires : goal.neighbours-list-requires
neighbours-list-requires c = c.requires.0.within _ c.requires.3.neighbour

pub has_hinted-requires : goal.has_hinted-requires
has_hinted-requires c = (rw c.neighbours-list.ensures (side-ascends c.requires.0 _ c.requires.3.neighbour), omega (arith, c.requires.3.neighbour, c.requires.2))

pub returns-then-list-gt-FEW : goal.returns-then-list-gt-FEW
returns-then-list-gt-FEW c = c.has_hinted.ensures ∙ rw c.neighbours-list.ensures

pub returns : goal.returns
returns c = c.has_few.ensures ∙ rw c.neighbours-list.ensures
