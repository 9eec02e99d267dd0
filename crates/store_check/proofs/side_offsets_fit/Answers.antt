-- `store_check::side_offsets_fit` meets its contract: it tests the part of the store that holds them. Assumes nothing.
use mathlib.Core.Path.{◌∙◌}
use Rattle.store_check.proofs.Decided.{offsets-part}
use Rattle.store_check.proofs.side_offsets_fit.Goals as goal

pub returns : goal.returns
returns c = c.offsets_fit.ensures ∙ offsets-part c.args.store.now c.args.n c.args.m c.args.side
