-- `store_reverse::lists_begun` meets its contract: the sums of the counts. Assumes nothing.
use Rattle.store_reverse.proofs.Blocks.{begun-sums, sums-low}
use Rattle.store_reverse.proofs.lists_begun.Goals as goal

pub accumulate-requires : goal.accumulate-requires
accumulate-requires c = sums-low c.requires.0 c.count_starts.ensures

pub returns : goal.returns
returns c = begun-sums c.requires.0 c.count_starts.ensures c.accumulate.ensures
