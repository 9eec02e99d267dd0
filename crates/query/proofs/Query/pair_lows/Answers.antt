-- `query::Query::pair_lows` meets its contract: the low vertices that the pairs have with v. Assumes nothing.
use mathlib.Core.Path.{◌∙◌}
use native.Mathlib.Omega.{arith}
use Rattle.query.proofs.Pairs.{all-lows}
use Rattle.query.proofs.Query.pair_lows.Goals as goal

pub pair_ends-requires : goal.pair_ends-requires
pair_ends-requires c = (c.requires.0.pairs, λ i h. let l = c.requires.0.low i h in omega arith)

pub returns : goal.returns
returns c w = c.pair_ends.ensures w ∙ all-lows c.args.self c.args.v w
