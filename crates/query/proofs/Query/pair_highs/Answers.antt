-- `query::Query::pair_highs` meets its contract: the high vertices that the pairs have with v. Assumes nothing.
use mathlib.Core.Path.{◌∙◌}
use native.Mathlib.Omega.{arith}
use Rattle.query.proofs.Pairs.{all-highs}
use Rattle.query.proofs.Query.pair_highs.Goals as goal

pub pair_ends-requires : goal.pair_ends-requires
pair_ends-requires c = (c.requires.0.pairs, λ i h. let l = c.requires.0.high i h in omega arith)

pub returns : goal.returns
returns c w = c.pair_ends.ensures w ∙ all-highs c.args.self c.args.v w
