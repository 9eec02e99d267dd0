-- `query::Query::none` meets its contract: its arrays are those of the query with no vertex. Assumes nothing.
use mathlib.Core.Path.{refl}
use Rattle.query.specs.Answer.{struct_of, padded}
use Rattle.query.proofs.Query.none.Goals as goal

pub returns : goal.returns
unfolding struct_of padded
returns c = refl
