-- `query::Query::filter` meets its contract: each array has the field of vertex w at w. Assumes nothing.
use lib.ListN.{get_or}
use Rattle.query.specs.Inner.Struct.{filter_of}
use Rattle.query.proofs.Query.filter.Goals as goal

pub returns : goal.returns
unfolding filter_of
returns c = let a = c.args in
    let q = a.self in
    λ k. record {
      label = get_or q.labels a.w 0;
      first = get_or q.firsts a.w 0;
      last = get_or q.lasts a.w 0;
      any_day = c.whole.ensures k;
    }
