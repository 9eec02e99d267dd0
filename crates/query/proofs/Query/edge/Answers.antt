-- `query::Query::edge` meets its contract: each array has the field of edge i at i. Assumes nothing.
use mathlib.Core.Path.{sym, ap}
use borrow.Author.Rules.{rules}
use Rattle.query.specs.Inner.Struct.{edge_struct}
use Rattle.query.proofs.Structs.{edge_in_lem}
use Rattle.query.proofs.Query.edge.Goals as goal

pub returns : goal.returns
returns c = sym (ap edge_struct (edge_in_lem c.args.self c.args.i (search rules)))
