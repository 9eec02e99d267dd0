-- `query::Query::adjacent` meets its contract: after i edges, the set of v's neighbours by these. Assumes nothing.
use mathlib.Core.Path.{◌≡◌, ◌∙◌, ap}
use Prim.Native.Nat.{ℕ, ◌<◌}
use native.Mathlib.Omega.{arith}
use borrow.Author.Rules.{rules}
use Rattle.graph.specs.Graph.{Edge}
use Rattle.query.specs.Inner.Struct.{as_edge, edge_of}
use Rattle.query.proofs.Structs.{edge-read}
use Rattle.query.proofs.Touch.{by_first, by-none, by_next, by_all}
use Rattle.query.proofs.Query.adjacent.Goals as goal

pub loop-i-init : goal.loop-i-init
loop-i-init c = (omega arith, by-none c.args.self c.args.v)

pub other_end-found-requires : goal.other_end-found-requires
other_end-found-requires c = let a = c.args in
    let i = c.loop-i.i in
    let below : i < a.self.edges = search rules in
    let read : as_edge c.edge.result ≡ edge_of a.self i = edge-read a.self i c.edge.result below c.edge.ensures in (
      omega (arith, ap (λ (e : Edge). e.source) read, c.requires.source i below),
      omega (arith, ap (λ (e : Edge). e.target) read, c.requires.target i below),
    )

pub loop-i-preserved : goal.loop-i-preserved
loop-i-preserved c = let a = c.args in
    let i = c.loop-i.i in (
      omega arith,
      by_next a.self a.v i _ _ _ (edge-read a.self i c.edge.result (search rules) c.edge.ensures)
          c.loop-i.invariant.1 c.other_end-found.ensures,
    )

pub returns : goal.returns
returns c w = let a = c.args in
    let all : c.loop-i.i ≡ a.self.edges = omega arith in
    c.loop-i.invariant.1 w ∙ ap (λ (i : ℕ). by_first a.self a.v i w) all ∙ by_all a.self a.v w
