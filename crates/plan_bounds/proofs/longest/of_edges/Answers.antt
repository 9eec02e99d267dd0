-- `plan_bounds::longest::of_edges` meets its contract: the loop's invariant: the portions seen are those of the first i query edges that run between v and the set. Assumes nothing.
use mathlib.Core.Path.{◌≡◌, sym, ◌∙◌, ap}
use mathlib.Core.Bool.{true, false}
use native.Mathlib.Omega.{arith}
use borrow.Author.Rules.{rules}
use Rattle.graph.specs.Store.{graph_in}
use Rattle.adjacency.proofs.Accepted.{store-counts}
use Rattle.query.specs.Query.{between}
use Rattle.query.specs.Inner.Mask.{in_mask}
use Rattle.query.specs.Inner.Struct.{as_edge, edge_of}
use Rattle.query.proofs.Structs.{edge-read}
use Rattle.plan_order.proofs.Degrees.{edge-ends, label-byte}
use Rattle.plan_bounds.specs.Bounds.{longest_for}
use Rattle.plan_bounds.proofs.Seeing.{lengths_none, lengths-skip, lengths-more, seen_all}
use Rattle.plan_bounds.proofs.longest.of_edges.Goals as goal
use Rattle.plan_bounds.proofs.longest.of_edges.Goals.{then-joins, else-joins}

pub of_store-g-requires : goal.of_store-g-requires
of_store-g-requires c = (store-counts c.args.store.now c.requires.1).0

pub none-seen-requires : goal.none-seen-requires
none-seen-requires c = tt

pub loop-i-init : goal.loop-i-init
loop-i-init c = let a = c.args in (
  rw (lengths_none (graph_in a.store.now) a.q a.v (in_mask a.set)) c.none-seen.ensures.0,
  omega (arith, c.none-seen.ensures.1),
  omega (arith, c.none-seen.ensures.2),
)

pub edge-e-requires : goal.edge-e-requires
edge-e-requires c = (c.loop-i-test.true, c.requires.0.held.edges)

pub joins-requires : goal.joins-requires
joins-requires c = edge-ends c.args.q c.loop-i.i c.loop-i-test.true c.edge-e.result c.edge-e.ensures c.requires.0.held

pub longest_for-requires : goal.longest_for-requires
longest_for-requires c = (
  record { accepted = c.requires.1; vertices = c.of_store-g.ensures.0; edges = c.of_store-g.ensures.1 },
  label-byte c.args.q _ c.loop-i-test.true c.edge-e.result c.edge-e.ensures c.requires.0,
)

pub with-seen-requires : goal.with-seen-requires
with-seen-requires c = let few = c.requires.0.held.edges in
    (omega (arith, few, c.loop-i.invariant.1, c.loop-i-test.true), omega (arith, few, c.loop-i.invariant.2, c.loop-i-test.true), c.longest_for.ensures.1)

pub loop-i-preserved : goal.loop-i-preserved
loop-i-preserved c =
    let a = c.args in
    let g = graph_in a.store.now in
    let i = c.loop-i.i in
    let same = edge-read a.q i c.edge-e.result c.loop-i-test.true c.edge-e.ensures in
    let runs : c.joins.result ≡ between a.v (in_mask a.set) (edge_of a.q i) = c.joins.ensures ∙ ap (between a.v (in_mask a.set)) same in
    elim c.if-joins.branch [
      | then-joins w ↦ rw (w.seen-is) (
        rw (
          lengths-more g a.q a.v (in_mask a.set) i (sym runs ∙ w.if-joins.true),
          ← (w.longest_for.ensures.0 ∙ ap (longest_for g a.v) same),
        )
            (w.with-seen.ensures.0 _ c.loop-i.invariant.0),
        omega (arith, w.with-seen.ensures.1, c.loop-i.invariant.1),
        omega (arith, w.with-seen.ensures.2, c.loop-i.invariant.2, w.longest_for.ensures.1),
      )
      | else-joins w ↦ rw (w.seen-is) (
        rw (lengths-skip g a.q a.v (in_mask a.set) i (sym runs ∙ w.if-joins.false)) c.loop-i.invariant.0,
        omega arith,
        omega arith,
      )
    ]

pub returns : goal.returns
returns c = let a = c.args in
    let all : c.loop-i.i ≡ a.q.edges = omega arith in
    seen_all (graph_in a.store.now) a.q a.v (in_mask a.set) c.loop-i.seen (rw all at c.loop-i.invariant.0)
