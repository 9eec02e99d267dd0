-- `plan_order::scan_edge` meets its contract. The loop's invariant: the best of the first i edges, and its label's count.
-- Assumes nothing.
use mathlib.Core.Path.{◌≡◌, ap}
use Prim.Native.Nat.{ℕ}
use native.Mathlib.Omega.{arith}
use lib.ListN.{get_or}
use borrow.Author.Rules.{rules}
use Rattle.query.specs.Inner.Struct.{query_in}
use Rattle.plan_order.proofs.Choosing.{kept-one, fewest-take, fewest-leave}
use Rattle.plan_order.proofs.Tallies.{size_by}
use Rattle.plan_order.proofs.Degrees.{edge-label, label-byte}
use Rattle.plan_order.proofs.scan_edge.Goals as goal
use Rattle.plan_order.proofs.scan_edge.Goals.{then-count-fewest, else-count-fewest}

pub edge-requires : goal.edge-requires
edge-requires c = (c.requires.edges, c.requires.held.edges)

pub bounds-counts-edge : goal.bounds-counts-edge
bounds-counts-edge c = label-byte c.args.q 0 c.requires.edges c.edge.result c.edge.ensures c.requires

pub loop-i-init : goal.loop-i-init
loop-i-init c = (
  c.requires.edges,
  kept-one _ _ _ (ap (λ (l : ℕ). get_or c.args.counts.now l 0) (edge-label c.args.q 0 c.requires.edges c.edge.result c.edge.ensures)),
)

pub edge-requires-in-loop-i : goal.edge-requires-in-loop-i
edge-requires-in-loop-i c = (search rules, c.requires.held.edges)

pub bounds-counts-edge-in-loop-i : goal.bounds-counts-edge-in-loop-i
bounds-counts-edge-in-loop-i c = label-byte c.args.q c.loop-i.i (search rules) c.edge-in-loop-i.result c.edge-in-loop-i.ensures c.requires

pub loop-i-preserved : goal.loop-i-preserved
loop-i-preserved c =
    let asked = size_by c.args.counts.now (query_in c.args.q) in
    let read = ap (λ (l : ℕ). get_or c.args.counts.now l 0) (edge-label c.args.q c.loop-i.i (search rules) c.edge-in-loop-i.result c.edge-in-loop-i.ensures) in (
      search rules,
      elim c.if-count-fewest.branch [
        | then-count-fewest w ↦ rw (w.best-is, w.fewest-is) (fewest-take asked _ read c.loop-i.invariant.1 w.if-count-fewest.true)
        | else-count-fewest w ↦ rw (w.best-is, w.fewest-is) (fewest-leave asked _ read c.loop-i.invariant.1 w.if-count-fewest.false)
      ],
    )

pub returns : goal.returns
returns c = let all : c.loop-i.i ≡ c.args.q.edges = omega arith in
    rw all at c.loop-i.invariant.1.is
