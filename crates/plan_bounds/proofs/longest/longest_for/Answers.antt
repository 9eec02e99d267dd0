-- `plan_bounds::longest::longest_for` meets its contract, by the end that v is. Assumes nothing.
use mathlib.Core.Path.{sym, ◌∙◌}
use native.Mathlib.Omega.{arith}
use Rattle.graph.specs.Graph.{forward, backward}
use Rattle.graph.specs.Store.{graph_in}
use Rattle.adjacency.proofs.Accepted.{store-counts}
use Rattle.query.specs.Inner.Struct.{as_edge}
use Rattle.plan_bounds.proofs.Seeing.{longest-few, side-forward, side-backward, sided-forward, sided-backward, for-forward, for-backward}
use Rattle.plan_bounds.proofs.longest.longest_for.Goals as goal

pub backward-requires : goal.backward-requires
backward-requires c = let n = store-counts c.args.store.now c.requires.0.accepted in
    (omega (arith, n.1, c.requires.0.vertices), omega (arith, n.2, c.requires.0.edges))

pub longest-requires : goal.longest-requires
longest-requires c = (sided-backward _ _ _ c.requires.0 c.backward.ensures, c.requires.1)

pub returns-then-v-e : goal.returns-then-v-e
returns-then-v-e c = let is =
    c.longest.ensures backward (side-backward _ _ _ c.requires.0 c.backward.ensures)
    ∙ sym (for-backward (graph_in c.args.store.now) c.args.v (as_edge c.args.e) (sym c.if-v-e.true)) in
    (is, rw is (longest-few _ c.requires.0.accepted c.args.v (as_edge c.args.e)))

pub forward-requires : goal.forward-requires
forward-requires c = omega (arith, (store-counts c.args.store.now c.requires.0.accepted).1, c.requires.0.vertices)

pub longest-requires-2 : goal.longest-requires-2
longest-requires-2 c = (sided-forward _ _ _ c.requires.0 c.forward.ensures, c.requires.1)

pub returns : goal.returns
returns c = let is =
    c.longest-2.ensures forward (side-forward _ _ _ c.requires.0 c.forward.ensures)
    ∙ sym (for-forward (graph_in c.args.store.now) c.args.v (as_edge c.args.e) (λ z. c.if-v-e.false (sym z))) in
    (is, rw is (longest-few _ c.requires.0.accepted c.args.v (as_edge c.args.e)))
