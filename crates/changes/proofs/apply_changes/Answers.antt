-- `changes::apply_changes` meets its contract. Assumes nothing.
use mathlib.Core.Path.{sym, ◌∙◌}
use Rattle.refusals.proofs.Laws.{numbered_as}
use Rattle.adjacency.proofs.Accepted.{store-counts}
use Rattle.changes.proofs.Answers.{tested-sized, few_edges, enough-edges, edges_are, accepted-store, accepted-long, accepted-tested, accepted-all, accepted-room, answer-accepted, store-accepted, answer-refused, store-refused}
use Rattle.changes.proofs.apply_changes.Goals as goal

pub returns-in-Err : goal.returns-in-Err
returns-in-Err c = record { answer = answer-refused _ _ c.args.store.now (c.number.ensures ∙ c.in-Err.ensures) (numbered_as c.in-Err.refusal c.number.ensures); words = store-refused _ _ c.args.store.now (c.number.ensures ∙ c.in-Err.ensures) (numbered_as c.in-Err.refusal c.number.ensures) }

pub of_store-g-requires : goal.of_store-g-requires
of_store-g-requires c = (store-counts _ (accepted-store _ _ _ (sym c.in-Ok.ensures))).0

pub change_count-k-requires : goal.change_count-k-requires
change_count-k-requires c = accepted-long _ _ _ (sym c.in-Ok.ensures) c.of_store-g.ensures.0

pub edited_edges-m-requires : goal.edited_edges-m-requires
edited_edges-m-requires c = record { sized = (tested-sized (accepted-tested _ _ _ (sym c.in-Ok.ensures) c.of_store-g.ensures.0 c.of_store-g.ensures.1 c.change_count-k.ensures.0), c.change_count-k.ensures.0, few_edges (accepted-tested _ _ _ (sym c.in-Ok.ensures) c.of_store-g.ensures.0 c.of_store-g.ensures.1 c.change_count-k.ensures.0)); k_bound = enough-edges (accepted-tested _ _ _ (sym c.in-Ok.ensures) c.of_store-g.ensures.0 c.of_store-g.ensures.1 c.change_count-k.ensures.0) }

pub fill-requires : goal.fill-requires
fill-requires c = (accepted-all _ _ _ (sym c.in-Ok.ensures) c.of_store-g.ensures.0 c.of_store-g.ensures.1 c.change_count-k.ensures.0, (edges_are (accepted-tested _ _ _ (sym c.in-Ok.ensures) c.of_store-g.ensures.0 c.of_store-g.ensures.1 c.change_count-k.ensures.0) c.edited_edges-m.ensures), accepted-room _ _ _ (sym c.in-Ok.ensures) c.of_store-g.ensures.0 c.of_store-g.ensures.1 c.change_count-k.ensures.0 (edges_are (accepted-tested _ _ _ (sym c.in-Ok.ensures) c.of_store-g.ensures.0 c.of_store-g.ensures.1 c.change_count-k.ensures.0) c.edited_edges-m.ensures))

pub returns-in-Ok : goal.returns-in-Ok
returns-in-Ok c = record { answer = answer-accepted _ _ _ (sym c.in-Ok.ensures) c.of_store-g.ensures.0 c.of_store-g.ensures.1 c.change_count-k.ensures.0 (edges_are (accepted-tested _ _ _ (sym c.in-Ok.ensures) c.of_store-g.ensures.0 c.of_store-g.ensures.1 c.change_count-k.ensures.0) c.edited_edges-m.ensures); words = store-accepted _ _ c.args.store.now (sym c.in-Ok.ensures) c.of_store-g.ensures.0 (edges_are (accepted-tested _ _ _ (sym c.in-Ok.ensures) c.of_store-g.ensures.0 c.of_store-g.ensures.1 c.change_count-k.ensures.0) c.edited_edges-m.ensures) c.fill.ensures }
