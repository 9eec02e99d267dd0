-- `changes::check_apply` meets its contract. Assumes nothing.
use native.Mathlib.Omega.{arith}
use mathlib.Core.Path.{sym}
use Rattle.std.proofs.lemmas.Result.{err_from_is_err_and}
use Rattle.refusals.proofs.Laws.{numbered}
use Rattle.adjacency.proofs.Accepted.{store-counts}
use Rattle.changes.proofs.Present.{file-sized}
use Rattle.changes.proofs.Answers.{tested-by, fault-store, fault-file, fault-edits, fault-many, fault-room, fault-none, tested-sized, few_edges, enough-edges, edges_are}
use Rattle.changes.proofs.check_apply.Goals as goal

pub returns-in_err-check_store : goal.returns-in_err-check_store
returns-in_err-check_store c =
    let p = err_from_is_err_and c.from_residual.result c.from_residual.ensures.1 in
    rw (p.1, p.2) (fault-store _ _ _ c.in_err-check_store.ensures (numbered _))

pub of_store-g-requires : goal.of_store-g-requires
of_store-g-requires c = (store-counts _ (sym c.in_ok-check_store.ensures)).0

pub returns-in_err-check_changes : goal.returns-in_err-check_changes
returns-in_err-check_changes c =
    let p = err_from_is_err_and c.from_residual-in_err-check_changes.result c.from_residual-in_err-check_changes.ensures.1 in
    rw (p.1, p.2) (fault-file _ _ _ (sym c.in_ok-check_store.ensures) c.of_store-g.ensures.0 c.in_err-check_changes.ensures (numbered _))

pub change_count-k-requires : goal.change_count-k-requires
change_count-k-requires c = omega (arith, (file-sized _ _ (sym c.in_ok-check_changes.ensures)).there)

pub overflow_mul-n : goal.overflow_mul-n
overflow_mul-n c = omega (arith, store-counts _ (sym c.in_ok-check_store.ensures))

pub overflow_add-n : goal.overflow_add-n
overflow_add-n c = omega (arith, store-counts _ (sym c.in_ok-check_store.ensures))

pub check_edits-requires : goal.check_edits-requires
check_edits-requires c = record {
  accepted = (sym c.in_ok-check_store.ensures);
  vertices = c.of_store-g.ensures.0;
  begins = omega (arith, c.of_store-g.ensures.0);
  fits = sym c.in_ok-check_changes.ensures;
  changes = c.change_count-k.ensures.0;
}

pub returns-in_err-check_edits : goal.returns-in_err-check_edits
returns-in_err-check_edits c =
    let p = err_from_is_err_and c.from_residual-in_err-check_edits.result c.from_residual-in_err-check_edits.ensures.1 in
    rw (p.1, p.2) (fault-edits _ _ _ (sym c.in_ok-check_store.ensures) c.of_store-g.ensures.0 (sym c.in_ok-check_changes.ensures) c.in_err-check_edits.ensures (numbered _))

pub edited_edges-m-requires : goal.edited_edges-m-requires
edited_edges-m-requires c = record { sized = (tested-sized (tested-by (sym c.in_ok-check_store.ensures) c.of_store-g.ensures.0 c.of_store-g.ensures.1 (sym c.in_ok-check_changes.ensures) c.change_count-k.ensures.0 (sym c.in_ok-check_edits.ensures)), c.change_count-k.ensures.0, few_edges (tested-by (sym c.in_ok-check_store.ensures) c.of_store-g.ensures.0 c.of_store-g.ensures.1 (sym c.in_ok-check_changes.ensures) c.change_count-k.ensures.0 (sym c.in_ok-check_edits.ensures))); k_bound = enough-edges (tested-by (sym c.in_ok-check_store.ensures) c.of_store-g.ensures.0 c.of_store-g.ensures.1 (sym c.in_ok-check_changes.ensures) c.change_count-k.ensures.0 (sym c.in_ok-check_edits.ensures)) }

pub returns-then-m-gt-MAX_EDGES : goal.returns-then-m-gt-MAX_EDGES
returns-then-m-gt-MAX_EDGES c = fault-many _ _ _ (tested-by (sym c.in_ok-check_store.ensures) c.of_store-g.ensures.0 c.of_store-g.ensures.1 (sym c.in_ok-check_changes.ensures) c.change_count-k.ensures.0 (sym c.in_ok-check_edits.ensures)) (edges_are (tested-by (sym c.in_ok-check_store.ensures) c.of_store-g.ensures.0 c.of_store-g.ensures.1 (sym c.in_ok-check_changes.ensures) c.change_count-k.ensures.0 (sym c.in_ok-check_edits.ensures)) c.edited_edges-m.ensures) c.if-m-gt-MAX_EDGES.true

pub overflow_mul-n-2 : goal.overflow_mul-n-2
overflow_mul-n-2 c = omega (arith, store-counts _ (sym c.in_ok-check_store.ensures), c.if-m-gt-MAX_EDGES.false)

pub overflow_add-n-2 : goal.overflow_add-n-2
overflow_add-n-2 c = omega (arith, store-counts _ (sym c.in_ok-check_store.ensures), c.if-m-gt-MAX_EDGES.false)

pub overflow_mul-m : goal.overflow_mul-m
overflow_mul-m c = omega (arith, store-counts _ (sym c.in_ok-check_store.ensures), c.if-m-gt-MAX_EDGES.false)

pub overflow_add-n-3 : goal.overflow_add-n-3
overflow_add-n-3 c = omega (arith, store-counts _ (sym c.in_ok-check_store.ensures), c.if-m-gt-MAX_EDGES.false)

pub returns-then-room-n : goal.returns-then-room-n
returns-then-room-n c = fault-room _ _ _ (tested-by (sym c.in_ok-check_store.ensures) c.of_store-g.ensures.0 c.of_store-g.ensures.1 (sym c.in_ok-check_changes.ensures) c.change_count-k.ensures.0 (sym c.in_ok-check_edits.ensures)) (edges_are (tested-by (sym c.in_ok-check_store.ensures) c.of_store-g.ensures.0 c.of_store-g.ensures.1 (sym c.in_ok-check_changes.ensures) c.change_count-k.ensures.0 (sym c.in_ok-check_edits.ensures)) c.edited_edges-m.ensures) (omega arith) (omega arith)

pub returns : goal.returns
returns c = fault-none _ _ _ (tested-by (sym c.in_ok-check_store.ensures) c.of_store-g.ensures.0 c.of_store-g.ensures.1 (sym c.in_ok-check_changes.ensures) c.change_count-k.ensures.0 (sym c.in_ok-check_edits.ensures)) (edges_are (tested-by (sym c.in_ok-check_store.ensures) c.of_store-g.ensures.0 c.of_store-g.ensures.1 (sym c.in_ok-check_changes.ensures) c.change_count-k.ensures.0 (sym c.in_ok-check_edits.ensures)) c.edited_edges-m.ensures) (omega arith) (omega arith)
