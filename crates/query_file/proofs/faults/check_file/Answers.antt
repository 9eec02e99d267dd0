-- `query_file::faults::check_file` meets its contract: the faults stand in the definition's order. Assumes nothing.
-- The number of `check_limits` is the definition's 8.
use mathlib.Core.Path.{◌≡◌, sym, ◌∙◌, ap, ap₂}
use mathlib.Core.Bool.{false}
use mathlib.Core.List.{List}
use Prim.Native.Nat.{ℕ}
use native.Mathlib.Omega.{arith}
use Rattle.std.proofs.lemmas.Result.{err_from_is_err_and}
use Rattle.refusals.proofs.Laws.{numbered}
use Rattle.lists.proofs.Faults.{refuse-zero}
use Rattle.query.specs.File.{vertex_count, edge_count, pair_count, outside_limits}
use Rattle.query_file.specs.Inner.Parts.{limits_fault, sizes_fault, query_days_fault, query_edges_fault, query_pairs_fault}
use Rattle.query_file.proofs.FileLaws.{short-first, limits-first, size-first, days-first, edges-first, pairs-last, sizes-bits}
use Rattle.query_file.proofs.faults.check_file.Goals as goal

-- What the tests of a part say, where n and m are the file's counts.
module _ (s : List ℕ) {n : ℕ} (vertices : n ≡ vertex_count s) where
  in-limits : {m : ℕ} → m ≡ edge_count s → 0 ≡ limits_fault n m → outside_limits s ≡ false
  in-limits edges e = refuse-zero 7 _ (sym (e ∙ ap₂ limits_fault vertices edges))

pub returns-then-file-lt2 : goal.returns-then-file-lt2
returns-then-file-lt2 c = sym (short-first c.args.file.now c.if-file-lt2.true)

pub returns-in_err-check_limits : goal.returns-in_err-check_limits
returns-in_err-check_limits c =
    let p = err_from_is_err_and c.from_residual.result c.from_residual.ensures.1 in
    let h = c.in_err-check_limits.ensures ∙ ap₂ limits_fault c.vertex_count.ensures c.edge_count.ensures in
    rw (p.1, p.2) (h ∙ sym (limits-first _ c.if-file-lt2.false (λ z. numbered _ (h ∙ z))))

pub of-file-requires : goal.of-file-requires
of-file-requires c = (c.if-file-lt2.false, in-limits c.args.file.now c.vertex_count.ensures c.edge_count.ensures c.in_ok-check_limits.ensures)

pub returns-in_err-check_sizes : goal.returns-in_err-check_sizes
returns-in_err-check_sizes c =
    let p = err_from_is_err_and c.from_residual-in_err-check_sizes.result c.from_residual-in_err-check_sizes.ensures.1 in
    let within = in-limits c.args.file.now c.vertex_count.ensures c.edge_count.ensures c.in_ok-check_limits.ensures in
    let h = c.in_err-check_sizes.ensures ∙ ap sizes_fault c.of-file.ensures.0 in
    rw (p.1, p.2) (h ∙ sym (size-first _ c.if-file-lt2.false within (λ z. numbered _ (h ∙ z))))

pub check_days-requires : goal.check_days-requires
check_days-requires c = omega (arith, sizes-bits _ (sym c.in_ok-check_sizes.ensures))

pub returns-in_err-check_days : goal.returns-in_err-check_days
returns-in_err-check_days c =
    let p = err_from_is_err_and c.from_residual-in_err-check_days.result c.from_residual-in_err-check_days.ensures.1 in
    let within = in-limits c.args.file.now c.vertex_count.ensures c.edge_count.ensures c.in_ok-check_limits.ensures in
    let sized = sym (c.in_ok-check_sizes.ensures ∙ ap sizes_fault c.of-file.ensures.0) in
    let h = c.in_err-check_days.ensures ∙ ap₂ query_days_fault c.of-file.ensures.0 c.of-file.ensures.1 in
    rw (p.1, p.2) (h ∙ sym (days-first _ c.if-file-lt2.false within sized (λ z. numbered _ (h ∙ z))))

pub check_edges-requires : goal.check_edges-requires
check_edges-requires c = omega (arith, sizes-bits _ (sym c.in_ok-check_sizes.ensures))

pub returns-in_err-check_edges : goal.returns-in_err-check_edges
returns-in_err-check_edges c =
    let p = err_from_is_err_and c.from_residual-in_err-check_edges.result c.from_residual-in_err-check_edges.ensures.1 in
    let within = in-limits c.args.file.now c.vertex_count.ensures c.edge_count.ensures c.in_ok-check_limits.ensures in
    let sized = sym (c.in_ok-check_sizes.ensures ∙ ap sizes_fault c.of-file.ensures.0) in
    let dated = sym (c.in_ok-check_days.ensures ∙ ap₂ query_days_fault c.of-file.ensures.0 c.of-file.ensures.1) in
    let h = c.in_err-check_edges.ensures ∙ ap₂ query_edges_fault c.of-file.ensures.0 c.of-file.ensures.2 in
    rw (p.1, p.2) (h ∙ sym (edges-first _ c.if-file-lt2.false within sized dated (λ z. numbered _ (h ∙ z))))

pub check_pairs-requires : goal.check_pairs-requires
check_pairs-requires c = sizes-bits _ (sym c.in_ok-check_sizes.ensures)

pub returns : goal.returns
returns c =
    let within = in-limits c.args.file.now c.vertex_count.ensures c.edge_count.ensures c.in_ok-check_limits.ensures in
    let sized = sym (c.in_ok-check_sizes.ensures ∙ ap sizes_fault c.of-file.ensures.0) in
    let dated = sym (c.in_ok-check_days.ensures ∙ ap₂ query_days_fault c.of-file.ensures.0 c.of-file.ensures.1) in
    let ended = sym (c.in_ok-check_edges.ensures ∙ ap₂ query_edges_fault c.of-file.ensures.0 c.of-file.ensures.2) in
    c.check_pairs.ensures ∙ ap (λ (s : List ℕ). query_pairs_fault s (pair_count s)) c.of-file.ensures.0
    ∙ sym (pairs-last _ c.if-file-lt2.false within sized dated ended)
