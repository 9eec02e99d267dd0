-- `graph_file::check_graph` meets its contract: the edges' faults count where the length has none. Assumes nothing.
use mathlib.Core.Path.{sym, ◌∙◌}
use native.Mathlib.Omega.{arith}
use Rattle.std.proofs.lemmas.Result.{err_from_is_err_and}
use Rattle.refusals.proofs.Laws.{numbered}
use Rattle.graph_file.proofs.Refused.{graph-length, graph-edges, length-there}
use Rattle.graph_file.proofs.check_graph.Goals as goal

pub returns-in_err-check_length : goal.returns-in_err-check_length
returns-in_err-check_length c =
    let p = err_from_is_err_and c.from_residual.result c.from_residual.ensures.1 in
    let h = c.in_err-check_length.ensures in
    rw (p.1, p.2) (h ∙ sym (graph-length _ (λ z. numbered _ (h ∙ z))))

pub of-requires : goal.of-requires
of-requires c = omega (arith, length-there _ (sym c.in_ok-check_length.ensures))

pub returns : goal.returns
returns c = rw c.of.ensures.0 at c.check_edges.ensures ∙ sym (graph-edges _ (sym c.in_ok-check_length.ensures))
