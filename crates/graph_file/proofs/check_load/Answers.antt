-- `graph_file::check_load` meets its contract: the store's size counts where the file has no fault. Assumes nothing.
use mathlib.Core.Path.{sym, ◌∙◌}
use native.Mathlib.Omega.{arith}
use Rattle.std.proofs.lemmas.Result.{err_from_is_err_and}
use Rattle.refusals.proofs.Laws.{numbered}
use Rattle.graph.proofs.FileGraph.{accepted}
use Rattle.graph_file.proofs.Refused.{load-file, load-small, load-holds}
use Rattle.graph_file.proofs.check_load.Goals as goal

pub returns-in_err-check_graph : goal.returns-in_err-check_graph
returns-in_err-check_graph c =
    let p = err_from_is_err_and c.from_residual.result c.from_residual.ensures.1 in
    let h = c.in_err-check_graph.ensures in
    rw (p.1, p.2) (h ∙ sym (load-file _ _ (λ z. numbered _ (h ∙ z))))

pub of-requires : goal.of-requires
of-requires c = omega (arith, (accepted _ (sym c.in_ok-check_graph.ensures)).sized)

pub returns-then-room-words : goal.returns-then-room-words
returns-then-room-words c = sym (load-small _ _ (sym c.in_ok-check_graph.ensures) (omega arith))

pub returns : goal.returns
returns c = sym (load-holds _ _ (sym c.in_ok-check_graph.ensures) (omega arith))
