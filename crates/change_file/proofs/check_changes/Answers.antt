-- `change_file::check_changes` meets its contract: the edges' fault counts where the length has none. Assumes nothing.
use mathlib.Core.Path.{sym, ◌∙◌}
use native.Mathlib.Omega.{arith}
use Rattle.std.proofs.lemmas.Result.{err_from_is_err_and}
use Rattle.refusals.proofs.Laws.{numbered}
use Rattle.change_file.proofs.Reading.{length-sized, fault-length, fault-edges}
use Rattle.change_file.proofs.check_changes.Goals as goal

pub returns-in_err-check_length : goal.returns-in_err-check_length
returns-in_err-check_length c =
    let p = err_from_is_err_and c.from_residual.result c.from_residual.ensures.1 in
    let h = c.in_err-check_length.ensures in
    rw (p.1, p.2) (h ∙ sym (fault-length _ _ (λ z. numbered _ (h ∙ z))))

pub change_count-requires : goal.change_count-requires
change_count-requires c = omega (arith, (length-sized _ (sym c.in_ok-check_length.ensures)).there)

pub check_edges-requires : goal.check_edges-requires
check_edges-requires c = (length-sized _ (sym c.in_ok-check_length.ensures), c.change_count.ensures.0)

pub returns : goal.returns
returns c = c.check_edges.ensures
    ∙ rw c.change_count.ensures.0 (sym (fault-edges _ _ (sym c.in_ok-check_length.ensures)))
