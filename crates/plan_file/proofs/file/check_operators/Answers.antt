-- `plan_file::file::check_operators` meets its contract: the loop has passed i operators without fault. Assumes nothing.
use mathlib.Core.Path.{◌≡◌, sym, ◌∙◌}
use native.Mathlib.Omega.{arith}
use Rattle.std.proofs.lemmas.Result.{err_from_is_err_and}
use Rattle.refusals.proofs.Laws.{numbered}
use Rattle.plan_file.specs.Inner.Parts.{of_size}
use Rattle.plan_file.proofs.Places.{operator-there, passed_none, passed-more, passed-stop, passed-end}
use Rattle.plan_file.proofs.file.check_operators.Goals as goal

pub loop-i-init : goal.loop-i-init
loop-i-init c = (omega arith, passed_none _ _ c.requires.1)

pub check_operator-requires : goal.check_operator-requires
check_operator-requires c = omega (arith, c.loop-i.invariant.1.near)

pub returns-in_err-check_operator : goal.returns-in_err-check_operator
returns-in_err-check_operator c =
    let p = err_from_is_err_and c.from_residual.result c.from_residual.ensures.1 in
    let h = c.in_err-check_operator.ensures in
    rw (p.1, p.2) (h ∙ sym (passed-stop _ _ _ _ _ c.loop-i.invariant.1 (omega arith) (λ z. numbered _ (h ∙ z))))

pub next_place-at-requires : goal.next_place-at-requires
next_place-at-requires c = (
  omega (arith, c.loop-i.invariant.1.near),
  omega (arith, operator-there (of_size c.args.n c.args.m) c.args.file.now c.loop-i.at (sym c.in_ok-check_operator.ensures)),
)

pub loop-i-preserved : goal.loop-i-preserved
loop-i-preserved c = (omega arith, passed-more _ _ _ _ _ c.loop-i.invariant.1 (sym c.in_ok-check_operator.ensures) c.next_place-at.ensures.is)

pub check_end-requires : goal.check_end-requires
check_end-requires c = (omega (arith, c.loop-i.invariant.1.near), c.loop-i.invariant.1.there)

pub returns : goal.returns
returns c = let all : c.loop-i._i ≡ c.args.count = omega arith in
    c.check_end.ensures ∙ sym (passed-end _ _ _ _ (rw all at c.loop-i.invariant.1))
