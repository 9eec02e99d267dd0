-- `plan_file::rules::check_rules` meets its contract: what is left of the rules is over the pile that the first i operators leave.
-- Assumes nothing.
use mathlib.Core.Path.{◌≡◌, sym, ◌∙◌}
use mathlib.Core.Bool.{true}
use native.Mathlib.Omega.{arith}
use Rattle.std.proofs.lemmas.Result.{err_from_is_err_and}
use Rattle.refusals.proofs.Laws.{numbered}
use Rattle.query.specs.Inner.Struct.{query_in}
use Rattle.plan.specs.Inner.Struct.{operator_is}
use Rattle.plan.specs.Inner.Pile.{named as has}
use Rattle.plan_file.proofs.Turns.{named-at, rules-stop, rules-pass, rules-done}
use Rattle.plan_file.proofs.rules.check_rules.Goals as goal

pub none-pile-requires : goal.none-pile-requires
none-pile-requires c = tt

pub loop-i-init : goal.loop-i-init
loop-i-init c = (omega arith, omega (arith, c.none-pile.ensures.0), rw c.none-pile.ensures.1)

pub operator-o-requires : goal.operator-o-requires
operator-o-requires c = omega (arith, c.loop-i-test.true, c.requires.1)

pub check_rule-requires : goal.check_rule-requires
check_rule-requires c = let named : has (query_in c.args.q) (operator_is c.operator-o.result) ≡ true = named-at (query_in c.args.q) _ c.loop-i.i _ c.requires.2 c.loop-i-test.true c.operator-o.ensures in
    (c.requires.0, named, omega (arith, c.loop-i.invariant.1, c.loop-i-test.true, c.requires.1))

pub returns-in_err-check_rule : goal.returns-in_err-check_rule
returns-in_err-check_rule c =
    let p = err_from_is_err_and c.from_residual.result c.from_residual.ensures.1 in
    let h = c.in_err-check_rule.ensures in
    rw (p.1, p.2) (h ∙ sym (c.loop-i.invariant.2 ∙ rules-stop _ _ _ c.loop-i.i _ c.loop-i-test.true c.operator-o.ensures (λ z. numbered _ (h ∙ z))))

pub covered-pile-requires : goal.covered-pile-requires
covered-pile-requires c = let named : has (query_in c.args.q) (operator_is c.operator-o.result) ≡ true = named-at (query_in c.args.q) _ c.loop-i.i _ c.requires.2 c.loop-i-test.true c.operator-o.ensures in
    (c.requires.0, named, omega (arith, c.loop-i.invariant.1, c.loop-i-test.true, c.requires.1), sym c.in_ok-check_rule.ensures)

pub loop-i-preserved : goal.loop-i-preserved
loop-i-preserved c = (
  omega (arith, c.loop-i-test.true),
  omega (arith, c.loop-i.invariant.1, c.covered-pile.ensures.0),
  c.loop-i.invariant.2
      ∙ rules-pass _ _ _ c.loop-i.i _ c.loop-i-test.true c.operator-o.ensures (sym c.in_ok-check_rule.ensures)
      ∙ rw c.covered-pile.ensures.1,
)

pub check_end-requires : goal.check_end-requires
check_end-requires c = (c.requires.0, omega (arith, c.loop-i.invariant.0, c.loop-i.invariant.1, c.requires.1))

pub returns : goal.returns
returns c = c.check_end.ensures ∙ sym (c.loop-i.invariant.2 ∙ rules-done _ _ _ c.loop-i.i c.loop-i-test.false)
