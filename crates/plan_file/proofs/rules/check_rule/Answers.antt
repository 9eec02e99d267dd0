-- `plan_file::rules::check_rule` meets its contract, by the operator and the depth of the pile. Assumes nothing.
use mathlib.Core.Path.{sym, ◌∙◌}
use native.Mathlib.Omega.{arith}
use Rattle.plan.specs.Check.{rule_fault}
use Rattle.plan_file.specs.Inner.Pile.{masks_in}
use Rattle.plan.proofs.Sets.{named-vertex}
use Rattle.plan_file.proofs.Piles.{depth_is}
use Rattle.plan.proofs.Piles.{extend-none, extend-some, join-few, join-two}
use Rattle.plan_file.proofs.rules.check_rule.Goals as goal

pub returns-then-pile-lt1 : goal.returns-then-pile-lt1
returns-then-pile-lt1 c = let a = c.args in
    rw c.in-Extend.is (sym (extend-none _ _ (masks_in a.pile) (omega (arith, depth_is a.pile, c.if-pile-lt1.true))))

pub below_top-requires : goal.below_top-requires
below_top-requires c = (c.if-pile-lt1.false, c.requires.2)

pub check_extend-requires : goal.check_extend-requires
check_extend-requires c = (c.requires.0, named-vertex _ c.requires.0 _ (rw c.in-Extend.is at c.requires.1))

pub returns-then-pile-lt2 : goal.returns-then-pile-lt2
returns-then-pile-lt2 c = let a = c.args in
    rw c.in-Join.is (sym (join-few _ (masks_in a.pile) (omega (arith, depth_is a.pile, c.if-pile-lt2.true))))

pub below_top-requires-in-Join : goal.below_top-requires-in-Join
below_top-requires-in-Join c = (c.if-pile-lt2.false, c.requires.2)

pub below_top-requires-in-Join-2 : goal.below_top-requires-in-Join-2
below_top-requires-in-Join-2 c = (omega (arith, c.if-pile-lt2.false), c.requires.2)

pub check_join-requires : goal.check_join-requires
check_join-requires c = c.requires.0

pub returns-in-Scan : goal.returns-in-Scan
unfolding rule_fault
returns-in-Scan c = rw c.in-Scan.is

pub returns-else-pile-lt1 : goal.returns-else-pile-lt1
returns-else-pile-lt1 c = let a = c.args in
    rw c.in-Extend.is (c.check_extend.ensures ∙ rw c.below_top.ensures (sym (extend-some _ _ (masks_in a.pile) (omega (arith, depth_is a.pile, c.if-pile-lt1.false)))))

pub returns-else-pile-lt2 : goal.returns-else-pile-lt2
returns-else-pile-lt2 c = let a = c.args in
    rw c.in-Join.is
    (c.check_join.ensures
    ∙ rw (c.below_top-in-Join-2.ensures, c.below_top-in-Join.ensures) (sym (join-two _ (masks_in a.pile) (omega (arith, depth_is a.pile, c.if-pile-lt2.false)))))
