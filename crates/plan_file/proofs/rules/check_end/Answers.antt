-- `plan_file::rules::check_end` meets its contract, by the depth of the pile. Assumes nothing.
-- Over one result: it covers every vertex where the mask of those that it lacks is 0.
use mathlib.Core.Path.{◌≡◌, sym, ◌∙◌, ap, ap₂}
use mathlib.Core.Bool.{Bool, not, ◌&&◌}
use Prim.Native.Nat.{ℕ}
use native.Mathlib.Omega.{arith}
use lib.Dec.{eqb}
use lib.ListN.{get_or}
use borrow.Author.Tests.{ne_eqb}
use Rattle.lists.specs.Refusal.{refuse}
use Rattle.query.specs.Inner.Struct.{query_in}
use Rattle.query.specs.Inner.Mask.{in_mask}
use Rattle.query.proofs.Masks.{mask-all}
use Rattle.plan.specs.Check.{end_fault}
use Rattle.plan_file.specs.Inner.Pile.{masks_in, sets_in}
use Rattle.plan_file.proofs.Piles.{depth_is}
use Rattle.plan.proofs.Piles.{end_none, end-one, end-many}
use borrow.Author.Rules.{rules}
use Rattle.plan_file.proofs.rules.check_end.Goals as goal

pub returns-then-depth-lt1 : goal.returns-then-depth-lt1
returns-then-depth-lt1 c = let a = c.args in
    sym (end_none (query_in a.q) (masks_in a.pile) (omega (arith, depth_is a.pile, c.if-depth-lt1.true)))

pub returns-then-depth-gt1 : goal.returns-then-depth-gt1
returns-then-depth-gt1 c = let a = c.args in
    sym (end-many (query_in a.q) (masks_in a.pile) (omega (arith, depth_is a.pile, c.if-depth-gt1.true)))

pub returns-then-minus-ne0 : goal.returns-then-minus-ne0
unfolding query_in
returns-then-minus-ne0 c = let settled : let a = c.args in
    end_fault (query_in a.q) (sets_in a.pile) ≡ refuse 18 (not (eqb c.minus.result 0)) = let a = c.args in
    end-one (query_in a.q) (masks_in a.pile) (omega (arith, depth_is a.pile))
    ∙ ap (λ (b : Bool). refuse 18 (not b))
    (mask-all 32 c.minus.result a.q.vertices (in_mask (get_or (masks_in a.pile) 0 0)) (search rules)
    (λ w. c.minus.ensures w ∙ ap₂ (λ (x y : Bool). x && not y) (c.below.ensures w) (ap (λ (t : ℕ). in_mask t w) c.below_top.ensures))) in
    sym (settled ∙ rw (ne_eqb _ 0 c.if-minus-ne0.true))

pub returns : goal.returns
unfolding query_in
returns c = let settled : let a = c.args in
    end_fault (query_in a.q) (sets_in a.pile) ≡ refuse 18 (not (eqb c.minus.result 0)) = let a = c.args in
    end-one (query_in a.q) (masks_in a.pile) (omega (arith, depth_is a.pile))
    ∙ ap (λ (b : Bool). refuse 18 (not b))
    (mask-all 32 c.minus.result a.q.vertices (in_mask (get_or (masks_in a.pile) 0 0)) (search rules)
    (λ w. c.minus.ensures w ∙ ap₂ (λ (x y : Bool). x && not y) (c.below.ensures w) (ap (λ (t : ℕ). in_mask t w) c.below_top.ensures))) in
    sym (settled ∙ rw c.if-minus-ne0.false)
