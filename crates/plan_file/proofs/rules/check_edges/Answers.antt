-- `plan_file::rules::check_edges` meets its contract: the loop has lost none of the first i edges. Assumes nothing.
use mathlib.Core.Path.{sym, ◌∙◌}
use native.Mathlib.Nat.{not-suc-le-zero, lt_of_lt_of_le}
use native.Mathlib.Omega.{arith}
use borrow.Author.Count.{below_more}
use Rattle.lists.proofs.Tests.{not-true, not-false}
use Rattle.query.specs.Inner.Mask.{in_mask}
use Rattle.plan.specs.Inner.Pile.{kept}
use Rattle.plan.proofs.Sets.{edge-source, edge-target, edges-pass, edge-fails}
use Rattle.plan_file.proofs.rules.check_edges.Goals as goal

pub loop-i-init : goal.loop-i-init
loop-i-init c = (omega arith, λ j h. absurd (not-suc-le-zero h))

pub edge-requires : goal.edge-requires
edge-requires c = (c.loop-i-test.true, c.requires.edges)

pub lost-requires : goal.lost-requires
lost-requires c = rw c.edge.ensures (edge-source _ c.requires _ c.loop-i-test.true, edge-target _ c.requires _ c.loop-i-test.true)

pub returns-then-lost : goal.returns-then-lost
returns-then-lost c = let a = c.args in
    rw (edge-fails a.q (kept (in_mask a.b) (in_mask a.p)) c.loop-i.i c.loop-i-test.true (not-true _ (sym (rw c.edge.ensures at c.lost.ensures) ∙ c.if-lost.true)))

pub loop-i-preserved : goal.loop-i-preserved
loop-i-preserved c = (
  omega (arith, c.loop-i-test.true),
  below_more _ c.loop-i.i c.loop-i.invariant.1 (not-false _ (sym (rw c.edge.ensures at c.lost.ensures) ∙ c.if-lost.false)),
)

pub returns : goal.returns
returns c = let a = c.args in
    rw (edges-pass a.q (kept (in_mask a.b) (in_mask a.p)) (λ j h. c.loop-i.invariant.1 j (lt_of_lt_of_le h c.loop-i-test.false)))
