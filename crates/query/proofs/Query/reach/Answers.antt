-- `query::Query::reach` meets its contract: after w vertices, the set has grown by those below w. Assumes nothing.
use mathlib.Core.Path.{◌≡◌, refl, ◌∙◌, ap}
use mathlib.Core.Bool.{not}
use Prim.Native.Nat.{ℕ}
use native.Mathlib.Omega.{arith}
use borrow.Author.Rules.{rules}
use borrow.Author.Tests.{eq-eqb, ne_eqb}
use Rattle.query.specs.Inner.Struct.{query_in}
use Rattle.query.specs.Inner.Mask.{in_mask, with_neighbours}
use Rattle.query.proofs.Steps.{grown-none, grown-more, grown-same}
use Rattle.query.proofs.Touch.{touches-mask}
use Rattle.query.proofs.Query.reach.Goals as goal
use Rattle.query.proofs.Query.reach.Goals.{then-adjacent-set-ne0, else-adjacent-set-ne0}

pub loop-w-init : goal.loop-w-init
loop-w-init c = (omega arith, grown-none (query_in c.args.self) (in_mask c.args.set) c.args.set (λ w. refl))

pub adjacent-requires : goal.adjacent-requires
adjacent-requires c = c.requires

pub loop-w-preserved : goal.loop-w-preserved
loop-w-preserved c = let a = c.args in
    let w = c.loop-w.w in
    let touched = touches-mask 32 _ a.set (query_in a.self) w (in_mask a.set) (search rules) c.adjacent.ensures (λ u. refl) in (
      omega arith,
      elim c.if-adjacent-set-ne0.branch [
        | then-adjacent-set-ne0 b ↦ rw b.next-is
            (grown-more (query_in a.self) (in_mask a.set) w _ _ c.loop-w.invariant.1 b.only-next.ensures (touched ∙ ap not (ne_eqb _ 0 b.if-adjacent-set-ne0.true)))
        | else-adjacent-set-ne0 b ↦ rw b.next-is
            (grown-same (query_in a.self) (in_mask a.set) w _ c.loop-w.invariant.1 (touched ∙ ap not (eq-eqb _ 0 b.if-adjacent-set-ne0.false)))
      ],
    )

pub returns : goal.returns
returns c u = let a = c.args in
    let all : c.loop-w.w ≡ a.self.vertices = omega arith in
    c.loop-w.invariant.1 u ∙ ap (λ (n : ℕ). with_neighbours (query_in a.self) (in_mask a.set) n u) all
