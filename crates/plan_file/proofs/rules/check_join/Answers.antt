-- `plan_file::rules::check_join` meets its contract: each of its tests is one of the join rules, as masks. Assumes nothing.
-- Some vertex passes a test: the mask of the test's vertices meets that of all.
use mathlib.Core.Path.{◌≡◌}
use mathlib.Core.Bool.{not, ◌&&◌}
use Prim.Native.Nat.{ℕ, ◌^◌, ◌<◌}
use native.Mathlib.Omega.{arith}
use lib.Dec.{eqb, ltb}
use lib.Bits.{bit_and}
use borrow.Author.Rules.{rules}
use borrow.Author.Tests.{ne_eqb}
use Rattle.lists.specs.Lists.{range, any}
use Rattle.query.specs.declared.Query.{Query as QueryStruct}
use Rattle.query.specs.Inner.Struct.{query_in}
use Rattle.query.specs.Inner.Mask.{in_mask, MaskOf}
use Rattle.query.proofs.Masks.{in_and}
use Rattle.plan.specs.Check.{joinable}
use Rattle.plan.proofs.Sets.{any-mask}
use Rattle.plan_file.proofs.rules.check_join.Goals as goal
use Rattle.plan_file.proofs.rules.check_join.Goals.{then-all-b-eq0-via-then-all-b-eq0, then-all-b-eq0-via-else-all-b-eq0+then-all-minus-eq0, then-all-b-eq0-via-else-all-b-eq0+else-all-minus-eq0+then-all-minus-eq0-2}

-- The rules of a vertex that both have, or that one has and the other lacks, by the mask of all.
module _ (q : QueryStruct) (all b p : ℕ) (few : all < 2 ^ 32) (below : MaskOf all (λ (w : ℕ). ltb w q.vertices)) where
  shared : any (λ (w : ℕ). in_mask b w && in_mask p w) (range (query_in q).vertices) ≡ not (eqb (bit_and all (bit_and b p)) 0)
  unfolding query_in
  shared = any-mask 32 all _ q.vertices (λ (w : ℕ). in_mask b w && in_mask p w) few below (in_and b p)

  own : (x y m : ℕ) → MaskOf m (λ (w : ℕ). in_mask x w && not (in_mask y w))
      → any (λ (w : ℕ). in_mask x w && not (in_mask y w)) (range (query_in q).vertices) ≡ not (eqb (bit_and all m) 0)
  unfolding query_in
  own x y m h = any-mask 32 all m q.vertices (λ (w : ℕ). in_mask x w && not (in_mask y w)) few below h

pub below-all-requires : goal.below-all-requires
below-all-requires c = omega (arith, c.requires.vertices)

pub returns-then-all-b-eq0 : goal.returns-then-all-b-eq0
unfolding joinable
returns-then-all-b-eq0 c =
    let a = c.args in
    let few : c.below-all.result < 2 ^ 32 = search rules in
    let met = shared a.q c.below-all.result a.b a.p few c.below-all.ensures in
    let of_build = own a.q c.below-all.result a.b a.p few c.below-all.ensures a.b a.p in
    let of_probe = own a.q c.below-all.result a.b a.p few c.below-all.ensures a.p a.b in
    elim c.then-all-b-eq0.branch [
      | then-all-b-eq0-via-then-all-b-eq0 w ↦ rw (met, w.if-all-b-eq0.true)
      | then-all-b-eq0-via-else-all-b-eq0+then-all-minus-eq0 w ↦ rw (met, ne_eqb _ 0 w.if-all-b-eq0.false, of_build _ w.minus.ensures, w.if-all-minus-eq0.true)
      | then-all-b-eq0-via-else-all-b-eq0+else-all-minus-eq0+then-all-minus-eq0-2 w ↦ rw (
        met,
        ne_eqb _ 0 w.if-all-b-eq0.false,
        of_build _ w.minus.ensures,
        ne_eqb _ 0 w.if-all-minus-eq0.false,
        of_probe _ w.minus-else-all-minus-eq0.ensures,
        w.if-all-minus-eq0-2.true,
      )
    ]

pub minus-requires : goal.minus-requires
minus-requires c = tt

pub returns : goal.returns
unfolding joinable
returns c =
    let a = c.args in
    let few : c.below-all.result < 2 ^ 32 = search rules in
    let met = shared a.q c.below-all.result a.b a.p few c.below-all.ensures in
    let of_build = own a.q c.below-all.result a.b a.p few c.below-all.ensures a.b a.p in
    let of_probe = own a.q c.below-all.result a.b a.p few c.below-all.ensures a.p a.b in
    rw (
      met,
      ne_eqb _ 0 c.if-all-b-eq0.false,
      of_build _ c.minus.ensures,
      ne_eqb _ 0 c.if-all-minus-eq0.false,
      of_probe _ c.minus-else-all-minus-eq0.ensures,
      ne_eqb _ 0 c.if-all-minus-eq0-2.false,
    ) c.check_edges.ensures
