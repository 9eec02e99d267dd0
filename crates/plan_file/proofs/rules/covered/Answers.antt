-- `plan_file::rules::covered` meets its contract, by the operator. Assumes nothing.
-- The operator breaks no rule: an extend has a result to extend, a join has two.
use mathlib.Core.List.{◌∷◌, map}
use lib.ListN.{length, drop}
use Rattle.query.specs.Query.{VertexSet}
use Rattle.query.specs.Inner.Mask.{in_mask}
use mathlib.Core.Path.{sym, ◌∙◌, ap, ap₂, fun_ext}
use Prim.Native.Nat.{ℕ, ◌<◌}
use native.Mathlib.Omega.{arith}
use Rattle.plan.specs.Plan.{plus, union}
use Rattle.plan.specs.Check.{covered}
use Rattle.plan_file.specs.Inner.Pile.{masks_in, sets_in}
use Rattle.plan.proofs.Sets.{or_set, plus-set, edge-source, edge-target, named-vertex, named-edge}
use Rattle.plan_file.proofs.Piles.{depth_is}
use Rattle.plan.proofs.Piles.{extend-asks, extend-covers, join-asks, join-covers}
use Rattle.plan_file.proofs.rules.covered.Goals as goal

pub edge-requires : goal.edge-requires
edge-requires c = (named-edge _ _ (rw c.in-Scan.is at c.requires.1), c.requires.0.edges)

pub ends-requires : goal.ends-requires
ends-requires c = let named = named-edge _ _ (rw c.in-Scan.is at c.requires.1) in
    rw c.edge.ensures (edge-source _ c.requires.0 _ named, edge-target _ c.requires.0 _ named)

pub only-requires : goal.only-requires
only-requires c = named-vertex _ c.requires.0 _ (rw c.in-Extend.is at c.requires.1)

pub below_top-requires : goal.below_top-requires
below_top-requires c = let one-there : 0 < length (masks_in c.args.pile) = extend-asks _ _ (masks_in c.args.pile) (rw c.in-Extend.is at c.requires.3) in
    omega (arith, one-there, depth_is c.args.pile, c.requires.2)

pub put-requires-in-Extend : goal.put-requires-in-Extend
put-requires-in-Extend c = let one-there : 0 < length (masks_in c.args.pile) = extend-asks _ _ (masks_in c.args.pile) (rw c.in-Extend.is at c.requires.3) in
    omega (arith, one-there, depth_is c.args.pile, c.requires.2)

pub below_top-requires-in-Join : goal.below_top-requires-in-Join
below_top-requires-in-Join c = let two-there : 1 < length (masks_in c.args.pile) = join-asks _ (masks_in c.args.pile) (rw c.in-Join.is at c.requires.3) in
    omega (arith, two-there, depth_is c.args.pile, c.requires.2)

pub below_top-requires-in-Join-2 : goal.below_top-requires-in-Join-2
below_top-requires-in-Join-2 c = let two-there : 1 < length (masks_in c.args.pile) = join-asks _ (masks_in c.args.pile) (rw c.in-Join.is at c.requires.3) in
    omega (arith, two-there, depth_is c.args.pile, c.requires.2)

pub put-requires-in-Join : goal.put-requires-in-Join
put-requires-in-Join c = let two-there : 1 < length (masks_in c.args.pile) = join-asks _ (masks_in c.args.pile) (rw c.in-Join.is at c.requires.3) in
    omega (arith, two-there, depth_is c.args.pile, c.requires.2)

pub returns-in-Scan : goal.returns-in-Scan
unfolding covered
returns-in-Scan c = (
  omega (arith, c.put.ensures.0),
  rw c.in-Scan.is
      (ap (map in_mask) c.put.ensures.1
      ∙ ap (λ (S : VertexSet). S ∷ sets_in c.args.pile) (fun_ext (rw c.edge.ensures at c.ends.ensures))),
)

pub returns-in-Extend : goal.returns-in-Extend
returns-in-Extend c = let one-there : 0 < length (masks_in c.args.pile) = extend-asks _ _ (masks_in c.args.pile) (rw c.in-Extend.is at c.requires.3) in
    let ms = masks_in c.args.pile in (
      omega (arith, c.put-in-Extend.ensures.0),
      rw c.in-Extend.is
          (ap (map in_mask) c.put-in-Extend.ensures.1
          ∙ ap (λ (S : VertexSet). S ∷ map in_mask (drop 1 ms)) (plus-set _ _ _ c.only.ensures ∙ ap (λ (m : ℕ). plus c.in-Extend.v (in_mask m)) c.below_top.ensures)
          ∙ sym (extend-covers _ _ ms (one-there))),
    )

pub returns-in-Join : goal.returns-in-Join
returns-in-Join c = let two-there : 1 < length (masks_in c.args.pile) = join-asks _ (masks_in c.args.pile) (rw c.in-Join.is at c.requires.3) in
    let ms = masks_in c.args.pile in (
      omega (arith, c.put-in-Join.ensures.0),
      rw c.in-Join.is
          (ap (map in_mask) c.put-in-Join.ensures.1
          ∙ ap (λ (S : VertexSet). S ∷ map in_mask (drop 2 ms)) (or_set _ _ ∙ ap₂ union (ap in_mask c.below_top-in-Join.ensures) (ap in_mask c.below_top-in-Join-2.ensures))
          ∙ sym (join-covers _ ms (two-there))),
    )
