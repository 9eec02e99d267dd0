-- The plan of an ordering as the code has it, and that it is accepted. Assumes nothing.
use mathlib.Core.Path.{◌≡◌, refl, sym, ◌∙◌, ap, ap₂, subst}
use mathlib.Core.Bool.{Bool, true}
use mathlib.Core.List.{List, [], ◌∷◌, ◌++◌, map}
use Prim.Native.Nat.{ℕ, zero, suc, ◌+◌, ◌-◌, ◌≤◌, ◌<◌}
use native.Mathlib.Omega.{arith}
use lib.Dec.{eqb}
use lib.ListN.{length, get_or, take, drop, replicate, length-map, length-drop, get_or-append}
use lib.Seq.{length-take-le}
use borrow.Author.Tests.{eqb-true}
use Rattle.lists.specs.Lists.{bit, range, all, count_if, same}
use Rattle.lists.proofs.Tests.{and_l, and_r}
use Rattle.lists.proofs.Bits.{bit-some}
use Rattle.lists.proofs.Same.{same_refl}
use Rattle.lists.proofs.All.{all-mem, all_get_d, all-follows}
use Rattle.lists.proofs.Count.{mem-count}
use Rattle.lists.proofs.Maps.{get_d_map, map-indices}
use Rattle.query.specs.Query.{Query}
use Rattle.matching.proofs.Cuts.{proper}
use Rattle.plan.specs.Plan.{Operator, scan, extend, join}
use Rattle.plan.specs.Check.{rules_fault}
use Rattle.plan.specs.Inner.Pile.{named}
use Rattle.plan.specs.Inner.Struct.{operator_of, operator_in, operators_in}
use Rattle.plan.specs.declared.Plan.{Plan as PlanStruct}
use Rattle.plan_spectrum.specs.Orders.{orderings, plan_of, has, accepted}
use Rattle.plan_spectrum.proofs.Exact.{each_once}

replicated : (n x i : ℕ) → i < n → get_or (replicate n x) i 0 ≡ x
replicated zero x i h = absurd (omega arith)
replicated (suc n) x zero h = refl
replicated (suc n) x (suc i) h = replicated n x i (omega arith)

length-plan : (row : List ℕ) → length (plan_of row) ≡ length row
unfolding plan_of
length-plan [] = refl
length-plan (i ∷ vs) = ap suc (length-map vs extend)

-- A scan, then extends.
module _ (p : PlanStruct) (kinds : p.kinds ≡ 0 ∷ replicate 30 1) (rest : List ℕ) where
  reads : (row : List ℕ) (i : ℕ) → p.operands ≡ row ++ rest → length row ≤ 31 → i < length row → operator_in p i ≡ get_or (plan_of row) i join
  unfolding plan_of
  reads [] i e few h = absurd (omega arith)
  reads (x ∷ vs) zero e few h = ap₂ operator_of (ap (λ (k : List ℕ). get_or k 0 0) kinds) (ap (λ (o : List ℕ). get_or o 0 0) e)
  reads (x ∷ vs) (suc j) e few h =
      ap₂ operator_of (ap (λ (k : List ℕ). get_or k (suc j) 0) kinds ∙ replicated 30 1 j (omega arith))
      (ap (λ (o : List ℕ). get_or o (suc j) 0) e ∙ get_or-append vs rest 0 j (omega arith))
      ∙ sym (get_d_map extend vs j 0 join (omega arith))

  row_read : (row : List ℕ) → p.operators ≡ length row → p.operands ≡ row ++ rest → length row ≤ 31 → operators_in p ≡ plan_of row
  unfolding operators_in
  row_read row count e few =
      ap (λ (n : ℕ). map (operator_in p) (range n)) (count ∙ sym (length-plan row))
      ∙ map-indices (operator_in p) (plan_of row) join (λ i h. reads row i e few (omega (arith, length-plan row)))

pub plan-read : (p : PlanStruct) (list : List ℕ) (at width : ℕ) → p.operators ≡ width → at + width ≤ length list → width ≤ 31
    → p.kinds ≡ 0 ∷ replicate 30 1 → p.operands ≡ take width (drop at list) ++ drop width (replicate 31 0)
    → operators_in p ≡ plan_of (take width (drop at list))
plan-read p list at width count fits few kinds e =
    let long : length (take width (drop at list)) ≡ width = length-take-le width (drop at list) (omega (arith, length-drop at list)) in
    row_read p kinds (drop width (replicate 31 0)) (take width (drop at list)) (count ∙ sym long) e (omega arith)

-- Every ordering's plan is accepted.
module _ (q : Query) (low : 2 ≤ q.vertices) (ok : all (proper q.vertices) q.edges ≡ true) where
  all-accepted : all (λ (o : List ℕ). accepted q (plan_of o)) (orderings q) ≡ true
  all-accepted =
      all-mem (λ (o : List ℕ). accepted q (plan_of o)) (orderings q)
      (λ o m. bit-some (accepted q (plan_of o)) (each_once q low ok o) (λ z. absurd (omega (arith, z, mem-count (same o) m (same_refl o)))))

  pub accepted-at : (k : ℕ) → k < length (orderings q) → (all (named q) (plan_of (get_or (orderings q) k [])) ≡ true) × (rules_fault q [] (plan_of (get_or (orderings q) k [])) ≡ 0)
  accepted-at k h =
      let os : List Operator = plan_of (get_or (orderings q) k []) in
      let a : accepted q os ≡ true = all_get_d (λ (o : List ℕ). accepted q (plan_of o)) (orderings q) k [] h all-accepted in (
        all-follows (has q) (named q) os (and_l (all (has q) os) (eqb (rules_fault q [] os) 0) a) one,
        eqb-true (rules_fault q [] os) 0 (and_r (all (has q) os) (eqb (rules_fault q [] os) 0) a),
      )
    where
      one : (o : Operator) → has q o ≡ true → named q o ≡ true
      one (scan i) h = h
      one (extend v) h = h
      one join h = refl
