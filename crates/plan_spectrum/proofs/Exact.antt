-- The orderings are exactly the accepted plans of one scan and extends, each once. Assumes nothing.
use mathlib.Core.Path.{◌≡◌, refl, sym, ◌∙◌, ap}
use mathlib.Core.Bool.{Bool, true, false, cond, not, ◌&&◌}
use mathlib.Core.List.{List, [], ◌∷◌, map, flat_map}
use Prim.Native.Nat.{ℕ, zero, suc, ◌+◌, ◌-◌, ◌≤◌, ◌<◌}
use native.Mathlib.Nat.{zero-add, add-zero}
use native.Mathlib.Omega.{arith}
use lib.Dec.{eqb, ltb}
use lib.ListN.{length}
use borrow.Author.Tests.{eqb-true, eqb-false, ne_eqb, lt-ltb, le-ltb, ltb-true}
use Rattle.lists.specs.Lists.{bit, range, all, count_if, same, total}
use Rattle.lists.specs.Refusal.{refuse, first}
use Rattle.lists.proofs.Tests.{clash, fails, eqb_refl}
use Rattle.lists.proofs.Bits.{ltb_next}
use Rattle.lists.proofs.All.{length-range, all-at, all_get_d}
use Rattle.lists.proofs.Count.{count_map, count_none, count-all, count-flat_map, total-suc, total-zero}
use Rattle.lists.proofs.Faults.{first-cons, first_one, zero-refuse}
use Rattle.query.specs.Query.{Query, VertexSet, edge_at}
use Rattle.plan.specs.Plan.{scan, extend, ends, plus}
use Rattle.plan.specs.Check.{rule_fault, covered, end_fault, rules_fault}
use Rattle.matching.proofs.Cuts.{proper, proper-source, proper-target, proper-ends}
use Rattle.planner.proofs.Ordering.{count-full, count-plus, count-ends}
use Rattle.plan_spectrum.specs.Orders.{extends, before, orders_from, orderings, plan_of, has, accepted}
use Rattle.plan_spectrum.proofs.Steps.{orders_by, orders_of, orders-suc, orderings-scans, extends-uncovered}

-- ---- counting

-- Of the numbers below n only y has any.
total-only : (f : ℕ → ℕ) (y n : ℕ) → ((x : ℕ) → (x ≡ y → ⊥) → f x ≡ 0) → total f (range n) ≡ cond (ltb y n) (f y) 0
unfolding total range
total-only f y zero h = rw (le-ltb y 0 (omega arith)) refl
total-only f y (suc n) h = total-suc f n ∙ ap (λ (m : ℕ). m + f n) (total-only f y n h) ∙ go (eqb n y) refl
  where
    go : (b : Bool) → eqb n y ≡ b → cond (ltb y n) (f y) 0 + f n ≡ cond (ltb y (suc n)) (f y) 0
    go true e =
        let i : n ≡ y = eqb-true n y e in
        rw (le-ltb y n (omega arith), lt-ltb y (suc n) (omega arith)) (zero-add (f n) ∙ ap f i)
    go false e =
        let d : (n ≡ y → ⊥) = eqb-false n y e in
        ap (λ (m : ℕ). cond (ltb y n) (f y) 0 + m) (h n d) ∙ add-zero (cond (ltb y n) (f y) 0)
        ∙ ap (λ (b : Bool). cond b (f y) 0) (ltb_next y n (λ i. d (sym i)))

-- How often a list stands among those that begin with x.
count-before : (x : ℕ) (rows : List (List ℕ)) (y : ℕ) (ys : List ℕ) → count_if (same (y ∷ ys)) (before x rows) ≡ cond (eqb y x) (count_if (same ys) rows) 0
unfolding same
count-before x rows y ys = count_map (same (y ∷ ys)) (λ (row : List ℕ). x ∷ row) rows ∙ go (eqb y x)
  where
    go : (b : Bool) → count_if (λ (row : List ℕ). b && same ys row) rows ≡ cond b (count_if (same ys) rows) 0
    go true = refl
    go false = count_none (λ (row : List ℕ). false) rows (λ row. refl)

count-empty : (x : ℕ) (rows : List (List ℕ)) → count_if (same []) (before x rows) ≡ 0
unfolding same
count-empty x rows = count_map (same []) (λ (row : List ℕ). x ∷ row) rows ∙ count_none (λ (row : List ℕ). false) rows (λ row. refl)

total-none : (f : ℕ → ℕ) (xs : List ℕ) → ((x : ℕ) → f x ≡ 0) → total f xs ≡ 0
unfolding total
total-none f [] h = refl
total-none f (x ∷ xs) h = rw (h x, total-none f xs h) refl

-- ---- the rules of extends in turn

first-both : (a b : ℕ) → eqb (first (a ∷ b ∷ [])) 0 ≡ (eqb a 0 && eqb b 0)
unfolding first
first-both a b = go (eqb a 0) (eqb b 0) refl refl
  where
    go : (x y : Bool) → eqb a 0 ≡ x → eqb b 0 ≡ y → eqb (cond x (cond y 0 b) a) 0 ≡ (x && y)
    go true true p r = refl
    go true false p r = r
    go false y p r = p

mix : (a b c d : Bool) → (a && b && (c && d)) ≡ (a && c && (b && d))
mix true true c d = refl
mix true false true d = refl
mix true false false d = refl
mix false b c d = refl

module _ (q : Query) where
  -- Extends by these vertices are accepted where S is covered.
  abbrev fine : VertexSet → List ℕ → Bool
  fine S vs = all (has q) (map extend vs) && eqb (rules_fault q (S ∷ []) (map extend vs)) 0

  fine_more : (S : VertexSet) (v : ℕ) (vs : List ℕ) → fine S (v ∷ vs) ≡ (ltb v q.vertices && extends q S v && fine (plus v S) vs)
  unfolding all rules_fault covered
  fine_more S v vs =
      ap (λ (b : Bool). ltb v q.vertices && all (has q) (map extend vs) && b)
      (first-both (rule_fault q (extend v) (S ∷ [])) (rules_fault q (plus v S ∷ []) (map extend vs)))
      ∙ mix (ltb v q.vertices) (all (has q) (map extend vs)) (extends q S v) (eqb (rules_fault q (plus v S ∷ []) (map extend vs)) 0)

  end_is : (S : VertexSet) → rules_fault q (S ∷ []) [] ≡ refuse 18 (not (all S (range q.vertices)))
  unfolding rules_fault end_fault
  end_is S = first-cons _ _ (zero-refuse 15 (ltb 0 0) (le-ltb 0 0 (omega arith))) ∙ first_one _

  fine-none : (S : VertexSet) → fine S [] ≡ all S (range q.vertices)
  unfolding all
  fine-none S = ap (λ (k : ℕ). eqb k 0) (end_is S) ∙ go (all S (range q.vertices))
    where
      go : (b : Bool) → eqb (cond (not b) 18 0) 0 ≡ b
      go true = refl
      go false = refl

  -- A covered vertex may not be next.
  shut : (S : VertexSet) (v : ℕ) → all S (range q.vertices) ≡ true → (ltb v q.vertices && extends q S v) ≡ false
  shut S v full = go (ltb v q.vertices) (extends q S v) refl refl
    where
      go : (a b : Bool) → ltb v q.vertices ≡ a → extends q S v ≡ b → (a && b) ≡ false
      go true true l e = clash (all-at S q.vertices full v (ltb-true v q.vertices l)) (extends-uncovered q S v e)
      go true false l e = refl
      go false b l e = refl

  orders-once : (S : VertexSet) (k : ℕ) (vs : List ℕ) → count_if S (range q.vertices) + k ≡ q.vertices
      → count_if (same vs) (orders_from q S k) ≡ bit (fine S vs)
  unfolding orders_from count_if same
  orders-once S zero [] e = ap bit (sym (fine-none S ∙ count-full S (range q.vertices) (rw length-range (omega arith))))
  orders-once S zero (v ∷ vs) e =
      let full : all S (range q.vertices) ≡ true = count-full S (range q.vertices) (rw length-range (omega arith)) in
      ap bit (sym (fine_more S v vs ∙ ap (λ (b : Bool). b && fine (plus v S) vs) (shut S v full)))
  orders-once S (suc k) [] e =
      ap (count_if (same [])) (orders-suc q S k) ∙ count-flat_map (same []) (orders_by q S k) (range q.vertices)
      ∙ total-none (λ (v : ℕ). count_if (same []) (orders_by q S k v)) (range q.vertices) none
      ∙ ap bit (sym (fine-none S ∙ lacks))
    where
      none : (v : ℕ) → count_if (same []) (orders_by q S k v) ≡ 0
      none v = go (extends q S v)
        where
          go : (b : Bool) → count_if (same []) (cond b (before v (orders_from q (plus v S) k)) []) ≡ 0
          go true = count-empty v (orders_from q (plus v S) k)
          go false = refl

      lacks : all S (range q.vertices) ≡ false
      lacks = fails (all S (range q.vertices)) (λ h. absurd (omega (arith, count-all S (range q.vertices) h, length-range q.vertices)))
  orders-once S (suc k) (v ∷ vs) e =
      ap (count_if (same (v ∷ vs))) (orders-suc q S k) ∙ count-flat_map (same (v ∷ vs)) (orders_by q S k) (range q.vertices)
      ∙ total-only (λ (x : ℕ). count_if (same (v ∷ vs)) (orders_by q S k x)) v q.vertices other
      ∙ here (orders-once (plus v S) k vs) (ltb v q.vertices) (extends q S v) refl refl
      ∙ ap bit (sym (fine_more S v vs))
    where
      other : (x : ℕ) → (x ≡ v → ⊥) → count_if (same (v ∷ vs)) (orders_by q S k x) ≡ 0
      other x d = go (extends q S x)
        where
          go : (b : Bool) → count_if (same (v ∷ vs)) (cond b (before x (orders_from q (plus x S) k)) []) ≡ 0
          go true =
              count-before x (orders_from q (plus x S) k) v vs
              ∙ ap (λ (b : Bool). cond b (count_if (same vs) (orders_from q (plus x S) k)) 0) (ne_eqb v x (λ i. d (sym i)))
          go false = refl

      here : (count_if (plus v S) (range q.vertices) + k ≡ q.vertices → count_if (same vs) (orders_from q (plus v S) k) ≡ bit (fine (plus v S) vs))
          → (a b : Bool) → ltb v q.vertices ≡ a → extends q S v ≡ b
          → cond a (count_if (same (v ∷ vs)) (cond b (before v (orders_from q (plus v S) k)) [])) 0 ≡ bit (a && b && fine (plus v S) vs)
      here f true true l x =
          count-before v (orders_from q (plus v S) k) v vs
          ∙ ap (λ (b : Bool). cond b (count_if (same vs) (orders_from q (plus v S) k)) 0) (eqb_refl v)
          ∙ f
          (omega (arith, count-plus v q.vertices S (ltb-true v q.vertices l) (extends-uncovered q S v x), e))
      here f true false l x = refl
      here f false b l x = refl

  -- ---- with the scan

  module _ (low : 2 ≤ q.vertices) (ok : all (proper q.vertices) q.edges ≡ true) where
    pub scan-two : (i : ℕ) → i < length q.edges → count_if (ends (edge_at q i)) (range q.vertices) ≡ 2
    scan-two i h =
        let e = edge_at q i in
        let p : proper q.vertices e ≡ true = all_get_d (proper q.vertices) q.edges i _ h ok in
        count-ends e q.vertices (proper-source q.vertices e p) (proper-target q.vertices e p) (proper-ends q.vertices e p)

    accepted-is : (i : ℕ) (vs : List ℕ) → accepted q (plan_of (i ∷ vs)) ≡ (ltb i (length q.edges) && fine (ends (edge_at q i)) vs)
    unfolding plan_of all rules_fault rule_fault covered
    accepted-is i vs =
        ap (λ (b : Bool). ltb i (length q.edges) && all (has q) (map extend vs) && b)
        (first-both 0 (rules_fault q (ends (edge_at q i) ∷ []) (map extend vs)))
        ∙ and_assoc (ltb i (length q.edges)) (all (has q) (map extend vs)) (eqb (rules_fault q (ends (edge_at q i) ∷ []) (map extend vs)) 0)
      where
        and_assoc : (a b c : Bool) → (a && b && (true && c)) ≡ (a && (b && c))
        and_assoc true b c = refl
        and_assoc false b c = refl

    no-plan : bit (accepted q (plan_of [])) ≡ 0
    unfolding plan_of all rules_fault end_fault
    no-plan = refl

    pub each_once : (o : List ℕ) → count_if (same o) (orderings q) ≡ bit (accepted q (plan_of o))
    unfolding count_if
    each_once [] =
        ap (count_if (same [])) (orderings-scans q) ∙ count-flat_map (same []) (orders_of q) (range (length q.edges))
        ∙ total-none (λ (i : ℕ). count_if (same []) (orders_of q i)) (range (length q.edges)) (λ i. count-empty i (orders_from q (ends (edge_at q i)) (q.vertices - 2))) ∙ sym no-plan
    each_once (i ∷ vs) =
        ap (count_if (same (i ∷ vs))) (orderings-scans q) ∙ count-flat_map (same (i ∷ vs)) (orders_of q) (range (length q.edges))
        ∙ total-only (λ (x : ℕ). count_if (same (i ∷ vs)) (orders_of q x)) i (length q.edges) other
        ∙ here (ltb i (length q.edges)) refl ∙ ap bit (sym (accepted-is i vs))
      where
        other : (x : ℕ) → (x ≡ i → ⊥) → count_if (same (i ∷ vs)) (orders_of q x) ≡ 0
        other x d =
            count-before x (orders_from q (ends (edge_at q x)) (q.vertices - 2)) i vs
            ∙ ap (λ (b : Bool). cond b (count_if (same vs) (orders_from q (ends (edge_at q x)) (q.vertices - 2))) 0) (ne_eqb i x (λ e. d (sym e)))

        here : (a : Bool) → ltb i (length q.edges) ≡ a → cond a (count_if (same (i ∷ vs)) (orders_of q i)) 0 ≡ bit (a && fine (ends (edge_at q i)) vs)
        here true l =
            count-before i (orders_from q (ends (edge_at q i)) (q.vertices - 2)) i vs
            ∙ ap (λ (b : Bool). cond b (count_if (same vs) (orders_from q (ends (edge_at q i)) (q.vertices - 2))) 0) (eqb_refl i)
            ∙ orders-once (ends (edge_at q i)) (q.vertices - 2) vs (omega (arith, scan-two i (ltb-true i (length q.edges) l), low))
        here false l = refl
