-- What the operators of a plan are bounded by is the same over two graphs with the same readings. Assumes nothing.
use mathlib.Core.Path.{◌≡◌, refl, ◌∙◌, ap, ap₂}
use mathlib.Core.Bool.{Bool, true, cond}
use mathlib.Core.List.{List, [], ◌∷◌}
use Prim.Native.Nat.{ℕ, ◌+◌, ◌*◌, min}
use lib.Dec.{eqb}
use lib.ListN.{length}
use borrow.Author.Tests.{ltb-true}
use Rattle.lists.specs.Lists.{all, keep, total, largest}
use Rattle.lists.proofs.Tests.{and_l, and_r}
use Rattle.lists.proofs.All.{all-kept, all_get_d}
use Rattle.lists.proofs.Count.{total-under}
use Rattle.graph.specs.Graph.{Edge, Graph, forward, backward}
use Rattle.query.specs.Query.{Query, VertexSet, edge_at, between}
use Rattle.plan.specs.Plan.{Operator, scan, extend, join, ends, plus}
use Rattle.plan.specs.Inner.Pile.{named}
use Rattle.matching.specs.Row.{width}
use Rattle.plan_bounds.specs.Bounds.{least, longest_for, least_portion, sum_of_portions, Bound, rows_bound, cost_bound, apply_bound, bounds_after, StepBound, step_bounds, top_rows_bound, top_need_bound, list_bound, need_bound, costs_bound, largest_bound}
use Rattle.isolation.specs.Others.{names}
use Rattle.isolation.specs.Inner.Readings.{SameReadings}
use Rattle.isolation.proofs.Own.{each-named}

-- The least number is the same where each element's two numbers are, under a test that all pass.
least_under : {A : Type 0} (s : A → Bool) (f h : A → ℕ) (xs : List A) → all s xs ≡ true → ((x : A) → s x ≡ true → f x ≡ h x) → least f xs ≡ least h xs
unfolding all least
least_under s f h [] e k = refl
least_under s f h (x ∷ []) e k = k x (and_l (s x) true e)
least_under s f h (x ∷ y ∷ xs) e k =
    ap₂ (λ (m n : ℕ). min m n) (k x (and_l (s x) (all s (y ∷ xs)) e)) (least_under s f h (y ∷ xs) (and_r (s x) (all s (y ∷ xs)) e) k)

bounded : List Bound → VertexSet → ℕ → ℕ → List Bound
bounded pile S rows need = record { vertices = S; rows = rows; need = need } ∷ pile

stepped : ℕ → ℕ → StepBound
stepped rows cost = record { rows = rows; cost = cost }

-- A plan is bounded the same over two graphs.
pub record SameBounds (q : Query) (g h : Graph) (os : List Operator) : Type 0 where
  pub list : list_bound g q os ≡ list_bound h q os
  pub need : need_bound g q os ≡ need_bound h q os
  pub cost : costs_bound g q os ≡ costs_bound h q os
  pub largest_is : largest_bound g q os ≡ largest_bound h q os

module _ (q : Query) (g h : Graph) (same : SameReadings q g h) where
  longest-same : (v : ℕ) (e : Edge) → names q e.label ≡ true → longest_for g v e ≡ longest_for h v e
  unfolding longest_for
  longest-same v e n =
      ap₂ (λ (a b : ℕ). cond (eqb e.source v) a b) (same.longest backward e.label n) (same.longest forward e.label n)

  -- ---- an extend's portions

  module _ (S : VertexSet) (v : ℕ) where
    between-named : all (λ (e : Edge). names q e.label) (keep (between v S) q.edges) ≡ true
    between-named =
        all-kept (λ (e : Edge). names q e.label) (between v S) (λ (e : Edge). names q e.label) q.edges (each-named q) (λ e n b. n)

    least-same : least_portion g q S v ≡ least_portion h q S v
    unfolding least_portion
    least-same =
        least_under (λ (e : Edge). names q e.label) (longest_for g v) (longest_for h v) (keep (between v S) q.edges) between-named (longest-same v)

    sum_same : sum_of_portions g q S v ≡ sum_of_portions h q S v
    unfolding sum_of_portions
    sum_same =
        total-under (λ (e : Edge). names q e.label) (longest_for g v) (longest_for h v) (keep (between v S) q.edges) between-named (longest-same v)

  -- ---- an operator that names what the query has

  rows_same : (o : Operator) (pile : List Bound) → named q o ≡ true → rows_bound g q o pile ≡ rows_bound h q o pile
  unfolding rows_bound
  rows_same (scan i) pile n =
      same.counts (edge_at q i).label
      (all_get_d (λ (e : Edge). names q e.label) q.edges i (record { source = 0; label = 0; target = 0 }) (ltb-true i (length q.edges) n) (each-named q))
  rows_same (extend v) [] n = refl
  rows_same (extend v) (b ∷ pile) n = ap (λ (m : ℕ). b.rows * m) (least-same b.vertices v)
  rows_same join [] n = refl
  rows_same join (p ∷ []) n = refl
  rows_same join (p ∷ b ∷ pile) n = refl

  cost-same : (o : Operator) (pile : List Bound) → cost_bound g q o pile ≡ cost_bound h q o pile
  unfolding cost_bound
  cost-same (scan i) pile = refl
  cost-same (extend v) [] = refl
  cost-same (extend v) (b ∷ pile) = ap (λ (m : ℕ). b.rows * m) (sum_same b.vertices v)
  cost-same join pile = refl

  apply-same : (o : Operator) (pile : List Bound) → named q o ≡ true → apply_bound g q o pile ≡ apply_bound h q o pile
  unfolding apply_bound bounded rows_bound
  apply-same (scan i) pile n = ap (λ (rows : ℕ). bounded pile (ends (edge_at q i)) rows 2) (rows_same (scan i) pile n)
  apply-same (extend v) [] n = refl
  apply-same (extend v) (b ∷ pile) n =
      ap₂ (bounded pile (plus v b.vertices)) (rows_same (extend v) (b ∷ pile) n)
      (ap (λ (m : ℕ). b.need + width q.vertices (plus v b.vertices) + m) (least-same b.vertices v))
  apply-same join [] n = refl
  apply-same join (p ∷ []) n = refl
  apply-same join (p ∷ b ∷ pile) n = refl

  -- ---- operators in turn

  piles-same : (os : List Operator) (pile : List Bound) → all (named q) os ≡ true → bounds_after g q pile os ≡ bounds_after h q pile os
  unfolding bounds_after all
  piles-same [] pile n = refl
  piles-same (o ∷ os) pile n =
      piles-same os (apply_bound g q o pile) (and_r (named q o) (all (named q) os) n)
      ∙ ap (λ (p : List Bound). bounds_after h q p os) (apply-same o pile (and_l (named q o) (all (named q) os) n))

  steps-same : (os : List Operator) (pile : List Bound) → all (named q) os ≡ true → step_bounds g q pile os ≡ step_bounds h q pile os
  unfolding step_bounds all stepped
  steps-same [] pile n = refl
  steps-same (o ∷ os) pile n =
      let first : named q o ≡ true = and_l (named q o) (all (named q) os) n in
      ap₂ (λ (s : StepBound) (l : List StepBound). s ∷ l) (ap₂ stepped (rows_same o pile first) (cost-same o pile))
      (steps-same os (apply_bound g q o pile) (and_r (named q o) (all (named q) os) n)
      ∙ ap (λ (p : List Bound). step_bounds h q p os) (apply-same o pile first))

  pub same-bounds : (os : List Operator) → all (named q) os ≡ true → SameBounds q g h os
  unfolding list_bound need_bound costs_bound largest_bound
  same-bounds os n =
      record {
        list = ap (λ (p : List Bound). q.vertices * top_rows_bound p) (piles-same os [] n);
        need = ap top_need_bound (piles-same os [] n);
        cost = ap (total (λ (s : StepBound). s.cost)) (steps-same os [] n);
        largest_is = ap (largest (λ (s : StepBound). s.rows)) (steps-same os [] n);
      }
