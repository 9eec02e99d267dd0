-- What a plan makes of a graph is what it makes of the named edges alone: rows, need, costs, records, whether a number passes. One
-- induction over the plan. Assumes nothing.
use mathlib.Core.Path.{◌≡◌, refl, sym, ◌∙◌, ap, ap₂}
use mathlib.Core.Bool.{Bool, false}
use mathlib.Core.List.{List, [], ◌∷◌, map, flat_map}
use Prim.Native.Nat.{ℕ, ◌+◌}
use lib.Dec.{ltb}
use lib.ListN.{length}
use Rattle.lists.specs.Lists.{any, total}
use Rattle.graph.specs.Graph.{Graph}
use Rattle.query.specs.Query.{Query, VertexSet, edge_at}
use Rattle.plan.specs.Plan.{Operator, scan, extend, join, ends, plus}
use Rattle.matching.specs.Row.{width}
use Rattle.run_spec.specs.Pile.{Result, apply, pile_after, top_rows, top_need, cost_of, build_of, probe_of, Step, step_of, steps_from}
use Rattle.run_spec.specs.Run.{plan_rows, plan_need, plan_cost, plan_build, plan_probe, record_of, plan_records, max_number, plan_numbers, plan_passes}
use Rattle.isolation.specs.Others.{names}
use Rattle.isolation.proofs.Own.{own}
use Rattle.isolation.proofs.Operators.{scan-own, extend-own, longest-own, cost-own}

topped : List Result → VertexSet → ℕ → List (List ℕ) → List Result
topped pile S need rows = record { vertices = S; rows = rows; need = need } ∷ pile

stepped : ℕ → ℕ → ℕ → ℕ → Step
stepped rows build probe cost = record { rows = rows; cost = cost; build = build; probe = probe }

-- Whether a number of a plan passes, from its rows and its steps.
abbrev passing : List (List ℕ) → List Step → Bool
passing rows steps =
    any (ltb max_number)
    (length rows ∷ total (λ (s : Step). s.cost) steps ∷ total (λ (s : Step). s.build) steps ∷ total (λ (s : Step). s.probe) steps
    ∷ flat_map (λ (s : Step). s.rows ∷ s.cost ∷ []) steps)

module _ (q : Query) (g : Graph) (none_any : names q 0 ≡ false) (cache : Bool) where
  apply-own : (o : Operator) (pile : List Result) → apply cache (own q g) q o pile ≡ apply cache g q o pile
  unfolding apply topped
  apply-own (scan i) pile = ap (topped pile (ends (edge_at q i)) 2) (scan-own q g none_any (edge_at q i))
  apply-own (extend v) [] = refl
  apply-own (extend v) (r ∷ pile) =
      ap₂ (topped pile (plus v r.vertices))
      (ap (λ (n : ℕ). r.need + width q.vertices (plus v r.vertices) + n) (longest-own q g none_any r.vertices v r.rows))
      (extend-own q g none_any r.vertices v cache r.rows)
  apply-own join [] = refl
  apply-own join (p ∷ []) = refl
  apply-own join (p ∷ b ∷ pile) = refl

  cost-of-own : (o : Operator) (pile : List Result) → cost_of cache (own q g) q o pile ≡ cost_of cache g q o pile
  unfolding cost_of
  cost-of-own (scan i) pile = refl
  cost-of-own (extend v) [] = refl
  cost-of-own (extend v) (r ∷ pile) = cost-own q g none_any r.vertices v cache r.rows
  cost-of-own join pile = refl

  step-own : (o : Operator) (pile : List Result) → step_of cache (own q g) q o pile ≡ step_of cache g q o pile
  unfolding step_of stepped
  step-own o pile =
      ap₂ (λ (rows cost : ℕ). stepped rows (build_of o pile) (probe_of o pile) cost)
      (ap (λ (p : List Result). length (top_rows p)) (apply-own o pile)) (cost-of-own o pile)

  pile-own : (os : List Operator) (pile : List Result) → pile_after cache (own q g) q pile os ≡ pile_after cache g q pile os
  unfolding pile_after
  pile-own [] pile = refl
  pile-own (o ∷ os) pile = pile-own os (apply cache (own q g) q o pile) ∙ ap (λ (p : List Result). pile_after cache g q p os) (apply-own o pile)

  steps-own : (os : List Operator) (pile : List Result) → steps_from cache (own q g) q pile os ≡ steps_from cache g q pile os
  unfolding steps_from
  steps-own [] pile = refl
  steps-own (o ∷ os) pile =
      ap₂ (λ (s : Step) (l : List Step). s ∷ l) (step-own o pile)
      (steps-own os (apply cache (own q g) q o pile) ∙ ap (λ (p : List Result). steps_from cache g q p os) (apply-own o pile))

-- A plan does the same over two graphs.
pub record SamePlan (q : Query) (g h : Graph) (cache : Bool) (os : List Operator) : Type 0 where
  pub rows : plan_rows cache g q os ≡ plan_rows cache h q os
  pub need : plan_need cache g q os ≡ plan_need cache h q os
  pub cost : plan_cost cache g q os ≡ plan_cost cache h q os
  pub build : plan_build cache g q os ≡ plan_build cache h q os
  pub probe : plan_probe cache g q os ≡ plan_probe cache h q os
  pub records : plan_records cache g q os ≡ plan_records cache h q os
  pub passes : plan_passes cache g q os ≡ plan_passes cache h q os

-- So it does where these have the same named edges.
pub same-plan : (q : Query) (g h : Graph) → names q 0 ≡ false → own q g ≡ own q h → (cache : Bool) (os : List Operator) → SamePlan q g h cache os
unfolding plan_rows plan_need plan_cost plan_build plan_probe plan_records plan_numbers plan_passes
same-plan q g h none_any one cache os =
    record {
      rows = ap top_rows pile;
      need = ap top_need pile;
      cost = ap (total (λ (s : Step). s.cost)) steps;
      build = ap (total (λ (s : Step). s.build)) steps;
      probe = ap (total (λ (s : Step). s.probe)) steps;
      records = ap (map record_of) steps;
      passes = ap₂ passing (ap top_rows pile) steps;
    }
  where
    pile : pile_after cache g q [] os ≡ pile_after cache h q [] os
    pile = sym (pile-own q g none_any cache os []) ∙ ap (λ (k : Graph). pile_after cache k q [] os) one ∙ pile-own q h none_any cache os []

    steps : steps_from cache g q [] os ≡ steps_from cache h q [] os
    steps = sym (steps-own q g none_any cache os []) ∙ ap (λ (k : Graph). steps_from cache k q [] os) one ∙ steps-own q h none_any cache os []
