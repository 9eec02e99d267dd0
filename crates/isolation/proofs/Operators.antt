-- What each operator makes of a graph is what it makes of the named edges alone: rows, candidates, costs. Assumes nothing.
use mathlib.Core.Path.{◌≡◌, refl, ◌∙◌, ap, ap₂, fun_ext}
use mathlib.Core.Bool.{Bool, true, false, cond, ◌&&◌}
use mathlib.Core.List.{List, [], ◌∷◌, ◌++◌, map, flat_map}
use mathlib.Core.Option.{Option, some, none}
use Prim.Native.Nat.{ℕ, ◌+◌}
use lib.Dec.{eqb}
use lib.ListN.{length}
use Rattle.lists.specs.Lists.{◌implies◌, range, all, keep, largest}
use Rattle.lists.proofs.All.{all_under, all-kept}
use Rattle.lists.proofs.Count.{total-under}
use Rattle.graph.specs.Graph.{Edge, Graph, forward, backward}
use Rattle.query.specs.Query.{Query, VertexSet, inside, between}
use Rattle.plan.specs.Plan.{ends}
use Rattle.matching.specs.Row.{Assignment, pack, look, assign}
use Rattle.matching.specs.Match.{fits, holds, permits}
use Rattle.operator_spec.specs.Scan.{ends_at, scans, scan_rows}
use Rattle.operator_spec.specs.Extend.{candidates, grown, reuses, extend_after, extend_rows, portion_for, row_cost, cost_after, extend_cost}
use Rattle.run_spec.specs.Pile.{longest_set}
use Rattle.isolation.specs.Others.{names}
use Rattle.isolation.proofs.Own.{own, each-named, joins-own, portions-own}

module _ (q : Query) (g : Graph) (none_any : names q 0 ≡ false) where
  holds-own : (f : Assignment) (e : Edge) → names q e.label ≡ true → holds (own q g) f e ≡ holds g f e
  unfolding holds
  holds-own f e n = joins-own q g none_any e.label (f e.source) (f e.target) n

  -- Query edges that are asked for by a test.
  asked-own : (p : Edge → Bool) (f : Assignment)
      → all (λ (e : Edge). p e implies holds (own q g) f e) q.edges ≡ all (λ (e : Edge). p e implies holds g f e) q.edges
  asked-own p f =
      all_under (λ (e : Edge). names q e.label) (λ (e : Edge). p e implies holds (own q g) f e) (λ (e : Edge). p e implies holds g f e) q.edges
      (each-named q) (λ e n. ap (λ (b : Bool). p e implies b) (holds-own f e n))

  -- ---- scan

  scans-own : (e : Edge) (x y : ℕ) → scans (own q g) q e x y ≡ scans g q e x y
  unfolding scans fits
  scans-own e x y =
      ap (λ (b : Bool). fits g q e.source x && fits g q e.target y && b && permits q (ends e) (ends_at e x y))
      (asked-own (inside (ends e)) (ends_at e x y))

  pub scan-own : (e : Edge) → scan_rows (own q g) q e ≡ scan_rows g q e
  unfolding scan_rows
  scan-own e =
      ap
      (λ (t : ℕ → ℕ → Bool).
      flat_map (λ (x : ℕ). map (λ (y : ℕ). pack q.vertices (ends e) (ends_at e x y)) (keep (t x) (range g.vertices))) (range g.vertices))
      (fun_ext (λ (x : ℕ). fun_ext (scans-own e x)))

  -- ---- extend

  module _ (S : VertexSet) (v : ℕ) where
    candidates-own : (f : Assignment) → candidates (own q g) q S v f ≡ candidates g q S v f
    unfolding candidates fits
    candidates-own f =
        ap (λ (t : ℕ → Bool). keep t (range g.vertices))
        (fun_ext (λ (x : ℕ). ap (λ (b : Bool). fits g q v x && b) (asked-own (between v S) (assign v x f))))

    after-own : (cache : Bool) (before : Option (List ℕ)) (xs : List ℕ) (rows : List (List ℕ))
        → extend_after cache (own q g) q S v before xs rows ≡ extend_after cache g q S v before xs rows
    unfolding extend_after
    after-own cache before xs [] = refl
    after-own cache before xs (row ∷ rows) =
        ap
        (λ (c : List ℕ).
        grown q S v row (cond (reuses cache q S v before row) xs c)
        ++ extend_after cache (own q g) q S v (some row) (cond (reuses cache q S v before row) xs c) rows)
        (candidates-own (look S row))
        ∙ ap (λ (l : List (List ℕ)). grown q S v row (cond (reuses cache q S v before row) xs (candidates g q S v (look S row))) ++ l)
        (after-own cache (some row) (cond (reuses cache q S v before row) xs (candidates g q S v (look S row))) rows)

    pub extend-own : (cache : Bool) (rows : List (List ℕ)) → extend_rows cache (own q g) q S v rows ≡ extend_rows cache g q S v rows
    unfolding extend_rows
    extend-own cache rows = after-own cache none [] rows

    pub longest-own : (rows : List (List ℕ)) → longest_set (own q g) q S v rows ≡ longest_set g q S v rows
    unfolding longest_set
    longest-own rows =
        ap (λ (c : Assignment → List ℕ). largest (λ (row : List ℕ). length (c (look S row))) rows) (fun_ext candidates-own)

    -- ---- cost

    portion-own : (f : Assignment) (e : Edge) → names q e.label ≡ true → portion_for (own q g) v f e ≡ portion_for g v f e
    unfolding portion_for
    portion-own f e n =
        ap₂ (λ (a b : ℕ). cond (eqb e.source v) a b)
        (portions-own q g none_any backward e.label (f e.target) n) (portions-own q g none_any forward e.label (f e.source) n)

    row-cost-own : (row : List ℕ) → row_cost (own q g) q S v row ≡ row_cost g q S v row
    unfolding row_cost
    row-cost-own row =
        total-under (λ (e : Edge). names q e.label) (portion_for (own q g) v (look S row)) (portion_for g v (look S row)) (keep (between v S) q.edges)
        (all-kept (λ (e : Edge). names q e.label) (between v S) (λ (e : Edge). names q e.label) q.edges (each-named q) (λ e n b. n))
        (portion-own (look S row))

    cost-after-own : (cache : Bool) (before : Option (List ℕ)) (rows : List (List ℕ))
        → cost_after cache (own q g) q S v before rows ≡ cost_after cache g q S v before rows
    unfolding cost_after
    cost-after-own cache before [] = refl
    cost-after-own cache before (row ∷ rows) =
        ap₂ (λ (a b : ℕ). cond (reuses cache q S v before row) 0 a + b) (row-cost-own row) (cost-after-own cache (some row) rows)

    pub cost-own : (cache : Bool) (rows : List (List ℕ)) → extend_cost cache (own q g) q S v rows ≡ extend_cost cache g q S v rows
    unfolding extend_cost
    cost-own cache rows = cost-after-own cache none rows
