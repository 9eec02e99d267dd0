-- What an operator does over rows is within its bounds: a set is at most each of its portions, a portion at most the longest one, and a scan's
-- rows at most its label's edges. Assumes nothing.
use mathlib.Core.Path.{◌≡◌, refl, sym, ◌∙◌}
use mathlib.Core.Bool.{Bool, true, false, cond, ◌&&◌}
use mathlib.Core.List.{List, [], ◌∷◌, map, Memᴰ}
use mathlib.Core.Option.{Option, none, some}
use Prim.Native.Nat.{ℕ, ◌+◌, ◌*◌, ◌≤◌, ◌<◌}
use native.Mathlib.Nat.{le_trans, mul_comm}
use native.Mathlib.Omega.{arith}
use lib.Dec.{eqb, ltb}
use lib.ListN.{length, length-map}
use borrow.Author.Tests.{eqb-true, ltb-true, ltb-false}
use Rattle.lists.specs.Lists.{◌implies◌, bit, range, all, keep, count_if, total, largest}
use Rattle.lists.proofs.Tests.{fails, and_l, and_r, and_both, or_intro_l, or_intro_r, imp_use, eqb_refl, eqb-sym}
use Rattle.lists.proofs.All.{all_true, mem-all, all_get_d}
use Rattle.lists.proofs.Count.{count-mono, count-le, count-passes, length-keep, length-flat_map, total-swap, total-bit}
use Rattle.lists.proofs.Any.{any-count}
use Rattle.graph.specs.Graph.{Edge, Graph, Direction, forward, backward, near, covers, linked, portion_length}
use Rattle.graph.proofs.WellFormed.{WellFormed, fitting, fitting-edge}
use Rattle.query.specs.Query.{Query, VertexSet, edge_at, inside, between, touches}
use Rattle.plan.specs.Plan.{ends, plus, union}
use Rattle.plan_order.specs.Order.{edges_of}
use Rattle.matching.specs.Row.{Assignment, pack, look, assign}
use Rattle.matching.specs.Match.{fits, holds, permits}
use Rattle.matching.proofs.Cuts.{proper, proper-ends}
use Rattle.operator_spec.specs.Scan.{ends_at, scans, scan_rows}
use Rattle.operator_spec.specs.Extend.{candidates, grown, reuses, extend_rows, portion_for, row_cost, cost_after, extend_cost}
use Rattle.operator_spec.specs.Join.{agree, joined, partners, join_rows}
use Rattle.operator_spec.proofs.Cached.{extend-rows}
use Rattle.operator_spec.proofs.Reach.{reaches, candidates-reach}
use Rattle.run_spec.specs.Pile.{longest_set}
use Rattle.plan_bounds.specs.Bounds.{longest_portion, longest_for, least_portion, sum_of_portions}
use Rattle.plan_bounds.proofs.Counting.{total-le, total_at_most, largest-at-most, at-most-least, at-most-largest, reach-one, reach-count}

-- ---- portions

-- The vertices that a label's edges reach from one are at most its portion, and those that reach one likewise.
reached-from : (g : Graph) (l x n : ℕ) → count_if (λ (y : ℕ). linked g l x y) (range n) ≤ portion_length g forward l x
unfolding linked portion_length
reached-from g l x n =
    reach-count (λ (e : Edge) (y : ℕ). eqb e.source x && covers l e.label && eqb e.target y) (λ (e : Edge). eqb e.source x && covers l e.label) (λ (e : Edge). e.target)
    (λ e y h. (and_l (eqb e.source x && covers l e.label) (eqb e.target y) h, sym (eqb-true e.target y (and_r (eqb e.source x && covers l e.label) (eqb e.target y) h))))
    g.edges n

reached-to : (g : Graph) (l y n : ℕ) → count_if (λ (x : ℕ). linked g l x y) (range n) ≤ portion_length g backward l y
unfolding linked portion_length
reached-to g l y n =
    reach-count (λ (e : Edge) (x : ℕ). eqb e.source x && covers l e.label && eqb e.target y) (λ (e : Edge). eqb e.target y && covers l e.label) (λ (e : Edge). e.source)
    (λ e x h.
    let first = and_l (eqb e.source x && covers l e.label) (eqb e.target y) h in (
      and_both (eqb e.target y) (covers l e.label) (and_r (eqb e.source x && covers l e.label) (eqb e.target y) h) (and_r (eqb e.source x) (covers l e.label) first),
      sym (eqb-true e.source x (and_l (eqb e.source x) (covers l e.label) first)),
    ))
    g.edges n

-- A portion is at most the longest: a number that is no vertex has none.
near-in : (d : Direction) (n : ℕ) (e : Edge) → fitting n e ≡ true → near d e < n
near-in forward n e t = (fitting-edge n e t).source_in
near-in backward n e t = (fitting-edge n e t).target_in

pub portion-longest : (g : Graph) → WellFormed g → (d : Direction) (l x : ℕ) → portion_length g d l x ≤ longest_portion g d l
unfolding longest_portion portion_length
portion-longest g w d l x = go (ltb x g.vertices) refl
  where
    go : (b : Bool) → ltb x g.vertices ≡ b → portion_length g d l x ≤ largest (portion_length g d l) (range g.vertices)
    go true e = at-most-largest (portion_length g d l) g.vertices x (ltb-true x g.vertices e)
    go false e =
        let out : g.vertices ≤ x = ltb-false x g.vertices e in
        let none : portion_length g d l x ≡ 0 =
        count-passes (λ (e : Edge). eqb (near d e) x && covers l e.label) (fitting g.vertices) g.edges w.edges_fit
        (λ e t. fails (eqb (near d e) x && covers l e.label)
        (λ h. let i : near d e ≡ x = eqb-true (near d e) x (and_l (eqb (near d e) x) (covers l e.label) h) in omega (arith, near-in d g.vertices e t))) in
        omega arith

-- ---- a row's new vertices, and what it costs

module _ (g : Graph) (w : WellFormed g) (q : Query) (S : VertexSet) (v : ℕ) (ok : all (proper q.vertices) q.edges ≡ true) where
  for-longest : (f : Assignment) (e : Edge) → portion_for g v f e ≤ longest_for g v e
  unfolding portion_for longest_for
  for-longest f e = go (eqb e.source v)
    where
      go : (b : Bool) → cond b (portion_length g backward e.label (f e.target)) (portion_length g forward e.label (f e.source))
          ≤ cond b (longest_portion g backward e.label) (longest_portion g forward e.label)
      go true = portion-longest g w backward e.label (f e.target)
      go false = portion-longest g w forward e.label (f e.source)

  reaches-portion : (f : Assignment) (e : Edge) → count_if (reaches g v f e) (range g.vertices) ≤ portion_for g v f e
  unfolding reaches portion_for
  reaches-portion f e = go (eqb e.source v)
    where
      go : (b : Bool)
          → count_if (λ (x : ℕ). cond b (linked g e.label x (f (cond b e.target e.source))) (linked g e.label (f (cond b e.target e.source)) x)) (range g.vertices)
          ≤ cond b (portion_length g backward e.label (f e.target)) (portion_length g forward e.label (f e.source))
      go true = reached-to g e.label (f e.target) g.vertices
      go false = reached-from g e.label (f e.source) g.vertices

  -- A set is at most each of its portions,
  each-portion : (f : Assignment) (e : Edge) → Memᴰ e (keep (between v S) q.edges) → length (candidates g q S v f) ≤ longest_for g v e
  each-portion f e m =
      let asks : (ℕ → Bool) = λ x. fits g q v x && all (λ (d : Edge). reaches g v f d x) (keep (between v S) q.edges) in
      rw (candidates-reach g q S v f ok, length-keep asks (range g.vertices))
      (le_trans (le_trans
      (count-mono (λ (x : ℕ). true) asks (reaches g v f e) (range g.vertices) (all_true (range g.vertices))
      (λ x t h. mem-all (λ (d : Edge). reaches g v f d x) m (and_r (fits g q v x) (all (λ (d : Edge). reaches g v f d x) (keep (between v S) q.edges)) h)))
      (reaches-portion f e)) (for-longest f e))

  -- so at most the least, where an edge runs between v and S.
  pub set-least : touches q v S ≡ true → (f : Assignment) → length (candidates g q S v f) ≤ least_portion g q S v
  unfolding least_portion
  set-least t f =
      at-most-least (longest_for g v) (length (candidates g q S v f)) (keep (between v S) q.edges)
      (rw (length-keep (between v S) q.edges) (ltb-true 0 (count_if (between v S) q.edges) (sym (any-count (between v S) q.edges) ∙ t)))
      (each-portion f)

  pub longest-least : touches q v S ≡ true → (rows : List (List ℕ)) → longest_set g q S v rows ≤ least_portion g q S v
  unfolding longest_set
  longest-least t rows = largest-at-most (λ (row : List ℕ). length (candidates g q S v (look S row))) (least_portion g q S v) rows (λ row. set-least t (look S row))

  grown-less : (r : List ℕ) → length (grown q S v r (candidates g q S v (look S r))) ≤ length (candidates g q S v (look S r))
  unfolding grown
  grown-less r =
      let may : (ℕ → Bool) = λ x. permits q (plus v S) (assign v x (look S r)) in
      let xs : List ℕ = candidates g q S v (look S r) in
      rw (length-map (keep may xs) (λ (x : ℕ). pack q.vertices (plus v S) (assign v x (look S r))), length-keep may xs) (count-le may xs)

  pub extend-within : touches q v S ≡ true → (cache : Bool) (rows : List (List ℕ)) → length (extend_rows cache g q S v rows) ≤ length rows * least_portion g q S v
  extend-within t cache rows =
      rw (extend-rows g q S v ok cache rows, length-flat_map (λ (r : List ℕ). grown q S v r (candidates g q S v (look S r))) rows)
      (total_at_most (λ (r : List ℕ). length (grown q S v r (candidates g q S v (look S r)))) (least_portion g q S v) rows (λ r. le_trans (grown-less r) (set-least t (look S r))))

  row_within : (row : List ℕ) → row_cost g q S v row ≤ sum_of_portions g q S v
  unfolding row_cost sum_of_portions
  row_within row = total-le (portion_for g v (look S row)) (longest_for g v) (keep (between v S) q.edges) (for-longest (look S row))

  after-within : (cache : Bool) (before : Option (List ℕ)) (rows : List (List ℕ)) → cost_after cache g q S v before rows ≤ length rows * sum_of_portions g q S v
  unfolding cost_after
  after-within cache before [] = omega arith
  after-within cache before (row ∷ rows) = go (reuses cache q S v before row) (after-within cache (some row) rows)
    where
      go : (b : Bool) → cost_after cache g q S v (some row) rows ≤ length rows * sum_of_portions g q S v
          → cond b 0 (row_cost g q S v row) + cost_after cache g q S v (some row) rows ≤ length (row ∷ rows) * sum_of_portions g q S v
      go true l = omega arith
      go false l = omega (arith, row_within row)

  pub cost-within : (cache : Bool) (rows : List (List ℕ)) → extend_cost cache g q S v rows ≤ length rows * sum_of_portions g q S v
  unfolding extend_cost
  cost-within cache rows = after-within cache none rows

-- ---- a scan's rows

-- The portions of all vertices hold each edge once.
all-portions : (g : Graph) (l n : ℕ) → total (λ (x : ℕ). portion_length g forward l x) (range n) ≤ edges_of g l
unfolding portion_length edges_of
all-portions g l n =
    rw (total-swap (λ (x : ℕ) (d : Edge). eqb d.source x && covers l d.label) (range n) g.edges, ← total-bit (λ (d : Edge). covers l d.label) g.edges)
    (total-le (λ (d : Edge). count_if (λ (x : ℕ). eqb d.source x && covers l d.label) (range n)) (λ (d : Edge). bit (covers l d.label)) g.edges
    (λ d. reach-one (λ (d : Edge) (x : ℕ). eqb d.source x && covers l d.label) (λ (d : Edge). covers l d.label) (λ (d : Edge). d.source)
    (λ d x h. (and_r (eqb d.source x) (covers l d.label) h, sym (eqb-true d.source x (and_l (eqb d.source x) (covers l d.label) h)))) d n))

module _ (g : Graph) (q : Query) (i : ℕ) (below : i < length q.edges) (ok : all (proper q.vertices) q.edges ≡ true) where
  abbrev e : Edge
  e = edge_at q i

  proper-e : proper q.vertices e ≡ true
  proper-e = all_get_d (proper q.vertices) q.edges i _ below ok

  -- A pair that makes a row is linked by the scanned edge's label.
  scans-linked : (x y : ℕ) → scans g q e x y ≡ true → linked g e.label x y ≡ true
  unfolding scans holds
  scans-linked x y h =
      let rest = and_l _ (permits q (ends e) (ends_at e x y)) h in
      let every = and_r (fits g q e.source x && fits g q e.target y) _ rest in
      let here = imp_use (inside (ends e) e) (holds g (ends_at e x y) e) (all_get_d (λ (d : Edge). inside (ends e) d implies holds g (ends_at e x y) d) q.edges i _ below every) own in
      rw (eqb_refl e.source, eqb-sym e.target e.source, proper-ends q.vertices e proper-e) at here
    where
      own : inside (ends e) e ≡ true
      own =
          and_both (ends e e.source) (ends e e.target) (or_intro_l (eqb e.source e.source) (eqb e.source e.target) (eqb_refl e.source))
          (or_intro_r (eqb e.target e.source) (eqb e.target e.target) (eqb_refl e.target))

  row_count : (x : ℕ) → length (map (λ (y : ℕ). pack q.vertices (ends e) (ends_at e x y)) (keep (scans g q e x) (range g.vertices))) ≤ portion_length g forward e.label x
  row_count x =
      rw (length-map (keep (scans g q e x) (range g.vertices)) (λ (y : ℕ). pack q.vertices (ends e) (ends_at e x y)), length-keep (scans g q e x) (range g.vertices))
      (le_trans (count-mono (λ (y : ℕ). true) (scans g q e x) (linked g e.label x) (range g.vertices) (all_true (range g.vertices)) (λ y t. scans-linked x y))
      (reached-from g e.label x g.vertices))

  pub scan-within : length (scan_rows g q e) ≤ edges_of g e.label
  unfolding scan_rows
  scan-within =
      let N : ℕ = g.vertices in
      let l : ℕ = e.label in
      let from : (ℕ → List (List ℕ)) = λ x. map (λ (y : ℕ). pack q.vertices (ends e) (ends_at e x y)) (keep (scans g q e x) (range N)) in
      rw (length-flat_map from (range N))
      (le_trans (total-le (λ (x : ℕ). length (from x)) (λ (x : ℕ). portion_length g forward l x) (range N) (λ x. row_count x)) (all-portions g l N))

-- ---- a join's rows

pub join-within : (q : Query) (B P : VertexSet) (builds probes : List (List ℕ)) → length (join_rows q B P builds probes) ≤ length builds * length probes
unfolding join_rows partners
join-within q B P builds probes =
    let made : (List ℕ → List (List ℕ)) = λ probe. map (λ (build : List ℕ). pack q.vertices (union B P) (joined B P build probe)) (partners q B P builds probe) in
    rw (length-flat_map made probes, mul_comm (length builds) (length probes))
    (total_at_most (λ (probe : List ℕ). length (made probe)) (length builds) probes few)
  where
    few : (probe : List ℕ) → length (map (λ (build : List ℕ). pack q.vertices (union B P) (joined B P build probe)) (partners q B P builds probe)) ≤ length builds
    few probe =
        let may : (List ℕ → Bool) = λ build. agree q B P build probe && permits q (union B P) (joined B P build probe) in
        rw (length-map (keep may builds) (λ (build : List ℕ). pack q.vertices (union B P) (joined B P build probe)), length-keep may builds) (count-le may builds)
