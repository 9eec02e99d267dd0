-- Every result in the pile of an accepted plan is within its bound, and so is every step. Assumes nothing.
use mathlib.Core.Path.{◌≡◌, refl, ap, ap₂}
use mathlib.Core.Bool.{Bool, true, not, ◌&&◌}
use mathlib.Core.List.{List, [], ◌∷◌}
use Prim.Native.Nat.{ℕ, ◌+◌, ◌*◌, max, ◌≤◌}
use native.Mathlib.Nat.{le_refl, le_trans, mul-le-mul, mul-le-mul_right}
use native.Mathlib.Omega.{arith}
use lib.Dec.{leb}
use lib.ListN.{length}
use borrow.Author.Tests.{ltb-true, le-leb}
use Rattle.lists.specs.Lists.{all, total, largest}
use Rattle.lists.proofs.Tests.{and_l, and_r, and_both, or-false-r, not-false}
use Rattle.lists.proofs.Faults.{first_head, first_tail, refuse-zero}
use Rattle.graph.specs.Graph.{Graph}
use Rattle.graph.proofs.WellFormed.{WellFormed}
use Rattle.query.specs.Query.{Query, VertexSet, touches}
use Rattle.plan.specs.Plan.{Operator, scan, extend, join, plus, union}
use Rattle.plan.specs.Inner.Pile.{named}
use Rattle.plan.specs.Check.{rule_fault, rules_fault}
use Rattle.matching.specs.Row.{width}
use Rattle.matching.proofs.Cuts.{proper}
use Rattle.operator_spec.specs.Join.{heads}
use Rattle.run_spec.specs.Pile.{Result, apply, pile_after, top_rows, top_need, cost_of, build_of, probe_of, Step, step_of, steps_from}
use Rattle.run_spec.proofs.Whole.{sets_of, sets-apply}
use Rattle.plan_bounds.specs.Bounds.{Bound, rows_bound, cost_bound, apply_bound, bounds_after, StepBound, step_bounds, top_rows_bound, top_need_bound, least_portion, sum_of_portions}
use Rattle.plan_bounds.proofs.Capping.{heads-mono}
use Rattle.plan_bounds.proofs.Reached.{scan-within, extend-within, longest-least, cost-within, join-within}

-- A result over the same set as a bound, with rows and a need that do not pass it.
pub record Within (r : Result) (b : Bound) : Type 0 where
  pub vertices : r.vertices ≡ b.vertices
  pub rows : length r.rows ≤ b.rows
  pub need : r.need ≤ b.need

abbrev pub AllWithin : List Result → List Bound → Type 0
AllWithin [] [] = Unit {0}
AllWithin [] (b ∷ bounds) = ⊥
AllWithin (r ∷ pile) [] = ⊥
AllWithin (r ∷ pile) (b ∷ bounds) = Within r b × AllWithin pile bounds

-- No bound of the pile has more than so many rows.
abbrev pub AllFew : ℕ → List Bound → Type 0
AllFew most [] = Unit {0}
AllFew most (b ∷ bounds) = (b.rows ≤ most) × AllFew most bounds

-- A step's numbers, but for its cost, are at most so many.
abbrev pub few : ℕ → Step → Bool
few most s = leb s.rows most && (leb s.build most && leb s.probe most)

none-few : (most : ℕ) → (leb 0 most && leb 0 most) ≡ true
none-few most = and_both _ _ (le-leb 0 most (omega arith)) (le-leb 0 most (omega arith))

-- The two sums of a join's need, over numbers that do not fall.
join-sums : (n m w r s h k p t u : ℕ) → n ≤ m → w ≤ r → s ≤ h → k ≤ p → t ≤ u → (x : ℕ)
    → max (n + w) (w + s + k + t + x) ≤ max (m + r) (r + h + p + u + x)
join-sums n m w r s h k p t u a b c d e x = omega arith

module _ (g : Graph) (formed : WellFormed g) (q : Query) (ok : all (proper q.vertices) q.edges ≡ true) where
  -- An edge runs between an extend's vertex and what is covered.
  asks : (v : ℕ) (S : VertexSet) (sets : List VertexSet) → rule_fault q (extend v) (S ∷ sets) ≡ 0 → touches q v S ≡ true
  unfolding rule_fault
  asks v S sets e = not-false (touches q v S) (or-false-r (S v) (not (touches q v S)) (refuse-zero 15 _ e))

  module _ (cache : Bool) where
    extended : (v : ℕ) (r : Result) (b : Bound) (pile : List Result) (bounds : List Bound) → touches q v r.vertices ≡ true → Within r b → AllWithin pile bounds
        → AllWithin (apply cache g q (extend v) (r ∷ pile)) (apply_bound g q (extend v) (b ∷ bounds))
    unfolding apply apply_bound rows_bound
    extended v r b pile bounds t h rest = (
      record {
        vertices = ap (plus v) h.vertices;
        rows =
            rw (← h.vertices)
            (le_trans (extend-within g formed q r.vertices v ok t cache r.rows) (mul-le-mul_right (least_portion g q r.vertices v) h.rows));
        need =
            rw (← h.vertices)
            (omega (arith, h.need, longest-least g formed q r.vertices v ok t r.rows));
      },
      rest,
    )

    joined : (p b : Result) (c d : Bound) (pile : List Result) (bounds : List Bound) → Within p c → Within b d → AllWithin pile bounds
        → AllWithin (apply cache g q join (p ∷ b ∷ pile)) (apply_bound g q join (c ∷ d ∷ bounds))
    unfolding apply apply_bound rows_bound
    joined p b c d pile bounds h i rest = (
      record {
        vertices = ap₂ union i.vertices h.vertices;
        rows = le_trans (join-within q b.vertices p.vertices b.rows p.rows) (mul-le-mul i.rows h.rows);
        need =
            rw (← h.vertices, ← i.vertices)
            (join-sums b.need d.need (length b.rows * width q.vertices b.vertices) (d.rows * width q.vertices b.vertices) (length b.rows) d.rows
            (heads (length b.rows)) (heads d.rows) p.need c.need i.need (mul-le-mul_right (width q.vertices b.vertices) i.rows) i.rows
            (heads-mono (length b.rows) d.rows i.rows) h.need (width q.vertices (union b.vertices p.vertices)));
      },
      rest,
    )

    -- One operator that breaks no rule.
    pub within-apply : (o : Operator) (pile : List Result) (bounds : List Bound) → named q o ≡ true → rule_fault q o (sets_of pile) ≡ 0 → AllWithin pile bounds
        → AllWithin (apply cache g q o pile) (apply_bound g q o bounds)
    unfolding apply apply_bound rows_bound rule_fault
    within-apply (scan i) pile bounds n e h =
        (record { vertices = refl; rows = scan-within g q i (ltb-true i (length q.edges) n) ok; need = le_refl 2 }, h)
    within-apply (extend v) [] bounds n e h = absurd (let z : ◌≡◌ {A = ℕ} 15 0 = e in omega arith)
    within-apply (extend v) (r ∷ pile) [] n e h = absurd h
    within-apply (extend v) (r ∷ pile) (b ∷ bounds) n e h = extended v r b pile bounds (asks v r.vertices (sets_of pile) e) h.0 h.1
    within-apply join [] bounds n e h = absurd (let z : ◌≡◌ {A = ℕ} 15 0 = e in omega arith)
    within-apply join (p ∷ []) bounds n e h = absurd (let z : ◌≡◌ {A = ℕ} 15 0 = e in omega arith)
    within-apply join (p ∷ b ∷ pile) [] n e h = absurd h
    within-apply join (p ∷ b ∷ pile) (c ∷ []) n e h = absurd h.1
    within-apply join (p ∷ b ∷ pile) (c ∷ d ∷ bounds) n e h = joined p b c d pile bounds h.0 h.1.0 h.1.1

    -- All of them.
    pub within-after : (os : List Operator) (pile : List Result) (bounds : List Bound) → all (named q) os ≡ true → rules_fault q (sets_of pile) os ≡ 0 → AllWithin pile bounds
        → AllWithin (pile_after cache g q pile os) (bounds_after g q bounds os)
    unfolding all rules_fault pile_after bounds_after
    within-after [] pile bounds n e h = h
    within-after (o ∷ os) pile bounds n e h =
        within-after os (apply cache g q o pile) (apply_bound g q o bounds) (and_r (named q o) (all (named q) os) n)
        (rw (sets-apply cache g q o pile) (first_head _ [] (first_tail _ _ e)))
        (within-apply o pile bounds (and_l (named q o) (all (named q) os) n) (first_head _ _ e) h)

    -- An operator costs no more than its bound,
    cost-one : (o : Operator) (pile : List Result) (bounds : List Bound) → AllWithin pile bounds → cost_of cache g q o pile ≤ cost_bound g q o bounds
    unfolding cost_of cost_bound
    cost-one (scan i) pile bounds h = le_refl 0
    cost-one (extend v) [] [] h = le_refl 0
    cost-one (extend v) [] (b ∷ bounds) h = absurd h
    cost-one (extend v) (r ∷ pile) [] h = absurd h
    cost-one (extend v) (r ∷ pile) (b ∷ bounds) h =
        rw (← h.0.vertices)
        (le_trans (cost-within g formed q r.vertices v ok cache r.rows) (mul-le-mul_right (sum_of_portions g q r.vertices v) h.0.rows))
    cost-one join pile bounds h = le_refl 0

    pub costs-within : (os : List Operator) (pile : List Result) (bounds : List Bound) → all (named q) os ≡ true → rules_fault q (sets_of pile) os ≡ 0 → AllWithin pile bounds
        → total (λ (s : Step). s.cost) (steps_from cache g q pile os) ≤ total (λ (s : StepBound). s.cost) (step_bounds g q bounds os)
    unfolding all rules_fault total steps_from step_of step_bounds
    costs-within [] pile bounds n e h = le_refl 0
    costs-within (o ∷ os) pile bounds n e h =
        omega (
          arith,
          cost-one o pile bounds h,
          costs-within os (apply cache g q o pile) (apply_bound g q o bounds) (and_r (named q o) (all (named q) os) n)
              (rw (sets-apply cache g q o pile) (first_head _ [] (first_tail _ _ e)))
              (within-apply o pile bounds (and_l (named q o) (all (named q) os) n) (first_head _ _ e) h),
        )

    -- and has no more rows, build rows and probe rows than the largest of the bounds.
    few-one : (most : ℕ) (o : Operator) (pile : List Result) (bounds : List Bound) → named q o ≡ true → rule_fault q o (sets_of pile) ≡ 0 → AllWithin pile bounds
        → AllFew most bounds → rows_bound g q o bounds ≤ most
        → (few most (step_of cache g q o pile) ≡ true) × AllFew most (apply_bound g q o bounds)
    unfolding step_of top_rows apply apply_bound build_of probe_of rule_fault rows_bound
    few-one most (scan i) pile bounds n e h f l =
        (and_both _ _ (le-leb _ _ (le_trans (within-apply (scan i) pile bounds n e h).0.rows l)) (none-few most), (l, f))
    few-one most (extend v) [] bounds n e h f l = absurd (let z : ◌≡◌ {A = ℕ} 15 0 = e in omega arith)
    few-one most (extend v) (r ∷ pile) [] n e h f l = absurd h
    few-one most (extend v) (r ∷ pile) (b ∷ bounds) n e h f l =
        (and_both _ _ (le-leb _ _ (le_trans (within-apply (extend v) (r ∷ pile) (b ∷ bounds) n e h).0.rows l)) (none-few most), (l, f.1))
    few-one most join [] bounds n e h f l = absurd (let z : ◌≡◌ {A = ℕ} 15 0 = e in omega arith)
    few-one most join (p ∷ []) bounds n e h f l = absurd (let z : ◌≡◌ {A = ℕ} 15 0 = e in omega arith)
    few-one most join (p ∷ b ∷ pile) [] n e h f l = absurd h
    few-one most join (p ∷ b ∷ pile) (c ∷ []) n e h f l = absurd h.1
    few-one most join (p ∷ b ∷ pile) (c ∷ d ∷ bounds) n e h f l = (
      and_both _ _ (le-leb _ _ (le_trans (within-apply join (p ∷ b ∷ pile) (c ∷ d ∷ bounds) n e h).0.rows l))
          (and_both _ _ (le-leb _ _ (le_trans h.1.0.rows f.1.0)) (le-leb _ _ (le_trans h.0.rows f.0))),
      (l, f.1.1),
    )

    pub steps-few : (most : ℕ) (os : List Operator) (pile : List Result) (bounds : List Bound) → all (named q) os ≡ true → rules_fault q (sets_of pile) os ≡ 0
        → AllWithin pile bounds → AllFew most bounds → largest (λ (s : StepBound). s.rows) (step_bounds g q bounds os) ≤ most
        → all (few most) (steps_from cache g q pile os) ≡ true
    unfolding all rules_fault steps_from step_bounds largest
    steps-few most [] pile bounds n e h f l = refl
    steps-few most (o ∷ os) pile bounds n e h f l =
        let here = few-one most o pile bounds (and_l (named q o) (all (named q) os) n) (first_head _ _ e) h f (omega arith) in
        and_both _ _ here.0
        (steps-few most os (apply cache g q o pile) (apply_bound g q o bounds) (and_r (named q o) (all (named q) os) n)
        (rw (sets-apply cache g q o pile) (first_head _ [] (first_tail _ _ e)))
        (within-apply o pile bounds (and_l (named q o) (all (named q) os) n) (first_head _ _ e) h) here.1 (omega arith))

-- The result on top.
pub top-rows : (pile : List Result) (bounds : List Bound) → AllWithin pile bounds → length (top_rows pile) ≤ top_rows_bound bounds
unfolding top_rows top_rows_bound
top-rows [] [] h = le_refl 0
top-rows [] (b ∷ bounds) h = absurd h
top-rows (r ∷ pile) [] h = absurd h
top-rows (r ∷ pile) (b ∷ bounds) h = h.0.rows

pub top-need : (pile : List Result) (bounds : List Bound) → AllWithin pile bounds → top_need pile ≤ top_need_bound bounds
unfolding top_need top_need_bound
top-need [] [] h = le_refl 0
top-need [] (b ∷ bounds) h = absurd h
top-need (r ∷ pile) [] h = absurd h
top-need (r ∷ pile) (b ∷ bounds) h = h.0.need
