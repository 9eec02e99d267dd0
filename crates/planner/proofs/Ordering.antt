-- The ordering of a connected query breaks no rule: each extend is by an uncovered vertex with an edge to the covered ones, and n - 2 of
-- them after a scan cover every vertex. Assumes nothing.
use mathlib.Core.Path.{◌≡◌, refl, sym, ◌∙◌, ap, fun_ext}
use mathlib.Core.Bool.{Bool, true, false, cond, not, ◌&&◌, ◌||◌, and-true}
use mathlib.Core.List.{List, [], ◌∷◌, map}
use Prim.Native.Nat.{ℕ, zero, suc, ◌+◌, ◌<◌}
use native.Mathlib.Omega.{arith}
use lib.Dec.{eqb, ltb}
use lib.ListN.{length}
use borrow.Author.Tests.{ltb-true, lt-ltb, le-ltb, eqb-true}
use Rattle.lists.specs.Lists.{bit, range, all, count_if}
use Rattle.lists.proofs.Tests.{clash, and_both}
use Rattle.lists.proofs.Bits.{bit_or}
use Rattle.lists.proofs.All.{length-range}
use Rattle.lists.proofs.Any.{any-count}
use Rattle.lists.proofs.Count.{count-le, count-sum, count-range-one}
use Rattle.lists.proofs.Faults.{first-cons, first-nil, zero-refuse}
use Rattle.graph.specs.Graph.{Edge}
use Rattle.query.specs.Query.{Query, VertexSet, between, touches, connected}
use Rattle.query.specs.Connected.{Beside}
use Rattle.query.proofs.Connected.{beside-counted}
use Rattle.plan.specs.Plan.{extend, ends, plus}
use Rattle.plan.specs.Check.{rule_fault, covered, end_fault, rules_fault}
use Rattle.plan_order.specs.Order.{degree, next_vertex, extends_from}
use Rattle.plan_order.proofs.Choosing.{chosen-below, most-chosen}

-- ---- one extend

module _ (q : Query) (S : VertexSet) where
  -- A vertex with edges to the covered ones is uncovered, and some edge joins it to them; and the other way round.
  degree-some : (v : ℕ) → 0 < degree q S v → (S v ≡ false) × (touches q v S ≡ true)
  unfolding degree
  degree-some v h = go (S v) refl h
    where
      go : (b : Bool) → S v ≡ b → 0 < cond b 0 (count_if (between v S) q.edges) → (S v ≡ false) × (touches q v S ≡ true)
      go true e l = absurd (omega arith)
      go false e l = (e, any-count (between v S) q.edges ∙ lt-ltb 0 _ l)

  some-degree : Beside q S → (v : ℕ) × (v < q.vertices) × (0 < degree q S v)
  unfolding degree
  some-degree b =
      (b.vertex, b.below, rw b.outside (ltb-true 0 _ (sym (any-count (between b.vertex S) q.edges) ∙ b.joined)))

  module _ (some : 0 < q.vertices) where
    next-below : next_vertex q S < q.vertices
    unfolding next_vertex
    next-below = chosen-below _ q.vertices some

    -- In a connected query, where some vertices are covered and some are not, the next one is uncovered and touches the covered ones.
    next-touches : connected q ≡ true → 0 < count_if S (range q.vertices) → count_if S (range q.vertices) < q.vertices
        → (S (next_vertex q S) ≡ false) × (touches q (next_vertex q S) S ≡ true)
    unfolding next_vertex
    next-touches c low high =
        let d = some-degree (beside-counted q S c low high) in
        degree-some (next_vertex q S) (omega (arith, d.2, (most-chosen (degree q S) q.vertices some).most d.0 d.1))

-- ---- vertices covered

-- A list of which as many elements pass as it has.
pub count-full : {A : Type 0} (p : A → Bool) (xs : List A) → count_if p xs ≡ length xs → all p xs ≡ true
unfolding count_if all
count-full p [] e = refl
count-full p (x ∷ xs) e = go (p x) refl (count-full p xs)
  where
    go : (b : Bool) → p x ≡ b → (count_if p xs ≡ length xs → all p xs ≡ true) → (b && all p xs) ≡ true
    go true i f = f (let r : bit true + count_if p xs ≡ suc (length xs) = rw i at e in omega arith)
    go false i f = absurd (let r : bit false + count_if p xs ≡ suc (length xs) = rw i at e in omega (arith, count-le p xs))

-- One vertex below n.
count-one : (v n : ℕ) → v < n → count_if (λ (w : ℕ). eqb w v) (range n) ≡ 1
count-one v n h =
    ap (λ (p : ℕ → Bool). count_if p (range n)) (fun_ext (λ (w : ℕ). sym (and-true (eqb w v))))
    ∙ count-range-one (λ (w : ℕ). true) v n ∙ rw (lt-ltb v n h)

-- One more vertex.
pub count-plus : (v n : ℕ) (S : VertexSet) → v < n → S v ≡ false → count_if (plus v S) (range n) ≡ 1 + count_if S (range n)
count-plus v n S h e =
    count-sum (plus v S) (λ (w : ℕ). eqb w v) S (range n)
    (λ w. bit_or (eqb w v) (S w) (λ t u. clash u (ap S (eqb-true w v t) ∙ e)))
    ∙ ap (λ (k : ℕ). k + count_if S (range n)) (count-one v n h)

-- The two ends of an edge.
pub count-ends : (e : Edge) (n : ℕ) → e.source < n → e.target < n → eqb e.source e.target ≡ false → count_if (ends e) (range n) ≡ 2
count-ends e n s t d =
    count-plus e.source n (λ (w : ℕ). eqb w e.target) s d ∙ ap (λ (k : ℕ). 1 + k) (count-one e.target n t)

-- ---- the extends in turn

module _ (q : Query) where
  pub length-extends : (S : VertexSet) (k : ℕ) → length (extends_from q S k) ≡ k
  unfolding extends_from
  length-extends S zero = refl
  length-extends S (suc k) = ap suc (length-extends (plus (next_vertex q S) S) k)

  module _ (some : 0 < q.vertices) where
    pub extends-below : (S : VertexSet) (k : ℕ) → all (λ (v : ℕ). ltb v q.vertices) (extends_from q S k) ≡ true
    unfolding extends_from all
    extends-below S zero = refl
    extends-below S (suc k) =
        and_both (ltb (next_vertex q S) q.vertices) _ (lt-ltb _ _ (next-below q S some)) (extends-below (plus (next_vertex q S) S) k)

    -- They break no rule, and cover what is left.
    pub extends-pass : connected q ≡ true → (S : VertexSet) (k : ℕ) → 0 < count_if S (range q.vertices) → count_if S (range q.vertices) + k ≡ q.vertices
        → rules_fault q (S ∷ []) (map extend (extends_from q S k)) ≡ 0
    unfolding extends_from rules_fault end_fault rule_fault covered
    extends-pass c S zero l e =
        first-cons _ _ (zero-refuse 15 (ltb 0 0) (le-ltb 0 0 (omega arith)))
        ∙ first-cons _ _ (zero-refuse 18 _ (ap not (count-full S (range q.vertices) (rw length-range (omega arith))))) ∙ first-nil
    extends-pass c S (suc k) l e =
        first-cons _ _ (zero-refuse 16 (S v || not (touches q v S)) (rw (d.0, d.1)))
        ∙ first-cons _ _ (extends-pass c (plus v S) k (omega (arith, more)) (omega (arith, more)))
        ∙ first-nil
      where
        v : ℕ
        v = next_vertex q S

        d : (S v ≡ false) × (touches q v S ≡ true)
        d = next-touches q S some c l (omega arith)

        more : count_if (plus v S) (range q.vertices) ≡ 1 + count_if S (range q.vertices)
        more = count-plus v q.vertices S (next-below q S some) d.0
