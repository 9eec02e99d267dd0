-- How many orderings there are, and how many numbers each has. Assumes nothing.
use mathlib.Core.Path.{◌≡◌, refl, sym, ◌∙◌, ap, subst}
use mathlib.Core.Bool.{Bool, true, false, cond, not}
use mathlib.Core.List.{List, [], ◌∷◌, ◌++◌, map, flat_map}
use Prim.Native.Nat.{ℕ, zero, suc, ◌+◌, ◌-◌, ◌*◌, ◌≤◌, ◌<◌}
use native.Mathlib.Nat.{zero-mul, mul-le-mul_right}
use native.Mathlib.Omega.{arith}
use lib.Dec.{eqb, ltb}
use lib.ListN.{length, length-append, length-map}
use borrow.Author.Tests.{eqb-true, eq-eqb, lt-ltb, ltb-true}
use Rattle.lists.specs.Lists.{bit, range, all, count_if, total}
use Rattle.lists.proofs.Tests.{clash, and_l, and_r}
use Rattle.lists.proofs.All.{all-mem, all-follows, all-range, all_true, length-range}
use Rattle.lists.proofs.Count.{all_map, all-flat_map, length-flat_map, count-mono, count-sum, count-all, total-most}
use Rattle.query.specs.Query.{Query, VertexSet, edge_at}
use Rattle.plan.specs.Plan.{ends, plus}
use Rattle.matching.proofs.Cuts.{proper}
use Rattle.planner.proofs.Ordering.{count-plus}
use Rattle.plan_spectrum.specs.Orders.{extends, before, orders_from, orderings}
use Rattle.plan_spectrum.specs.Inner.Parts.{laid}
use Rattle.plan_spectrum.proofs.Steps.{orders_by, orders_of, orders-suc, orderings-scans, extends-uncovered}
use Rattle.plan_spectrum.proofs.Exact.{scan-two}

-- Each list has k numbers.
abbrev pub wide : ℕ → List (List ℕ) → Bool
wide k rows = all (λ (row : List ℕ). eqb (length row) k) rows

all-each : {A : Type 0} (p : A → Bool) (xs : List A) → ((x : A) → p x ≡ true) → all p xs ≡ true
all-each p xs h = all-mem p xs (λ x m. h x)

pub before-wide : (x k : ℕ) (rows : List (List ℕ)) → wide k rows ≡ true → wide (suc k) (before x rows) ≡ true
before-wide x k rows e =
    all_map (λ (row : List ℕ). eqb (length row) (suc k)) (λ (row : List ℕ). x ∷ row) rows
    ∙ all-follows (λ (row : List ℕ). eqb (length row) k) (λ (row : List ℕ). eqb (suc (length row)) (suc k)) rows e
    (λ row h. eq-eqb (suc (length row)) (suc k) (ap suc (eqb-true (length row) k h)))

-- What is made of the numbers below n, one after the other.
pub flat-wide : (k : ℕ) (made : ℕ → List (List ℕ)) (n : ℕ) → ((v : ℕ) → wide k (made v) ≡ true) → wide k (flat_map made (range n)) ≡ true
flat-wide k made n h =
    all-flat_map (λ (row : List ℕ). eqb (length row) k) made (range n) ∙ all-each (λ (v : ℕ). wide k (made v)) (range n) h

-- The words of orders that are each put after a prefix.
pub laid-length : (prefix : List ℕ) (k : ℕ) (rows : List (List ℕ)) → wide k rows ≡ true → length (laid prefix rows) ≡ length rows * (length prefix + k)
unfolding laid flat_map all
laid-length prefix k [] e = sym (zero-mul (length prefix + k))
laid-length prefix k (row ∷ rows) e =
    let one : length row ≡ k = eqb-true (length row) k (and_l (eqb (length row) k) (wide k rows) e) in
    let rest : length (laid prefix rows) ≡ length rows * (length prefix + k) = laid-length prefix k rows (and_r (eqb (length row) k) (wide k rows) e) in
    length-append (prefix ++ row) (laid prefix rows) ∙ omega (arith, length-append prefix row)

-- The product of the numbers up to k.
unfoldable ways : ℕ → ℕ
ways zero = 1
ways (suc k) = suc k * ways k

ways-six : (k : ℕ) → k ≤ 3 → ways k ≤ 6
unfolding ways
ways-six zero h = omega arith
ways-six (suc zero) h = omega arith
ways-six (suc (suc zero)) h = omega arith
ways-six (suc (suc (suc zero))) h = omega arith
ways-six (suc (suc (suc (suc k)))) h = absurd (omega arith)

-- A sum over those that pass a test, each of which has at most so much.
total_kept : (s t : ℕ → Bool) (f : ℕ → ℕ) (most : ℕ) (xs : List ℕ) → all s xs ≡ true → ((x : ℕ) → s x ≡ true → t x ≡ true → f x ≤ most)
    → ((x : ℕ) → t x ≡ false → f x ≡ 0) → total f xs ≤ count_if t xs * most
unfolding total count_if all
total_kept s t f most [] e high low = omega (arith, zero-mul most)
total_kept s t f most (x ∷ xs) e high low =
    go (t x) refl (total_kept s t f most xs (and_r (s x) (all s xs) e) high low)
  where
    go : (b : Bool) → t x ≡ b → total f xs ≤ count_if t xs * most → f x + total f xs ≤ (bit b + count_if t xs) * most
    go true i h = omega (arith, high x (and_l (s x) (all s xs) e) i)
    go false i h = omega (arith, low x i)

module _ (q : Query) where
  pub orders-wide : (S : VertexSet) (k : ℕ) → wide k (orders_from q S k) ≡ true
  unfolding orders_from all
  orders-wide S zero = refl
  orders-wide S (suc k) =
      ap (wide (suc k)) (orders-suc q S k) ∙ flat-wide (suc k) (orders_by q S k) q.vertices (λ v. go v (orders-wide (plus v S) k) (extends q S v))
    where
      go : (v : ℕ) → wide k (orders_from q (plus v S) k) ≡ true → (b : Bool) → wide (suc k) (cond b (before v (orders_from q (plus v S) k)) []) ≡ true
      go v h true = before-wide v k (orders_from q (plus v S) k) h
      go v h false = refl

  pub by_wide : (S : VertexSet) (k v : ℕ) → wide (suc k) (orders_by q S k v) ≡ true
  unfolding all
  by_wide S k v = go (extends q S v)
    where
      go : (b : Bool) → wide (suc k) (cond b (before v (orders_from q (plus v S) k)) []) ≡ true
      go true = before-wide v k (orders_from q (plus v S) k) (orders-wide (plus v S) k)
      go false = refl

  pub orderings-wide : wide (suc (q.vertices - 2)) (orderings q) ≡ true
  orderings-wide =
      ap (wide (suc (q.vertices - 2))) (orderings-scans q)
      ∙ flat-wide (suc (q.vertices - 2)) (orders_of q) (length q.edges)
      (λ i. before-wide i (q.vertices - 2) (orders_from q (ends (edge_at q i)) (q.vertices - 2)) (orders-wide (ends (edge_at q i)) (q.vertices - 2)))

  -- At most as many vertices may be next as are uncovered.
  few-next : (S : VertexSet) (k : ℕ) → count_if S (range q.vertices) + k ≡ q.vertices → count_if (extends q S) (range q.vertices) ≤ k
  few-next S k e =
      omega (
        arith,
        count-mono (λ (v : ℕ). true) (extends q S) (λ (v : ℕ). not (S v)) (range q.vertices) (all_true (range q.vertices))
            (λ v t h. ap not (extends-uncovered q S v h)),
        count-sum (λ (v : ℕ). true) (λ (v : ℕ). not (S v)) S (range q.vertices) (λ v. one (S v)),
        count-all (λ (v : ℕ). true) (range q.vertices) (all_true (range q.vertices)),
        length-range q.vertices,
      )
    where
      one : (b : Bool) → bit true ≡ bit (not b) + bit b
      one true = refl
      one false = refl

  few-orders : (S : VertexSet) (k : ℕ) → count_if S (range q.vertices) + k ≡ q.vertices → length (orders_from q S k) ≤ ways k
  unfolding orders_from ways
  few-orders S zero e = omega arith
  few-orders S (suc k) e =
      let all_of : length (orders_from q S (suc k)) ≡ total (λ (v : ℕ). length (orders_by q S k v)) (range q.vertices)
      = ap length (orders-suc q S k) ∙ length-flat_map (orders_by q S k) (range q.vertices) in
      let kept : total (λ (v : ℕ). length (orders_by q S k v)) (range q.vertices) ≤ count_if (extends q S) (range q.vertices) * ways k
      = total_kept (λ (v : ℕ). ltb v q.vertices) (extends q S) (λ (v : ℕ). length (orders_by q S k v)) (ways k) (range q.vertices)
      (all-range (λ (v : ℕ). ltb v q.vertices) q.vertices (λ v h. lt-ltb v q.vertices h)) (λ v. high v (few-orders (plus v S) k)) low in
      let more : count_if (extends q S) (range q.vertices) * ways k ≤ suc k * ways k = mul-le-mul_right (ways k) (few-next S (suc k) e) in
      omega arith
    where
      high : (v : ℕ) → (count_if (plus v S) (range q.vertices) + k ≡ q.vertices → length (orders_from q (plus v S) k) ≤ ways k) → ltb v q.vertices ≡ true → extends q S v ≡ true → length (orders_by q S k v) ≤ ways k
      high v f l x =
          subst (λ (b : Bool). length (cond b (before v (orders_from q (plus v S) k)) []) ≤ ways k) (sym x)
          (omega (arith, length-map (orders_from q (plus v S) k) (λ (row : List ℕ). v ∷ row), f (omega (arith, count-plus v q.vertices S (ltb-true v q.vertices l) (extends-uncovered q S v x), e))))

      low : (v : ℕ) → extends q S v ≡ false → length (orders_by q S k v) ≡ 0
      low v x = subst (λ (b : Bool). length (cond b (before v (orders_from q (plus v S) k)) []) ≡ 0) (sym x) refl

  pub few-orderings : 2 ≤ q.vertices → q.vertices ≤ 5 → length q.edges ≤ 24 → all (proper q.vertices) q.edges ≡ true → length (orderings q) ≤ 144
  few-orderings low high few ok =
      omega (
        arith,
        ap length (orderings-scans q) ∙ length-flat_map (orders_of q) (range (length q.edges)),
        total-most (λ (i : ℕ). length (orders_of q i)) 6 (length q.edges) six,
      )
    where
      six : (i : ℕ) → i < length q.edges → length (orders_of q i) ≤ 6
      six i h =
          omega (
            arith,
            length-map (orders_from q (ends (edge_at q i)) (q.vertices - 2)) (λ (row : List ℕ). i ∷ row),
            few-orders (ends (edge_at q i)) (q.vertices - 2) (omega (arith, scan-two q low ok i h, low)),
            ways-six (q.vertices - 2) (omega arith),
          )
