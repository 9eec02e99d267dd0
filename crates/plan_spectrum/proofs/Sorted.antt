-- The orderings stand in order: by scan index, then by extended vertices in turn. Assumes nothing.
use mathlib.Core.Path.{◌≡◌, refl, sym, ◌∙◌, ap, subst}
use mathlib.Core.Bool.{Bool, true, false, cond, ◌&&◌, ◌||◌}
use mathlib.Core.List.{List, [], ◌∷◌, ◌++◌, flat_map}
use Prim.Native.Nat.{ℕ, zero, suc, ◌-◌}
use native.Mathlib.Omega.{arith}
use lib.Dec.{eqb, ltb}
use lib.ListN.{length}
use borrow.Author.Tests.{lt-ltb, ltb-true}
use Rattle.lists.specs.Lists.{range, all}
use Rattle.lists.proofs.Tests.{clash, and_l, and_r, and_both, or_intro_l, or_intro_r, eqb_refl}
use Rattle.lists.proofs.All.{all_append, all-follows, all-mem}
use Rattle.lists.proofs.Count.{all_map}
use Rattle.lists.proofs.Maps.{flat_map-suc}
use Rattle.query.specs.Query.{Query, VertexSet, edge_at}
use Rattle.plan.specs.Plan.{ends, plus}
use Rattle.plan_spectrum.specs.Orders.{extends, before, orders_from, orderings, comes_before, in_order}
use Rattle.plan_spectrum.proofs.Steps.{orders_by, orders_of, orders-suc, orderings-scans}

-- The list begins with a number below n.
abbrev starts_below : ℕ → List ℕ → Bool
starts_below n [] = false
starts_below n (x ∷ xs) = ltb x n

before-in-order : (x : ℕ) (rows : List (List ℕ)) → in_order rows ≡ true → in_order (before x rows) ≡ true
unfolding in_order comes_before
before-in-order x [] e = refl
before-in-order x (row ∷ rows) e =
    and_both (all (comes_before (x ∷ row)) (before x rows)) (in_order (before x rows))
    (all_map (comes_before (x ∷ row)) (λ (r : List ℕ). x ∷ r) rows
    ∙ all-follows (comes_before row) (λ (r : List ℕ). comes_before (x ∷ row) (x ∷ r)) rows (and_l (all (comes_before row) rows) (in_order rows) e)
    (λ r h. or_intro_r (ltb x x) (eqb x x && comes_before row r) (and_both (eqb x x) (comes_before row r) (eqb_refl x) h)))
    (before-in-order x rows (and_r (all (comes_before row) rows) (in_order rows) e))

append-in-order : (xs bs : List (List ℕ)) → in_order xs ≡ true → in_order bs ≡ true → all (λ (a : List ℕ). all (comes_before a) bs) xs ≡ true → in_order (xs ++ bs) ≡ true
unfolding in_order all
append-in-order [] bs e f h = f
append-in-order (a ∷ xs) bs e f h =
    and_both (all (comes_before a) (xs ++ bs)) (in_order (xs ++ bs))
    (all_append (comes_before a) xs bs
    ∙ and_both (all (comes_before a) xs) (all (comes_before a) bs) (and_l (all (comes_before a) xs) (in_order xs) e)
    (and_l (all (comes_before a) bs) (all (λ (b : List ℕ). all (comes_before b) bs) xs) h))
    (append-in-order xs bs (and_r (all (comes_before a) xs) (in_order xs) e) f (and_r (all (comes_before a) bs) (all (λ (b : List ℕ). all (comes_before b) bs) xs) h))

-- What begins below n comes before what begins with n.
below-first : (n : ℕ) (xs rows : List (List ℕ)) → all (starts_below n) xs ≡ true → all (λ (a : List ℕ). all (comes_before a) (before n rows)) xs ≡ true
unfolding comes_before
below-first n xs rows e = all-follows (starts_below n) (λ (a : List ℕ). all (comes_before a) (before n rows)) xs e one
  where
    one : (a : List ℕ) → starts_below n a ≡ true → all (comes_before a) (before n rows) ≡ true
    one [] h = clash h refl
    one (x ∷ xs) h =
        all_map (comes_before (x ∷ xs)) (λ (r : List ℕ). n ∷ r) rows
        ∙ all-mem (λ (r : List ℕ). comes_before (x ∷ xs) (n ∷ r)) rows (λ r m. or_intro_l (ltb x n) (eqb x n && comes_before xs r) h)

starts-higher : (n : ℕ) (xs : List (List ℕ)) → all (starts_below n) xs ≡ true → all (starts_below (suc n)) xs ≡ true
starts-higher n xs e = all-follows (starts_below n) (starts_below (suc n)) xs e one
  where
    one : (a : List ℕ) → starts_below n a ≡ true → starts_below (suc n) a ≡ true
    one [] h = h
    one (x ∷ xs) h = lt-ltb x (suc n) (omega (arith, ltb-true x n h))

starts-here : (n : ℕ) (rows : List (List ℕ)) → all (starts_below (suc n)) (before n rows) ≡ true
starts-here n rows =
    all_map (starts_below (suc n)) (λ (r : List ℕ). n ∷ r) rows ∙ all-mem (λ (r : List ℕ). ltb n (suc n)) rows (λ r m. lt-ltb n (suc n) (omega arith))

-- The lists of each number below n that passes a test, one number after the other.
module _ (t : ℕ → Bool) (rows : ℕ → List (List ℕ)) (ok : (v : ℕ) → in_order (rows v) ≡ true) where
  abbrev made : ℕ → List (List ℕ)
  made v = cond (t v) (before v (rows v)) []

  step : (n : ℕ) (b : Bool) (xs : List (List ℕ)) → in_order xs ≡ true → all (starts_below n) xs ≡ true
      → (in_order (xs ++ cond b (before n (rows n)) []) ≡ true) × (all (starts_below (suc n)) (xs ++ cond b (before n (rows n)) []) ≡ true)
  unfolding in_order all
  step n true xs e s = (
    append-in-order xs (before n (rows n)) e (before-in-order n (rows n) (ok n)) (below-first n xs (rows n) s),
    all_append (starts_below (suc n)) xs (before n (rows n))
        ∙ and_both (all (starts_below (suc n)) xs) (all (starts_below (suc n)) (before n (rows n))) (starts-higher n xs s) (starts-here n (rows n)),
  )
  step n false xs e s = (
    append-in-order xs [] e refl (all-mem (λ (a : List ℕ). true) xs (λ a m. refl)),
    all_append (starts_below (suc n)) xs [] ∙ and_both (all (starts_below (suc n)) xs) true (starts-higher n xs s) refl,
  )

  both : (n : ℕ) → (in_order (flat_map made (range n)) ≡ true) × (all (starts_below n) (flat_map made (range n)) ≡ true)
  unfolding in_order all flat_map range
  both zero = (refl, refl)
  both (suc n) =
      let h = both n in
      subst (λ (l : List (List ℕ)). (in_order l ≡ true) × (all (starts_below (suc n)) l ≡ true)) (sym (flat_map-suc made n)) (step n (t n) (flat_map made (range n)) h.0 h.1)

  pub made-in-order : (n : ℕ) → in_order (flat_map made (range n)) ≡ true
  made-in-order n = (both n).0

module _ (q : Query) where
  orders-in-order : (S : VertexSet) (k : ℕ) → in_order (orders_from q S k) ≡ true
  unfolding orders_from in_order all
  orders-in-order S zero = refl
  orders-in-order S (suc k) =
      ap in_order (orders-suc q S k)
      ∙ made-in-order (extends q S) (λ (v : ℕ). orders_from q (plus v S) k) (λ v. orders-in-order (plus v S) k) q.vertices

  pub orderings-in-order : in_order (orderings q) ≡ true
  orderings-in-order =
      ap in_order (orderings-scans q)
      ∙ made-in-order (λ (i : ℕ). true) (λ (i : ℕ). orders_from q (ends (edge_at q i)) (q.vertices - 2))
      (λ i. orders-in-order (ends (edge_at q i)) (q.vertices - 2)) (length q.edges)
