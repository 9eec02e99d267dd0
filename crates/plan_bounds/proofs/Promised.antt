-- Where the bounds lie below the cap and scratch and list reach theirs, a run is never refused by 20, 21 or 30. Assumes nothing.
use mathlib.Core.Path.{◌≡◌, refl, sym, ◌∙◌}
use mathlib.Core.Bool.{Bool, true, false, ◌&&◌, ◌||◌}
use mathlib.Core.List.{List, [], ◌∷◌}
use Prim.Native.Nat.{ℕ, ◌*◌, ◌≤◌, ◌<◌}
use native.Mathlib.Nat.{le_trans, mul-le-mul_left, mul-le-mul_right}
use native.Mathlib.Omega.{arith}
use lib.Dec.{eqb, leb, ltb}
use lib.ListN.{length}
use borrow.Author.Tests.{le-ltb, leb-true, le-leb, eq-eqb}
use Rattle.lists.specs.Lists.{all, any, total}
use Rattle.lists.specs.Refusal.{refuse}
use Rattle.lists.proofs.Tests.{clash, and_l, and_r, and_both, or-false, or-false-l, or-false-r}
use Rattle.lists.proofs.Any.{any-flat_map, any-fails}
use Rattle.lists.proofs.All.{all-and}
use Rattle.lists.proofs.Maps.{length-image}
use Rattle.lists.proofs.Faults.{first_head, first_tail, first-cons, first_one, first-after, zero-refuse}
use Rattle.graph.specs.Graph.{Graph}
use Rattle.graph.specs.Store.{graph_in, store_fault}
use Rattle.adjacency.proofs.Accepted.{graph-formed}
use Rattle.query.specs.Query.{Query}
use Rattle.query.specs.File.{vertex_count, query_of}
use Rattle.query_file.proofs.Structs.{at-least-vertices}
use Rattle.plan.specs.Plan.{Operator}
use Rattle.plan.specs.File.{operator_count, operator_at, place, operators_of, check_fault}
use Rattle.plan_file.proofs.Accepted.{Accepted, accepted}
use Rattle.run_spec.specs.Pile.{Step, pile_after}
use Rattle.run_spec.specs.Run.{plan_steps, plan_rows, plan_need, plan_cost, plan_build, plan_probe, max_number, plan_numbers, plan_passes, counted, run_fault, run_answer}
use Rattle.run_spec.proofs.Demand.{checked-edges}
use Rattle.run_spec.proofs.Records.{count-steps}
use Rattle.plan_bounds.specs.Bounds.{bounds_after, list_bound, need_bound, costs_bound, largest_bound}
use Rattle.plan_bounds.specs.Answer.{bounds_fault, bounds_answer}
use Rattle.plan_bounds.specs.Promise.{NotShort, NeverShort}
use Rattle.plan_bounds.proofs.Steady.{few, within-after, costs-within, steps-few, top-rows, top-need}

-- What is summed is at least each number,
each-of-total : {A : Type 0} (f : A → ℕ) (k : ℕ) (xs : List A) → total f xs ≤ k → all (λ x. leb (f x) k) xs ≡ true
unfolding all total
each-of-total f k [] l = refl
each-of-total f k (x ∷ xs) l = and_both _ _ (le-leb (f x) k (omega arith)) (each-of-total f k xs (omega arith))

-- and numbers of at most k sum to at most k a number.
total-of-each : {A : Type 0} (f : A → ℕ) (t : A → Bool) (k : ℕ) (xs : List A) → ((x : A) → t x ≡ true → f x ≤ k) → all t xs ≡ true → total f xs ≤ length xs * k
unfolding all total
total-of-each f t k [] h a = omega arith
total-of-each f t k (x ∷ xs) h a =
    omega (arith, h x (and_l (t x) (all t xs) a), total-of-each f t k xs h (and_r (t x) (all t xs) a))

module _ (store query plan : List ℕ) (checked : check_fault query plan ≡ 0) (good : store_fault store ≡ 0) (cache : Bool) where
  abbrev g : Graph
  g = graph_in store

  abbrev q : Query
  q = query_of query

  abbrev os : List Operator
  os = operators_of plan

  abbrev steps : List Step
  steps = plan_steps cache g q os

  has : Accepted query plan
  has = accepted query plan checked

  operators-few : length os ≤ 31
  unfolding operators_of
  operators-few = omega (arith, length-image (λ (i : ℕ). operator_at plan (place plan i)) (operator_count plan), has.plan_count)

  need-within : plan_need cache g q os ≤ need_bound g q os
  unfolding plan_need need_bound
  need-within =
      top-need (pile_after cache g q [] os) (bounds_after g q [] os)
      (within-after g (graph-formed store good) q (checked-edges cache g query plan checked) cache os [] [] has.plan_named has.plan_rules tt)

  rows-within : q.vertices * length (plan_rows cache g q os) ≤ list_bound g q os
  unfolding plan_rows list_bound
  rows-within =
      mul-le-mul_left q.vertices
      (top-rows (pile_after cache g q [] os) (bounds_after g q [] os)
      (within-after g (graph-formed store good) q (checked-edges cache g query plan checked) cache os [] [] has.plan_named has.plan_rules tt))

  rows_few : length (plan_rows cache g q os) ≤ q.vertices * length (plan_rows cache g q os)
  unfolding query_of
  rows_few =
      let two : 2 ≤ vertex_count query = at-least-vertices query has.query_readable.limits in
      let r : ℕ = length (plan_rows cache g q os) in
      omega (arith, mul-le-mul_right r two)

  cost-within : plan_cost cache g q os ≤ costs_bound g q os
  unfolding plan_cost costs_bound
  cost-within = costs-within g (graph-formed store good) q (checked-edges cache g query plan checked) cache os [] [] has.plan_named has.plan_rules tt

  all-few : (most : ℕ) → largest_bound g q os ≤ most → all (few most) steps ≡ true
  unfolding largest_bound
  all-few most l =
      steps-few g (graph-formed store good) q (checked-edges cache g query plan checked) cache most os [] [] has.plan_named has.plan_rules tt tt l

  -- No number of a run whose bounds lie below the cap passes 64 bits.
  module _ (list : list_bound g q os < 1073741824) (cost : costs_bound g q os < 1073741824) (largest : largest_bound g q os < 1073741824) where
    cap : ℕ
    cap = 1073741824

    steps-few-many : length steps ≤ 31
    steps-few-many = rw (count-steps cache g q [] os) operators-few

    few-steps : all (few cap) steps ≡ true
    unfolding cap
    few-steps = all-few cap (omega arith)

    few-build : plan_build cache g q os ≤ 31 * 1073741824
    unfolding plan_build cap
    few-build =
        le_trans
        (total-of-each (λ (s : Step). s.build) (few cap) cap steps
        (λ s t. leb-true s.build cap (and_l _ (leb s.probe cap) (and_r (leb s.rows cap) _ t))) few-steps)
        (mul-le-mul_right cap steps-few-many)

    few-probe : plan_probe cache g q os ≤ 31 * 1073741824
    unfolding plan_probe cap
    few-probe =
        le_trans
        (total-of-each (λ (s : Step). s.probe) (few cap) cap steps
        (λ s t. leb-true s.probe cap (and_r (leb s.build cap) _ (and_r (leb s.rows cap) _ t))) few-steps)
        (mul-le-mul_right cap steps-few-many)

    few-costs : all (λ (s : Step). leb s.cost cap) steps ≡ true
    unfolding plan_cost cap
    few-costs = each-of-total (λ (s : Step). s.cost) cap steps (omega (arith, cost-within))

    none_passes : plan_passes cache g q os ≡ false
    unfolding plan_passes plan_numbers any cap
    none_passes =
        or-false _ _ (le-ltb max_number (length (plan_rows cache g q os)) (omega (arith, rows_few, rows-within)))
        (or-false _ _ (le-ltb max_number (plan_cost cache g q os) (omega (arith, cost-within)))
        (or-false _ _ (le-ltb max_number (plan_build cache g q os) (omega (arith, few-build)))
        (or-false _ _ (le-ltb max_number (plan_probe cache g q os) (omega (arith, few-probe)))
        (any-flat_map (ltb max_number) (λ (s : Step). s.rows ∷ s.cost ∷ []) steps
        ∙ any-fails (λ (s : Step). any (ltb max_number) (s.rows ∷ s.cost ∷ [])) (λ (s : Step). few cap s && leb s.cost cap) steps
        (all-and (few cap) (λ (s : Step). leb s.cost cap) steps ∙ and_both _ _ few-steps few-costs)
        (λ s t.
        or-false _ _ (le-ltb max_number s.rows (omega (arith, leb-true s.rows cap (and_l (leb s.rows cap) _ (and_l (few cap s) _ t)))))
        (or-false _ _ (le-ltb max_number s.cost (omega (arith, leb-true s.cost cap (and_r (few cap s) _ t)))) refl))))))

-- What a run whose bounds lie below the cap is refused by.
module _ (store query plan : List ℕ) (fault : bounds_fault store query plan ≡ 0) where
  checked : check_fault query plan ≡ 0
  unfolding bounds_fault
  checked = first_head _ _ fault

  good : store_fault store ≡ 0
  unfolding bounds_fault
  good = first_head _ _ (first_tail _ _ fault)

  settled : (cache : Bool) (scratch list records : ℕ)
      → list_bound (graph_in store) (query_of query) (operators_of plan) < 1073741824
      → need_bound (graph_in store) (query_of query) (operators_of plan) < 1073741824
      → costs_bound (graph_in store) (query_of query) (operators_of plan) < 1073741824
      → largest_bound (graph_in store) (query_of query) (operators_of plan) < 1073741824
      → need_bound (graph_in store) (query_of query) (operators_of plan) ≤ scratch
      → list_bound (graph_in store) (query_of query) (operators_of plan) ≤ list
      → run_fault cache store query plan scratch list records ≡ refuse 22 (ltb records (length (operators_of plan)))
  unfolding run_fault
  settled cache scratch list records a b c d s l =
      first-cons _ _ checked
      ∙ first-after _ _ []
      (first-cons _ _ good
      ∙ first-cons _ _ (zero-refuse 20 _ (le-ltb (counted scratch) _ (omega (arith, need-within store query plan checked good cache))))
      ∙ first-cons _ _ (zero-refuse 30 _ (none_passes store query plan checked good cache a c d))
      ∙ first-cons _ _ (zero-refuse 21 _ (le-ltb (counted list) _ (omega (arith, rows-within store query plan checked good cache)))))
      ∙ first_one _

-- Refused by 22 or not at all is not refused by 20, 21 or 30.
not_short : (records : ℕ) (plan : List ℕ) (k : ℕ) → k ≡ refuse 22 (ltb records (length (operators_of plan))) → NotShort records plan k
not_short records plan k e = record { scratch = other 20 refl; list = other 21 refl; numbers = other 30 refl; records_alone = e }
  where
    go : (b : Bool) (n : ℕ) → refuse 22 b ≡ n → eqb n 0 ≡ false → eqb n 22 ≡ false → ⊥
    go true n i z w = clash (eq-eqb n 22 (sym i)) w
    go false n i z w = clash (eq-eqb n 0 (sym i)) z

    other : (n : ℕ) → (eqb n 0 || eqb n 22) ≡ false → k ≡ n → ⊥
    other n t i = go (ltb records (length (operators_of plan))) n (sym e ∙ i) (or-false-l (eqb n 0) (eqb n 22) t) (or-false-r (eqb n 0) (eqb n 22) t)

pub never-short : (store query plan : List ℕ) → NeverShort store query plan
unfolding bounds_answer run_answer
never-short store query plan fault below cache scratch list records enough room =
    let z = eq-eqb (bounds_fault store query plan) 0 fault in
    let a = rw z at below.list in
    let b = rw z at below.scratch in
    let c = rw z at below.cost in
    let d = rw z at below.largest in
    let s = rw z at enough in
    let l = rw z at room in
    not_short records plan (run_fault cache store query plan scratch list records)
    (settled store query plan fault cache scratch list records (omega (arith, a)) (omega (arith, b)) (omega (arith, c)) (omega (arith, d)) (omega (arith, s, b)) (omega (arith, l, a)))
