-- Laws of the loop that runs the orderings in turn and keeps their costs. Assumes nothing.
use mathlib.Core.Path.{◌≡◌, refl, sym, ◌∙◌, ap, ap₂, subst}
use mathlib.Core.Bool.{Bool, true}
use mathlib.Core.List.{List, [], ◌∷◌, ◌++◌, map, flatten, map-append, append_assoc}
use Prim.Native.Nat.{ℕ, zero, suc, ◌+◌, ◌-◌, ◌*◌, ◌≤◌, ◌<◌}
use native.Mathlib.Nat.{zero-mul, mul-le-mul_right}
use native.Mathlib.Numerals.{add-one}
use native.Mathlib.Omega.{arith}
use lib.Dec.{eqb}
use lib.ListN.{length, get_or, take, drop, set, length-append, length-set}
use lib.Seq.{take_at, drop_at, drop-drop, take-suc, take-suc-set, take-length, take_all, split_at}
use borrow.Author.Tests.{eqb-true}
use Rattle.lists.specs.Lists.{all}
use Rattle.lists.specs.Refusal.{first, answered}
use Rattle.lists.proofs.Tests.{and_l, and_r}
use Rattle.lists.proofs.Faults.{first-nil, first-append, first_some, first_one}
use Rattle.graph.specs.Graph.{Graph}
use Rattle.graph.specs.Store.{graph_in}
use Rattle.query.specs.Query.{Query}
use Rattle.query.specs.Inner.Struct.{query_in}
use Rattle.query.specs.declared.Query.{Query as QueryStruct}
use Rattle.plan.specs.Plan.{Operator}
use Rattle.plan.specs.Inner.Struct.{operators_in}
use Rattle.plan.specs.declared.Plan.{Plan as PlanStruct}
use Rattle.rows.proofs.Laid.{wide, length-flatten}
use Rattle.run_spec.specs.Run.{plan_cost}
use Rattle.executor.specs.declared.counting.Tally.{Tally}
use Rattle.executor.specs.Inner.Tallied.{count_fault, fault_in, Tallied}
use Rattle.std.specs.Prelude.{Result, Ok}
use Rattle.refusals.specs.declared.Refusal.{Refusal}
use Rattle.executor.specs.Inner.Running.{Runs}
use Rattle.plan_spectrum.specs.Orders.{orderings, plan_of}
use Rattle.plan_spectrum.specs.Spectrum.{cost_of, limit_fault}
use Rattle.plan_spectrum.specs.Inner.Parts.{Lie, AllRun}
use Rattle.plan_spectrum.proofs.Bounds.{orderings-wide}
use Rattle.plan_spectrum.proofs.Laying.{drop-zero}
use Rattle.plan_spectrum.proofs.Planned.{accepted-at}

-- The first k orderings were run, and none was refused.
pub record Priced (g : Graph) (q : Query) (work₀ work costs₀ costs : List ℕ) (k : ℕ) : Type 0 where
  pub small : k ≤ length (orderings q)
  pub work_kept : length work ≡ length work₀
  pub costs_kept : length costs ≡ length costs₀
  pub quiet : first (map (limit_fault g q (length work₀)) (take k (orderings q))) ≡ 0
  pub paid : take k costs ≡ map (cost_of g q) (take k (orderings q))

-- Rows of w words, one after the other: row k.
pub row_at : (w : ℕ) (rows : List (List ℕ)) (rest : List ℕ) (k : ℕ) → wide w rows ≡ true → k < length rows → take w (drop (k * w) (flatten rows ++ rest)) ≡ get_or rows k []
unfolding flatten all
row_at w [] rest k e h = absurd (omega arith)
row_at w (r ∷ rows) rest zero e h =
    ap (λ (n : ℕ). take w (drop n (r ++ flatten rows ++ rest))) (zero-mul w) ∙ ap (take w) (drop-zero (r ++ flatten rows ++ rest))
    ∙ ap (take w) (append_assoc r (flatten rows) rest) ∙ take_at r (flatten rows ++ rest) w (eqb-true (length r) w (and_l (eqb (length r) w) (wide w rows) e))
row_at w (r ∷ rows) rest (suc k) e h =
    ap (λ (n : ℕ). take w (drop n (r ++ flatten rows ++ rest))) (let s : suc k * w ≡ w + k * w = omega arith in s)
    ∙ ap (take w) (sym (drop-drop (k * w) w (r ++ flatten rows ++ rest)))
    ∙ ap (λ (l : List ℕ). take w (drop (k * w) l))
    (ap (drop w) (append_assoc r (flatten rows) rest) ∙ drop_at r (flatten rows ++ rest) w (eqb-true (length r) w (and_l (eqb (length r) w) (wide w rows) e)))
    ∙ row_at w rows rest k (and_r (eqb (length r) w) (wide w rows) e) (omega arith)

module _ (store : List ℕ) (d : QueryStruct) (list : List ℕ) (plans : ℕ) (work₀ costs₀ : List ℕ) (lie : Lie store d list plans work₀ costs₀) where
  abbrev g : Graph
  g = graph_in store

  abbrev q : Query
  q = query_in d

  abbrev orders : List (List ℕ)
  orders = orderings q

  n-is : q.vertices ≡ d.vertices
  unfolding query_in
  n-is = refl

  orders-wide : wide (d.vertices - 1) orders ≡ true
  orders-wide = subst (λ (n : ℕ). wide n orders ≡ true) (omega (arith, n-is, lie.small.at-least)) (orderings-wide q)

  -- Where row k lies, and that it does.
  pub row_is : (k : ℕ) → k < plans → take (d.vertices - 1) (drop (k * (d.vertices - 1)) list) ≡ get_or orders k []
  row_is k h =
      ap (λ (l : List ℕ). take (d.vertices - 1) (drop (k * (d.vertices - 1)) l)) lie.lie
      ∙ row_at (d.vertices - 1) orders lie.rest k orders-wide (omega (arith, lie.number))

  pub list_long : plans * (d.vertices - 1) ≤ length list
  list_long =
      omega (
        arith,
        ap length lie.lie ∙ length-append (flatten orders) lie.rest,
        length-flatten (d.vertices - 1) orders orders-wide,
        ap (λ (n : ℕ). n * (d.vertices - 1)) lie.number,
      )

  pub row_fits : (k : ℕ) → k < plans → k * (d.vertices - 1) + (d.vertices - 1) ≤ length list
  row_fits k h =
      let up_to : suc k * (d.vertices - 1) ≤ plans * (d.vertices - 1) = mul-le-mul_right (d.vertices - 1) h in
      omega (arith, list_long, up_to)

  pub price-start : Priced g q work₀ work₀ costs₀ costs₀ 0
  price-start =
      record {
        small = omega arith;
        work_kept = refl;
        costs_kept = refl;
        quiet = ap (λ (l : List (List ℕ)). first (map (limit_fault g q (length work₀)) l)) (take-zero orders) ∙ first-nil;
        paid = take-zero costs₀ ∙ ap (map (cost_of g q)) (sym (take-zero orders));
      }
    where
      take-zero : {A : Type 0} (l : List A) → take 0 l ≡ []
      take-zero [] = refl
      take-zero (x ∷ xs) = refl

  module _ (work costs : List ℕ) (k : ℕ) (t : Priced g q work₀ work costs₀ costs k) where
    pub price-done : (k < plans → ⊥) → AllRun g q (length work₀) costs 0
    price-done end =
        let all_of : take k orders ≡ orders = take_all k orders (omega (arith, lie.number, end)) in
        let e : k ≡ length orders = omega (arith, lie.number, end, t.small) in
        record {
          refusal = sym (ap (λ (l : List (List ℕ)). first (map (limit_fault g q (length work₀)) l)) (sym all_of) ∙ t.quiet);
          costs = λ z. ap (λ (n : ℕ). take n costs) (sym e) ∙ t.paid ∙ ap (map (cost_of g q)) all_of;
        }

    module _ (h : k < plans) (p : PlanStruct) (count : p.operators ≡ d.vertices - 1)
        (reads : operators_in p ≡ plan_of (take (d.vertices - 1) (drop (k * (d.vertices - 1)) list))) where
      plan-is : operators_in p ≡ plan_of (get_or orders k [])
      plan-is = reads ∙ ap plan_of (row_is k h)

      below : k < length orders
      below = omega (arith, lie.number)

      pub runs : Runs store d p work
      unfolding query_in
      runs =
          let ok = accepted-at q (omega (arith, lie.small.at-least)) lie.small.proper k below in
          record {
            accepted = lie.accepted;
            held = lie.small.held;
            proper = lie.small.proper;
            labels = lie.small.labels;
            count = omega (arith, count, lie.small.at_most);
            names = rw plan-is ok.0;
            rules = rw plan-is ok.1;
            short = omega (arith, t.work_kept, lie.short);
          }

      module _ (r : Result Tally Refusal) (a : Tallied true g q (operators_in p) (length work) r) where
        fault-is : fault_in r ≡ limit_fault g q (length work₀) (get_or orders k [])
        fault-is = a.refusal ∙ ap₂ (λ (os : List Operator) (n : ℕ). count_fault true g q os n) plan-is t.work_kept

        pub priced-refused : (fault_in r ≡ 0 → ⊥) → AllRun g q (length work₀) costs (fault_in r)
        priced-refused bad =
            record {
              refusal =
                  sym
                  (ap (λ (l : List (List ℕ)). first (map (limit_fault g q (length work₀)) l)) (split_at orders k [] below)
                  ∙ ap first (map-append (limit_fault g q (length work₀)) (take k orders) (get_or orders k [] ∷ drop (suc k) orders))
                  ∙ first-append (map (limit_fault g q (length work₀)) (take k orders)) _ t.quiet
                  ∙ first_some _ _ (λ z. bad (fault-is ∙ z)) ∙ sym fault-is);
              costs = λ z. absurd (bad z);
            }

        pub priced-more : (tally : Tally) → r ≡ Ok tally → k < length costs → (after : List ℕ) → length after ≡ length work → Priced g q work₀ after costs₀ (set costs k tally.cost) (k + 1)
        priced-more tally is room after same =
            rw (add-one k)
            (record {
              small = omega (arith, below);
              work_kept = same ∙ t.work_kept;
              costs_kept = length-set costs k tally.cost ∙ t.costs_kept;
              quiet =
                  ap (λ (l : List (List ℕ)). first (map (limit_fault g q (length work₀)) l)) (take-suc orders k [] below)
                  ∙ ap first (map-append (limit_fault g q (length work₀)) (take k orders) (get_or orders k [] ∷ []))
                  ∙ first-append (map (limit_fault g q (length work₀)) (take k orders)) _ t.quiet
                  ∙ first_one _ ∙ sym fault-is ∙ ap fault_in is;
              paid =
                  take-suc-set costs k tally.cost room
                  ∙ ap₂ (λ (l : List ℕ) (x : ℕ). l ++ (x ∷ [])) t.paid cost_is
                  ∙ sym (map-append (cost_of g q) (take k orders) (get_or orders k [] ∷ []))
                  ∙ ap (map (cost_of g q)) (sym (take-suc orders k [] below));
            })
          where
            cost_is : tally.cost ≡ cost_of g q (get_or orders k [])
            cost_is = (a.counts tally is).cost ∙ ap (plan_cost true g q) plan-is
