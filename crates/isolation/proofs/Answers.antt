-- What another company hangs cannot be seen in any answer: the theorem. Assumes nothing.
use mathlib.Core.Path.{◌≡◌, refl, sym, ◌∙◌, ap, ap₂}
use mathlib.Core.Bool.{Bool, true, false, cond}
use mathlib.Core.List.{List, [], ◌∷◌, ◌++◌, map}
use Prim.Native.Nat.{ℕ, suc, ◌*◌}
use lib.Dec.{eqb, ltb}
use lib.ListN.{length, drop}
use borrow.Author.Tests.{eqb-true, eqb-false, ne_eqb}
use Rattle.lists.specs.Refusal.{refuse, first, answered}
use Rattle.lists.proofs.Faults.{first_some, first_head}
use Rattle.graph.specs.Store.{graph_in, store_fault}
use Rattle.graph.proofs.WellFormed.{WellFormed, well-formed}
use Rattle.graph.proofs.Loads.{store-formed}
use Rattle.query.specs.File.{query_of, query_fault}
use Rattle.plan.specs.File.{operators_of, check_fault}
use Rattle.run_spec.specs.declared.RunAnswer.{RunAnswer}
use Rattle.run_spec.specs.declared.Record.{Record}
use Rattle.run_spec.specs.Run.{run_fault, run_answer, run_list, run_records, run_scratch}
use Rattle.count.specs.declared.CountAnswer.{CountAnswer}
use Rattle.count.specs.Count.{count_fault, count_answer}
use Rattle.planner.specs.declared.DrawAnswer.{DrawAnswer}
use Rattle.planner.specs.Draw.{drawn_plan, draw_fault, draw_answer, draw_bytes}
use Rattle.plan_file.proofs.Accepted.{accepted}
use Rattle.plan_bounds.specs.declared.BoundsAnswer.{BoundsAnswer}
use Rattle.plan_bounds.specs.Answer.{given as capped, bounds_fault, bounds_answer}
use Rattle.plan_spectrum.specs.declared.OrderingsAnswer.{OrderingsAnswer}
use Rattle.plan_spectrum.specs.Orders.{orderings}
use Rattle.plan_spectrum.specs.Spectrum.{max_spectrum, entries, limit_fault, orderings_fault, orderings_answer, orderings_words}
use Rattle.isolation.specs.Others.{TwoCompanies}
use Rattle.isolation.specs.Inner.Readings.{SameReadings}
use Rattle.isolation.specs.CannotSee.{AfterRun, after_run, AfterCount, after_count, AfterDraw, after_draw, AfterOrderings, after_orderings, CannotSee, NonInterference}
use Rattle.isolation.proofs.Found.{same-find}
use Rattle.isolation.proofs.Own.{own, own-readings}
use Rattle.isolation.proofs.Listed.{one_list}
use Rattle.isolation.proofs.Plans.{SamePlan, same-plan}
use Rattle.isolation.proofs.Drawn.{same-drawn}
use Rattle.isolation.proofs.Bounded.{SameBounds, same-bounds}
use Rattle.isolation.proofs.Ordered.{same-limit, same_entries}

-- What a caller has in hand, put together.
after : RunAnswer → List ℕ → List Record → List ℕ → AfterRun
after answer list records scratch = record { answer = answer; list = list; records = records; scratch = scratch }

counted : List ℕ → CountAnswer → AfterCount
counted scratch answer = record { answer = answer; scratch = scratch }

drawn : DrawAnswer → List ℕ → AfterDraw
drawn answer bytes = record { answer = answer; bytes = bytes }

numbers : ℕ → ℕ → ℕ → ℕ → ℕ → BoundsAnswer
numbers refusal list scratch cost largest =
    record { refusal = refusal; list_words = list; scratch_words = scratch; cost = cost; largest = largest }

listed : ℕ → ℕ → OrderingsAnswer
listed refusal plans = record { refusal = refusal; plans = plans }

ordered : List ℕ → OrderingsAnswer → List ℕ → AfterOrderings
ordered scratch answer words = record { answer = answer; words = words; scratch = scratch }

-- ---- a query file that is refused: no store is looked at

module _ (query : List ℕ) (refused : query_fault query ≡ 0 → ⊥) where
  given : eqb (query_fault query) 0 ≡ false
  given = ne_eqb (query_fault query) 0 refused

  check-refused : (plan : List ℕ) → check_fault query plan ≡ query_fault query
  unfolding check_fault
  check-refused plan = first_some (query_fault query) _ refused

  module _ (cache : Bool) (store plan : List ℕ) where
    run-refused : (scratch list records : ℕ) → run_fault cache store query plan scratch list records ≡ query_fault query
    unfolding run_fault
    run-refused scratch list records = first_some (check_fault query plan) _ (λ z. refused (sym (check-refused plan) ∙ z)) ∙ check-refused plan

    answer-refused : (scratch list records : ℕ)
        → run_answer cache store query plan scratch list records ≡ record { refusal = query_fault query; rows = 0; cost = 0; build = 0; probe = 0 }
    unfolding run_answer
    answer-refused scratch list records = rw (run-refused scratch list records, given)

    list-refused : (scratch : ℕ) (list : List ℕ) (records : ℕ) → run_list cache store query plan scratch list records ≡ list
    unfolding run_list
    list-refused scratch list records = rw (run-refused scratch (length list) records, given)

    records-refused : (scratch list : ℕ) (records : List Record) → run_records cache store query plan scratch list records ≡ records
    unfolding run_records
    records-refused scratch list records = rw (run-refused scratch list (length records), given)

    count-fault-refused : (scratch : ℕ) → count_fault cache store query plan scratch ≡ query_fault query
    unfolding count_fault
    count-fault-refused scratch = first_some (check_fault query plan) _ (λ z. refused (sym (check-refused plan) ∙ z)) ∙ check-refused plan

    count-refused : (scratch : ℕ)
        → count_answer cache store query plan scratch ≡ record { refusal = query_fault query; rows = 0; cost = 0; build = 0; probe = 0; need = 0 }
    unfolding count_answer
    count-refused scratch = rw (count-fault-refused scratch, given)

  draw-refused : (store : List ℕ) (room : ℕ) → draw_fault store query room ≡ query_fault query
  unfolding draw_fault
  draw-refused store room = first_some (query_fault query) _ refused

  drawn-refused : (store : List ℕ) (room : ℕ) → draw_answer store query room ≡ record { refusal = query_fault query; bytes = 0 }
  unfolding draw_answer
  drawn-refused store room = rw (draw-refused store room, given)

  bytes-refused : (store bytes : List ℕ) → draw_bytes store query bytes ≡ bytes
  unfolding draw_bytes
  bytes-refused store bytes = rw (draw-refused store (length bytes), given)

  bounds-fault-refused : (store plan : List ℕ) → bounds_fault store query plan ≡ query_fault query
  unfolding bounds_fault
  bounds-fault-refused store plan = first_some (check_fault query plan) _ (λ z. refused (sym (check-refused plan) ∙ z)) ∙ check-refused plan

  bounds-refused : (store plan : List ℕ) → bounds_answer store query plan ≡ numbers (query_fault query) 0 0 0 0
  unfolding bounds_answer numbers
  bounds-refused store plan = rw (bounds-fault-refused store plan, given)

  module _ (store : List ℕ) (scratch : ℕ) where
    orderings-refused : (words : ℕ) → orderings_fault store query scratch words ≡ query_fault query
    unfolding orderings_fault
    orderings-refused words = first_some (query_fault query) _ refused

    ordered-refused : (words : ℕ) → orderings_answer store query scratch words ≡ listed (query_fault query) 0
    unfolding orderings_answer listed
    ordered-refused words = rw (orderings-refused words, given)

    words-refused : (words : List ℕ) → orderings_words store query scratch words ≡ words
    unfolding orderings_words
    words-refused words = rw (orderings-refused (length words), given)

  refused-run : (one two : List ℕ) (cache : Bool) (plan scratch list : List ℕ) (records : List Record)
      → after_run cache one query plan scratch list records ≡ after_run cache two query plan scratch list records
  unfolding after
  refused-run one two cache plan scratch list records =
      λ i.
      after
      ((answer-refused cache one plan (length scratch) (length list) (length records)
      ∙ sym (answer-refused cache two plan (length scratch) (length list) (length records))) i)
      ((list-refused cache one plan (length scratch) list (length records) ∙ sym (list-refused cache two plan (length scratch) list (length records))) i)
      ((records-refused cache one plan (length scratch) (length list) records
      ∙ sym (records-refused cache two plan (length scratch) (length list) records)) i)
      (run_scratch scratch)

  refused-draw : (one two bytes : List ℕ) → after_draw one query bytes ≡ after_draw two query bytes
  unfolding drawn
  refused-draw one two bytes =
      ap₂ drawn (drawn-refused one (length bytes) ∙ sym (drawn-refused two (length bytes))) (bytes-refused one bytes ∙ sym (bytes-refused two bytes))

  refused-cannot : (one two : List ℕ) → CannotSee query one two
  unfolding counted ordered
  refused-cannot one two =
      record {
        run = refused-run one two;
        count = λ cache plan scratch.
            ap (counted (run_scratch scratch)) (count-refused cache one plan (length scratch) ∙ sym (count-refused cache two plan (length scratch)));
        draw = refused-draw one two;
        bounds = λ plan. bounds-refused one plan ∙ sym (bounds-refused two plan);
        orderings = λ scratch words.
            ap₂ (ordered (run_scratch scratch))
            (ordered-refused one (length scratch) (length words) ∙ sym (ordered-refused two (length scratch) (length words)))
            (words-refused one (length scratch) words ∙ sym (words-refused two (length scratch) words));
        find = same-find query one two (refused-run one two) (refused-draw one two);
      }

-- ---- a query file that is accepted

-- Where a plan does the same over both graphs, a run answers and leaves the same.
module _ (query one two : List ℕ) (stores : store_fault one ≡ store_fault two) (cache : Bool) (plan : List ℕ)
    (p : SamePlan (query_of query) (graph_in one) (graph_in two) cache (operators_of plan)) where
  same-fault : (scratch list records : ℕ) → run_fault cache one query plan scratch list records ≡ run_fault cache two query plan scratch list records
  unfolding run_fault
  same-fault scratch list records = rw (stores, p.need, p.passes, p.rows)

  same_answer : (scratch list records : ℕ) → run_answer cache one query plan scratch list records ≡ run_answer cache two query plan scratch list records
  unfolding run_answer
  same_answer scratch list records = rw (same-fault scratch list records, p.rows, p.cost, p.build, p.probe)

  same-list : (scratch : ℕ) (list : List ℕ) (records : ℕ) → run_list cache one query plan scratch list records ≡ run_list cache two query plan scratch list records
  unfolding run_list
  same-list scratch list records = rw (same-fault scratch (length list) records, p.rows)

  same-records : (scratch list : ℕ) (records : List Record)
      → run_records cache one query plan scratch list records ≡ run_records cache two query plan scratch list records
  unfolding run_records
  same-records scratch list records = rw (same-fault scratch list (length records), p.records)

  same-run : (scratch list : List ℕ) (records : List Record)
      → after_run cache one query plan scratch list records ≡ after_run cache two query plan scratch list records
  unfolding after
  same-run scratch list records =
      λ i.
      after (same_answer (length scratch) (length list) (length records) i) (same-list (length scratch) list (length records) i)
      (same-records (length scratch) (length list) records i) (run_scratch scratch)

  same-count-fault : (scratch : ℕ) → count_fault cache one query plan scratch ≡ count_fault cache two query plan scratch
  unfolding count_fault
  same-count-fault scratch = rw (stores, p.need, p.passes)

  same-counted : (scratch : ℕ) → count_answer cache one query plan scratch ≡ count_answer cache two query plan scratch
  unfolding count_answer
  same-counted scratch = rw (same-count-fault scratch, p.rows, p.cost, p.build, p.probe, p.need)

  same_count : (scratch : List ℕ) → after_count cache one query plan scratch ≡ after_count cache two query plan scratch
  unfolding counted
  same_count scratch = ap (counted (run_scratch scratch)) (same-counted (length scratch))

-- Where the same plan is drawn over both graphs, drawing answers and leaves the same.
module _ (query one two : List ℕ) (stores : store_fault one ≡ store_fault two)
    (same : drawn_plan (graph_in one) (query_of query) ≡ drawn_plan (graph_in two) (query_of query)) where
  same-draw-fault : (room : ℕ) → draw_fault one query room ≡ draw_fault two query room
  unfolding draw_fault
  same-draw-fault room = rw (stores, same)

  same-draw : (bytes : List ℕ) → after_draw one query bytes ≡ after_draw two query bytes
  unfolding draw_answer draw_bytes
  same-draw bytes = rw (same-draw-fault (length bytes), same)

-- What is answered where nothing is refused is the same if the numbers then are.
answered-same : (k m n : ℕ) → (k ≡ 0 → m ≡ n) → answered k m ≡ answered k n
answered-same k m n same = go (eqb k 0) refl
  where
    go : (b : Bool) → eqb k 0 ≡ b → cond b m 0 ≡ cond b n 0
    go true e = same (eqb-true k 0 e)
    go false e = refl

-- Where a plan that is accepted is bounded the same over both graphs, the bounds are answered the same.
module _ (query one two : List ℕ) (stores : store_fault one ≡ store_fault two) (plan : List ℕ)
    (p : check_fault query plan ≡ 0 → SameBounds (query_of query) (graph_in one) (graph_in two) (operators_of plan)) where
  same-bounds-fault : bounds_fault one query plan ≡ bounds_fault two query plan
  unfolding bounds_fault
  same-bounds-fault = ap (λ (k : ℕ). first (check_fault query plan ∷ k ∷ [])) stores

  bounded-same : bounds_fault two query plan ≡ 0 → SameBounds (query_of query) (graph_in one) (graph_in two) (operators_of plan)
  unfolding bounds_fault
  bounded-same z = p (first_head _ _ z)

  same_numbers : bounds_answer one query plan ≡ bounds_answer two query plan
  unfolding bounds_answer numbers
  same_numbers =
      rw (same-bounds-fault)
      (λ i.
      numbers (bounds_fault two query plan)
      (answered-same _ _ _ (λ z. ap capped (bounded-same z).list) i)
      (answered-same _ _ _ (λ z. ap capped (bounded-same z).need) i)
      (answered-same _ _ _ (λ z. ap capped (bounded-same z).cost) i)
      (answered-same _ _ _ (λ z. ap capped (bounded-same z).largest_is) i))

-- Where all orderings are refused and priced the same over both graphs, they are answered and listed the same.
module _ (query one two : List ℕ) (stores : store_fault one ≡ store_fault two)
    (limits : (scratch : ℕ) → limit_fault (graph_in one) (query_of query) scratch ≡ limit_fault (graph_in two) (query_of query) scratch)
    (made : entries (graph_in one) (query_of query) ≡ entries (graph_in two) (query_of query)) where
  same-orderings-fault : (scratch words : ℕ) → orderings_fault one query scratch words ≡ orderings_fault two query scratch words
  unfolding orderings_fault
  same-orderings-fault scratch words =
      let q = query_of query in
      ap₂
      (λ (k : ℕ) (f : List ℕ → ℕ).
      first
      (query_fault query ∷ refuse 31 (ltb max_spectrum q.vertices) ∷ k
      ∷ refuse 32 (ltb words (length (orderings q) * suc q.vertices)) ∷ map f (orderings q)))
      stores (limits scratch)

  same-orderings : (scratch words : List ℕ) → after_orderings one query scratch words ≡ after_orderings two query scratch words
  unfolding ordered listed orderings_answer orderings_words
  same-orderings scratch words =
      ap₂ (ordered (run_scratch scratch))
      (ap (λ (k : ℕ). listed k (answered k (length (orderings (query_of query)))))
      (same-orderings-fault (length scratch) (length words)))
      (ap₂ (λ (k : ℕ) (l : List ℕ). cond (eqb k 0) (l ++ drop (length l) words) words)
      (same-orderings-fault (length scratch) (length words)) made)

module _ (query one two : List ℕ) (t : TwoCompanies query one two) (e : query_fault query ≡ 0) where
  formed : (store : List ℕ) → store_fault store ≡ 0 → WellFormed (graph_in store)
  formed store a = well-formed (graph_in store) (store-formed store a).0

  pub same-own : own (query_of query) (graph_in one) ≡ own (query_of query) (graph_in two)
  same-own =
      λ i.
      record {
        vertices = t.vertices i;
        labels = t.labels i;
        days = t.days i;
        edges = one_list (query_of query) (graph_in one) (graph_in two) (formed one t.one_accepted) (formed two t.two_accepted) (t.others e) i;
      }

  -- What is read of the edges is the same in both.
  pub same-readings : SameReadings (query_of query) (graph_in one) (graph_in two)
  same-readings = own-readings (query_of query) (graph_in one) (graph_in two) (t.others e).none_any same-own

  stores : store_fault one ≡ store_fault two
  stores = t.one_accepted ∙ sym t.two_accepted

  accepted-run : (cache : Bool) (plan scratch list : List ℕ) (records : List Record)
      → after_run cache one query plan scratch list records ≡ after_run cache two query plan scratch list records
  accepted-run cache plan =
      same-run query one two stores cache plan
      (same-plan (query_of query) (graph_in one) (graph_in two) (t.others e).none_any same-own cache (operators_of plan))

  accepted-draw : (bytes : List ℕ) → after_draw one query bytes ≡ after_draw two query bytes
  accepted-draw = same-draw query one two stores (same-drawn (query_of query) (graph_in one) (graph_in two) same-readings)

  accepted-cannot : CannotSee query one two
  accepted-cannot =
      record {
        run = accepted-run;
        count = λ cache plan.
            same_count query one two stores cache plan
            (same-plan (query_of query) (graph_in one) (graph_in two) (t.others e).none_any same-own cache (operators_of plan));
        draw = accepted-draw;
        bounds = λ plan.
            same_numbers query one two stores plan
            (λ c. same-bounds (query_of query) (graph_in one) (graph_in two) same-readings (operators_of plan) (accepted query plan c).plan_named);
        orderings =
            same-orderings query one two stores (same-limit (query_of query) (graph_in one) (graph_in two) (t.others e).none_any same-own)
            (same_entries (query_of query) (graph_in one) (graph_in two) (t.others e).none_any same-own);
        find = same-find query one two accepted-run accepted-draw;
      }

-- What another company hangs cannot be seen in any answer.
pub non-interference : (query one two : List ℕ) → NonInterference query one two
non-interference query one two t = go (eqb (query_fault query) 0) refl
  where
    go : (b : Bool) → eqb (query_fault query) 0 ≡ b → CannotSee query one two
    go true i = accepted-cannot query one two t (eqb-true (query_fault query) 0 i)
    go false i = refused-cannot query (eqb-false (query_fault query) 0 i) one two
