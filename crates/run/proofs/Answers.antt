-- What Run answers and is to record, from the pile of its plan; and Run's definitions by what decides. Assumes nothing.
use mathlib.Core.Path.{◌≡◌, refl, sym, ◌∙◌, ap, ap₂}
use mathlib.Core.Bool.{Bool, true, false, cond}
use mathlib.Core.List.{List, [], ◌∷◌, ◌++◌}
use Prim.Native.Nat.{ℕ, ◌≤◌, ◌<◌}
use native.Mathlib.Omega.{arith}
use lib.Dec.{eqb, ltb}
use lib.ListN.{length, take, drop, replicate, length-take}
use lib.Seq.{take_at, drop_at}
use borrow.Author.Tests.{eqb-true, ltb-false, lt-ltb, le-ltb}
use Rattle.lists.specs.Refusal.{answered, refuse}
use Rattle.lists.proofs.Tests.{fails}
use Rattle.lists.proofs.Faults.{first_head, first_tail, first-cons, first_some, first_one, first-nil, first-left, refuse-zero, zero-refuse}
use Rattle.graph.specs.Store.{graph_in, store_fault}
use Rattle.query.specs.File.{query_of}
use Rattle.plan.specs.Plan.{max_operators}
use Rattle.plan.specs.File.{operators_of, check_fault}
use Rattle.run_spec.specs.declared.Record.{Record}
use Rattle.run_spec.specs.declared.RunAnswer.{RunAnswer}
use Rattle.run_spec.specs.Run.{counted, plan_records, run_fault, run_answer, run_list, run_records, run_scratch}
use Rattle.run_spec.specs.Complete.{ListsEveryMatch}
use Rattle.run_spec.proofs.Records.{count-records}
use Rattle.run_spec.proofs.Demand.{run-lists-every-match}
use Rattle.executor.specs.Inner.Answered.{room_fault, records_at, recorded_of, Records, Answered}
use Rattle.run.specs.Inner.Settled.{Settles, records_fault, early_fault}
use Rattle.records.specs.declared.Recorded.{Recorded}
use Rattle.executor.proofs.Answers.{refused_with, no-records}
use Rattle.std.specs.Prelude.{Err}
use Rattle.refusals.specs.declared.Refusal.{Refusal}
use Rattle.refusals.specs.Inner.Refusals.{number}

-- The refusals of plan and records.
module _ (query plan : List ℕ) (lent : ℕ) where
  pub records-plan : (k : ℕ) → k ≡ check_fault query plan → (k ≡ 0 → ⊥) → k ≡ records_fault query plan lent
  unfolding records_fault
  records-plan k e bad = e ∙ sym (first_some _ _ (λ z. bad (e ∙ z)))

  pub records_short : check_fault query plan ≡ 0 → lent < length (operators_of plan) → 22 ≡ records_fault query plan lent
  unfolding records_fault
  records_short checked less = sym (first-cons _ _ checked ∙ rw (lt-ltb lent (length (operators_of plan)) less) (first_some 22 _ (λ h. absurd (omega arith))))

  pub records-enough : check_fault query plan ≡ 0 → length (operators_of plan) ≤ lent → 0 ≡ records_fault query plan lent
  unfolding records_fault
  records-enough checked room = sym (first-cons _ _ checked ∙ first-cons _ _ (zero-refuse 22 _ (le-ltb lent (length (operators_of plan)) room)) ∙ first-nil)

  module _ (none : records_fault query plan lent ≡ 0) where
    pub records_checked : check_fault query plan ≡ 0
    unfolding records_fault
    records_checked = first_head _ _ none

    no-22 : refuse 22 (ltb lent (length (operators_of plan))) ≡ 0
    unfolding records_fault
    no-22 = first_head _ _ (first_tail _ _ none)

    pub records_room : length (operators_of plan) ≤ lent
    records_room = ltb-false lent (length (operators_of plan)) (refuse-zero 21 _ no-22)

    pub early-store : (store : List ℕ) → store_fault store ≡ early_fault store query plan lent
    unfolding early_fault
    early-store store = sym (first-cons _ _ records_checked ∙ first-cons _ _ no-22 ∙ first_one _)

  module _ (store : List ℕ) where
    pub early-records : (k : ℕ) → k ≡ records_fault query plan lent → (k ≡ 0 → ⊥) → k ≡ early_fault store query plan lent
    unfolding records_fault early_fault
    early-records k e bad =
        e ∙ sym (first-left (check_fault query plan ∷ refuse 22 (ltb lent (length (operators_of plan))) ∷ []) (store_fault store ∷ []) (λ z. bad (e ∙ z)))

    module _ (none : early_fault store query plan lent ≡ 0) where
      pub early_accepted : records_fault query plan lent ≡ 0
      unfolding records_fault early_fault
      early_accepted =
          first-cons _ _ (first_head _ _ none) ∙ first-cons _ _ (first_head _ _ (first_tail _ _ none)) ∙ first-nil

      pub early_good : store_fault store ≡ 0
      early_good = early-store early_accepted store ∙ none

-- Run's definitions by the refusal.
module _ (cache : Bool) (store query plan : List ℕ) (scratch : ℕ) (list : List ℕ) (lent : ℕ) where
  abbrev fault : ℕ
  fault = run_fault cache store query plan scratch (length list) lent

  pub refused-settles : (k : ℕ) → fault ≡ k → (k ≡ 0 → ⊥) → (r : Recorded) → r.answer ≡ refused_with k → r.operators ≡ 0
      → Settles cache store query plan scratch list list lent r
  unfolding run_answer run_list
  refused-settles k e some r a none =
      let no : eqb k 0 ≡ false = fails (eqb k 0) (λ h. some (eqb-true k 0 h)) in
      record {
        answer = rw (e, no) a;
        list = rw (e, no) refl;
        records = rw (e, no) (no-records r none);
        fits = omega (arith, none);
      }

  pub fault-records : (k : ℕ) → k ≡ records_fault query plan lent → (k ≡ 0 → ⊥) → fault ≡ k
  unfolding run_fault records_fault
  fault-records k e bad =
      first-left (check_fault query plan ∷ refuse 22 (ltb lent (length (operators_of plan))) ∷ []) _ (λ z. bad (e ∙ z)) ∙ sym e

  pub fault-early : (k : ℕ) → k ≡ early_fault store query plan lent → (k ≡ 0 → ⊥) → fault ≡ k
  unfolding run_fault early_fault
  fault-early k e bad =
      first-left (check_fault query plan ∷ refuse 22 (ltb lent (length (operators_of plan))) ∷ store_fault store ∷ []) _ (λ z. bad (e ∙ z)) ∙ sym e

  module _ (none : records_fault query plan lent ≡ 0) where
    checked : check_fault query plan ≡ 0
    checked = records_checked query plan lent none

    room : length (operators_of plan) ≤ lent
    room = records_room query plan lent none

    module _ (good : store_fault store ≡ 0) where
      fault-lengths : fault ≡ room_fault cache (graph_in store) (query_of query) (operators_of plan) scratch (length list)
      unfolding run_fault
      fault-lengths = first-cons _ _ checked ∙ first-cons _ _ (no-22 query plan lent none) ∙ first-cons _ _ good

      module _ (after : List ℕ) (r : Recorded) (a : Answered cache (graph_in store) (query_of query) (operators_of plan) scratch list after r) where
        same-refusal : r.answer.refusal ≡ fault
        same-refusal = a.refusal ∙ sym fault-lengths

        same_number : (f : RunAnswer → ℕ) (n : ℕ) → f r.answer ≡ answered r.answer.refusal n → f r.answer ≡ answered fault n
        same_number f n e = e ∙ ap (λ (k : ℕ). answered k n) same-refusal

        answer : r.answer ≡ run_answer cache store query plan scratch (length list) lent
        unfolding run_answer
        answer =
            λ i. record {
              refusal = same-refusal i;
              rows = same_number (λ (x : RunAnswer). x.rows) _ a.rows i;
              cost = same_number (λ (x : RunAnswer). x.cost) _ a.cost i;
              build = same_number (λ (x : RunAnswer). x.build) _ a.build i;
              probe = same_number (λ (x : RunAnswer). x.probe) _ a.probe i;
            }

        listed : after ≡ run_list cache store query plan scratch list lent
        unfolding run_list
        listed = rw (← same-refusal) a.list

        -- As many as the plan has operators, or none.
        fits : (b : Bool) → Records (cond b (plan_records cache (graph_in store) (query_of query) (operators_of plan)) []) r → r.operators ≤ lent
        fits true rs = omega (arith, rs.number, count-records cache (graph_in store) (query_of query) (operators_of plan), room)
        fits false rs = omega (arith, rs.number)

        pub answered-settles : Settles cache store query plan scratch list after lent r
        answered-settles =
            record {
              answer = answer;
              list = listed;
              records = rw (← same-refusal) a.records;
              fits = fits (eqb r.answer.refusal 0) a.records;
            }

-- What is answered and recorded for a refusal.
pub settles-refused : (cache : Bool) (store query plan : List ℕ) (scratch : ℕ) (list after : List ℕ) (lent : ℕ) (e : Refusal) (r : Recorded)
    → Settles cache store query plan scratch list after lent (recorded_of (Err e)) → r.answer ≡ refused_with (number e) → r.operators ≡ 0
    → Settles cache store query plan scratch list after lent r
settles-refused cache store query plan scratch list after lent e r h a none =
    record {
      answer = a ∙ h.answer;
      list = h.list;
      records = record { number = none ∙ h.records.number; few = omega (arith, none); are = rw none h.records.are };
      fits = omega (arith, none);
    }

-- A scratch counts as its counted length.
counted-twice : (n : ℕ) → counted (counted n) ≡ counted n
counted-twice n = omega arith

counted-fault : (cache : Bool) (store query plan : List ℕ) (scratch list lent : ℕ)
    → run_fault cache store query plan (counted scratch) list lent ≡ run_fault cache store query plan scratch list lent
unfolding run_fault
counted-fault cache store query plan scratch list lent = rw (counted-twice scratch) refl

pub counted-settles : (cache : Bool) (store query plan : List ℕ) (scratch : ℕ) (list after : List ℕ) (lent : ℕ) (r : Recorded)
    → Settles cache store query plan (counted scratch) list after lent r → Settles cache store query plan scratch list after lent r
unfolding run_answer run_list
counted-settles cache store query plan scratch list after lent r h =
    let same = counted-fault cache store query plan scratch (length list) lent in
    record {
      answer = rw same at h.answer;
      list = rw same at h.list;
      records = rw same at h.records;
      fits = h.fits;
    }

-- What a run leaves in the records, where what it is to store is put before the rest.
stored_at : (k : ℕ) (made records : List Record) (n : ℕ) → n ≡ length (records_at k made)
    → records_at k made ++ drop n records ≡ cond (eqb k 0) (made ++ drop (length made) records) records
stored_at k made records n e = rw e (go (eqb k 0))
  where
    go : (b : Bool) → cond b made [] ++ drop (length (cond b made [])) records ≡ cond b (made ++ drop (length made) records) records
    go true = refl
    go false = refl

module _ (cache : Bool) (store query plan : List ℕ) (scratch : ℕ) (list after : List ℕ) (records : List Record) (r : Recorded)
    (h : Settles cache store query plan scratch list after (length records) r) where
  -- There is room for what is to be stored, and it is kept.
  pub may-store : (r.operators ≤ length records) × (r.operators ≤ length r.records) × (r.operators ≤ max_operators)
  may-store =
      let n = sym (length-take r.operators r.records) ∙ ap length h.records.are ∙ sym h.records.number in
      (h.fits, omega (arith, n), h.records.few)

  pub stored-records : take r.operators r.records ++ drop r.operators records ≡ run_records cache store query plan scratch (length list) records
  unfolding run_records
  stored-records =
      ap (λ (l : List Record). l ++ drop r.operators records) h.records.are
      ∙ stored_at (run_fault cache store query plan scratch (length list) (length records)) _ records r.operators h.records.number

  -- Demand 3 of it.
  pub stored-complete : (answer : RunAnswer) (left : List Record) → answer ≡ r.answer → left ≡ take r.operators r.records ++ drop r.operators records
      → ListsEveryMatch cache store query plan scratch list after records left answer
  stored-complete answer left e m =
      rw (e ∙ h.answer, h.list, m ∙ stored-records) (run-lists-every-match cache store query plan scratch list records)

-- The scratch after Run: its counted part, whatever a run left in it, is zeros.
pub cleared-scratch : (k : ℕ) (before left zeros : List ℕ) → k ≡ counted (length before) → length left ≡ k → zeros ≡ replicate (length (take k (left ++ drop k before))) 0
    → zeros ++ drop k (left ++ drop k before) ≡ run_scratch before
unfolding run_scratch
cleared-scratch k before left zeros e l z =
    rw (← e)
    (ap₂ (λ (a b : List ℕ). a ++ b) (z ∙ ap (λ (n : ℕ). replicate n 0) (ap length (take_at left (drop k before) k l) ∙ l)) (drop_at left (drop k before) k l))
