-- Find's definitions by what decides: refused before a plan is drawn, or as Run settles it. Assumes nothing.
use mathlib.Core.Path.{◌≡◌, refl, sym, ◌∙◌, ap}
use mathlib.Core.Bool.{Bool, true, false, cond}
use mathlib.Core.List.{List, [], ◌∷◌, ◌++◌}
use Prim.Native.Nat.{ℕ, ◌≤◌}
use native.Mathlib.Omega.{arith}
use lib.Dec.{eqb}
use lib.ListN.{length, take, drop, length-append}
use borrow.Author.Tests.{eqb-true, eqb-false, eq-eqb, ne_eqb}
use Rattle.lists.specs.Refusal.{first, answered}
use Rattle.lists.proofs.Faults.{first-left}
use Rattle.graph.specs.Graph.{Graph}
use Rattle.graph.specs.Store.{store_fault}
use Rattle.query.specs.Query.{Query}
use Rattle.query.specs.File.{query_fault}
use Rattle.plan.specs.Plan.{max_operators}
use Rattle.run_spec.specs.declared.Record.{Record}
use Rattle.run_spec.specs.declared.RunAnswer.{RunAnswer}
use Rattle.run_spec.specs.Run.{counted, run_answer, run_list, run_records}
use Rattle.executor.proofs.Answers.{refused_with}
use Rattle.planner.specs.Draw.{drawn_plan, draw_fault, draw_answer, draw_bytes}
use Rattle.planner.specs.Complete.{drawn_in, DrawnListsEveryMatch}
use Rattle.planner.specs.Inner.Parts.{Drawn}
use Rattle.planner.specs.declared.DrawAnswer.{DrawAnswer}
use Rattle.planner.proofs.Drawing.{drawn-lists-every-match}
use Rattle.records.specs.declared.Recorded.{Recorded}
use Rattle.run.specs.Inner.Settled.{Settles}
use Rattle.run.proofs.Answers.{counted-settles, may-store as run-may-store, stored-records}
use Rattle.find.specs.Find.{find_answer, find_bytes, find_list, find_records}
use Rattle.find.specs.Inner.Finding.{Finds}

-- The drawn bytes lie in those that were lent.
pub drawn-room : (g : Graph) (q : Query) (before after : List ℕ) (r : DrawAnswer) → Drawn g q before after r → r.refusal ≡ 0 → r.bytes ≤ length after
drawn-room g q before after r d e =
    let z = eq-eqb r.refusal 0 e in
    let b : r.bytes ≡ length (drawn_plan g q) = rw z at d.bytes in
    let l : after ≡ drawn_plan g q ++ drop (length (drawn_plan g q)) before = rw z at d.left in
    rw (b, l, length-append) (omega arith)

-- Draw plan's refusal by the query's, or by the store's.
module _ (store query bytes : List ℕ) where
  pub draw-early : (k : ℕ) → k ≡ first (query_fault query ∷ store_fault store ∷ []) → (k ≡ 0 → ⊥) → draw_fault store query (length bytes) ≡ k
  unfolding draw_fault
  draw-early k e bad = first-left (query_fault query ∷ store_fault store ∷ []) _ (λ z. bad (e ∙ z)) ∙ sym e

  pub untouched : (k : ℕ) → draw_fault store query (length bytes) ≡ k → (k ≡ 0 → ⊥) → bytes ≡ draw_bytes store query bytes
  unfolding draw_bytes
  untouched k e bad = rw (e, ne_eqb k 0 bad) refl

  pub fault-of : (r : DrawAnswer) → r ≡ draw_answer store query (length bytes) → draw_fault store query (length bytes) ≡ r.refusal
  unfolding draw_answer
  fault-of r e = sym (ap (λ (x : DrawAnswer). x.refusal) e)

-- Find, but for what it stores, by what decides.
module _ (cache : Bool) (store query bytes left : List ℕ) (scratch : ℕ) (before : List ℕ) (lent n : ℕ) (r : Recorded) (plan : left ≡ draw_bytes store query bytes) where
  pub refused-finds : (k : ℕ) → draw_fault store query (length bytes) ≡ k → (k ≡ 0 → ⊥) → n ≡ 0 → r.answer ≡ refused_with k → r.operators ≡ 0
      → Finds cache store query bytes left scratch before before lent n r
  refused-finds k e bad z a none =
      record {
        plan = plan;
        drawn = rw (a, ne_eqb k 0 bad) z;
        refused = λ _. record { answer = a ∙ ap refused_with (sym e); list = refl; none = none };
        ran = λ ok. absurd (bad (sym e ∙ ok));
      }

  pub settled-finds : (after : List ℕ) → draw_fault store query (length bytes) ≡ 0 → Settles cache store query (drawn_in store query bytes) scratch before after lent r
      → n ≡ answered r.answer.refusal (draw_answer store query (length bytes)).bytes → Finds cache store query bytes left scratch before after lent n r
  settled-finds after ok h b = record { plan = plan; drawn = b; refused = λ bad. absurd (bad ok); ran = λ _. h }

-- A scratch counts as its counted length.
pub counted-finds : (cache : Bool) (store query bytes left : List ℕ) (scratch : ℕ) (before after : List ℕ) (lent n : ℕ) (r : Recorded)
    → Finds cache store query bytes left (counted scratch) before after lent n r → Finds cache store query bytes left scratch before after lent n r
counted-finds cache store query bytes left scratch before after lent n r h =
    record {
      plan = h.plan;
      drawn = h.drawn;
      refused = h.refused;
      ran = λ ok. counted-settles cache store query (drawn_in store query bytes) scratch before after lent r (h.ran ok);
    }

-- What Find answers and leaves, where what is to be stored is put before the rest.
module _ (cache : Bool) (store query bytes left : List ℕ) (scratch : ℕ) (before after : List ℕ) (records : List Record) (n : ℕ) (r : Recorded)
    (h : Finds cache store query bytes left scratch before after (length records) n r) where
  abbrev fault : ℕ
  fault = draw_fault store query (length bytes)

  abbrev drawn : List ℕ
  drawn = drawn_in store query bytes

  pub may-store : (r.operators ≤ length records) × (r.operators ≤ length r.records) × (r.operators ≤ max_operators)
  may-store = go (eqb fault 0) refl
    where
      go : (b : Bool) → eqb fault 0 ≡ b → (r.operators ≤ length records) × (r.operators ≤ length r.records) × (r.operators ≤ max_operators)
      go true e = run-may-store cache store query drawn scratch before after records r (h.ran (eqb-true fault 0 e))
      go false e = let none = (h.refused (eqb-false fault 0 e)).none in (omega (arith, none), omega (arith, none), omega (arith, none))

  pub found-answer : r.answer ≡ find_answer cache store query bytes scratch (length before) (length records)
  unfolding find_answer
  found-answer = go (eqb fault 0) refl
    where
      go : (b : Bool) → eqb fault 0 ≡ b → r.answer ≡ cond b (run_answer cache store query drawn scratch (length before) (length records)) (refused_with fault)
      go true e = (h.ran (eqb-true fault 0 e)).answer
      go false e = (h.refused (eqb-false fault 0 e)).answer

  pub found-bytes : n ≡ find_bytes cache store query bytes scratch (length before) (length records)
  unfolding find_bytes
  found-bytes = h.drawn ∙ ap (λ (a : RunAnswer). answered a.refusal (draw_answer store query (length bytes)).bytes) found-answer

  pub found-list : after ≡ find_list cache store query bytes scratch before (length records)
  unfolding find_list
  found-list = go (eqb fault 0) refl
    where
      go : (b : Bool) → eqb fault 0 ≡ b → after ≡ cond b (run_list cache store query drawn scratch before (length records)) before
      go true e = (h.ran (eqb-true fault 0 e)).list
      go false e = (h.refused (eqb-false fault 0 e)).list

  pub found-records : take r.operators r.records ++ drop r.operators records ≡ find_records cache store query bytes scratch (length before) records
  unfolding find_records
  found-records = go (eqb fault 0) refl
    where
      go : (b : Bool) → eqb fault 0 ≡ b
          → take r.operators r.records ++ drop r.operators records ≡ cond b (run_records cache store query drawn scratch (length before) records) records
      go true e = stored-records cache store query drawn scratch before after records r (h.ran (eqb-true fault 0 e))
      go false e = ap (λ (i : ℕ). take i r.records ++ drop i records) (h.refused (eqb-false fault 0 e)).none

  -- From a query alone to the complete list.
  pub found-complete : (answer : RunAnswer) (stored : List Record) → answer ≡ r.answer → stored ≡ take r.operators r.records ++ drop r.operators records
      → DrawnListsEveryMatch cache store query bytes scratch before after records stored answer
  found-complete answer stored e m file loaded ok =
      let s = h.ran ok in
      rw (e ∙ s.answer, s.list, m ∙ stored-records cache store query drawn scratch before after records r s)
      (drawn-lists-every-match cache store query bytes scratch before records file loaded ok)
