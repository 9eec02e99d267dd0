-- What is claimed of a drawn plan: 'what it writes passes the plan check, so its lists are as complete as a
-- hand-drawn plan's'. Assumes nothing.
use Rattle.std.specs.Prelude.{◌≡◌, Bool, List, ℕ, length, take}
use Rattle.graph.specs.File.{graph_of}
use Rattle.graph.specs.Store.{graph_in, LoadsTo}
use Rattle.query.specs.File.{query_of}
use Rattle.plan.specs.File.{operators_of, check_fault}
use Rattle.run_spec.specs.declared.Record.{Record}
use Rattle.run_spec.specs.declared.RunAnswer.{RunAnswer}
use Rattle.run_spec.specs.Run.{run_answer, run_list, run_records}
use Rattle.run_spec.specs.Complete.{CompleteRun}
use Rattle.planner.specs.declared.DrawAnswer.{DrawAnswer}
use Rattle.plan_order.specs.Order.{drawn_operators}
use Rattle.planner.specs.Draw.{draw_fault, draw_answer, draw_bytes}

-- The plan that was drawn: as many of the lent bytes as the answer says.
abbrev pub plan_in : DrawAnswer → List ℕ → List ℕ
plan_in r bytes = take r.bytes bytes

-- 'What it writes passes the plan check', and holds the drawn operators.
pub record PassesCheck (store query : List ℕ) (r : DrawAnswer) (bytes : List ℕ) : Type 0 where
  pub passes : r.refusal ≡ 0 → check_fault query (plan_in r bytes) ≡ 0
  pub operators : r.refusal ≡ 0 → operators_of (plan_in r bytes)
      ≡ drawn_operators (graph_in store) (query_of query)

-- The plan that Draw plan draws into the lent bytes.
abbrev pub drawn_in : List ℕ → List ℕ → List ℕ → List ℕ
drawn_in store query bytes = plan_in (draw_answer store query (length bytes)) (draw_bytes store query bytes)

-- 'So its lists are as complete as a hand-drawn plan's': from a query alone to the complete list, of what a
-- run over the graph's store answers and leaves.
abbrev pub DrawnListsEveryMatch : Bool → List ℕ → List ℕ → List ℕ → ℕ → List ℕ → List ℕ → List Record
    → List Record → RunAnswer → Type 0
DrawnListsEveryMatch cache store query bytes scratch before after lent left r =
    (file : List ℕ) → LoadsTo file store → draw_fault store query (length bytes) ≡ 0
    → CompleteRun cache (graph_of file) (query_of query) (drawn_operators (graph_of file) (query_of query)) scratch
    before after lent left r

-- Of Draw plan and then Run on what it drew.
abbrev pub DrawnThenRun : Bool → List ℕ → List ℕ → List ℕ → ℕ → List ℕ → List Record → Type 0
DrawnThenRun cache store query bytes scratch list records =
    let plan = drawn_in store query bytes in
    DrawnListsEveryMatch cache store query bytes scratch list
    (run_list cache store query plan scratch list (length records)) records
    (run_records cache store query plan scratch (length list) records)
    (run_answer cache store query plan scratch (length list) (length records))
