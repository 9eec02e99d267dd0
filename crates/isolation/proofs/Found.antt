-- Find is Draw plan and then Run, so what these do not tell apart it does not. Assumes nothing.
use mathlib.Core.Path.{◌≡◌}
use mathlib.Core.Bool.{Bool, cond}
use mathlib.Core.List.{List}
use Prim.Native.Nat.{ℕ}
use lib.Dec.{eqb}
use Rattle.lists.specs.Refusal.{answered}
use Rattle.run_spec.specs.declared.RunAnswer.{RunAnswer}
use Rattle.run_spec.specs.declared.Record.{Record}
use Rattle.planner.specs.Draw.{draw_answer}
use Rattle.planner.specs.Complete.{plan_in}
use Rattle.find.specs.Find.{find_answer, find_bytes, find_list, find_records}
use Rattle.isolation.specs.CannotSee.{AfterRun, after_run, AfterDraw, after_draw, AfterFind, after_find}

-- What a caller of Find has in hand, by what a caller of the two has.
found : List ℕ → List Record → AfterDraw → (List ℕ → AfterRun) → AfterFind
found list records d run =
    let k = d.answer.refusal in
    let r = run (plan_in d.answer d.bytes) in
    let a : RunAnswer = cond (eqb k 0) r.answer (record { refusal = k; rows = 0; cost = 0; build = 0; probe = 0 }) in
    record {
      answer = a;
      drawn = answered a.refusal d.answer.bytes;
      bytes = d.bytes;
      list = cond (eqb k 0) r.list list;
      records = cond (eqb k 0) r.records records;
      scratch = r.scratch;
    }

pub same-find : (query one two : List ℕ)
    → ((cache : Bool) (plan scratch list : List ℕ) (records : List Record)
    → after_run cache one query plan scratch list records ≡ after_run cache two query plan scratch list records)
    → ((bytes : List ℕ) → after_draw one query bytes ≡ after_draw two query bytes)
    → (cache : Bool) (bytes scratch list : List ℕ) (records : List Record)
    → after_find cache one query bytes scratch list records ≡ after_find cache two query bytes scratch list records
unfolding found draw_answer find_answer find_bytes find_list find_records
same-find query one two run draw cache bytes scratch list records =
    λ i. found list records (draw bytes i) (λ (plan : List ℕ). run cache plan scratch list records i)
