-- Non-interference: what another company hangs cannot be seen in any answer. Assumes nothing.
use Rattle.std.specs.Prelude.{◌≡◌, Bool, List, ℕ, length}
use Rattle.run_spec.specs.declared.RunAnswer.{RunAnswer}
use Rattle.run_spec.specs.declared.Record.{Record}
use Rattle.run_spec.specs.Run.{run_answer, run_list, run_records, run_scratch}
use Rattle.count.specs.declared.CountAnswer.{CountAnswer}
use Rattle.count.specs.Count.{count_answer}
use Rattle.planner.specs.declared.DrawAnswer.{DrawAnswer}
use Rattle.planner.specs.Draw.{draw_answer, draw_bytes}
use Rattle.find.specs.Find.{find_answer, find_bytes, find_list, find_records}
use Rattle.plan_bounds.specs.Answer.{bounds_answer}
use Rattle.plan_spectrum.specs.declared.OrderingsAnswer.{OrderingsAnswer}
use Rattle.plan_spectrum.specs.Spectrum.{orderings_answer, orderings_words}
use Rattle.isolation.specs.Others.{TwoCompanies}

-- All that a caller of Run has in hand afterwards: the answer (refusal, rows, cost, build and probe rows),
-- the list, the records and the scratch.
pub record AfterRun : Type 0 where
  pub answer : RunAnswer
  pub list : List ℕ
  pub records : List Record
  pub scratch : List ℕ

abbrev pub after_run : Bool → List ℕ → List ℕ → List ℕ → List ℕ → List ℕ → List Record → AfterRun
after_run cache store query plan scratch list records =
    record {
      answer = run_answer cache store query plan (length scratch) (length list) (length records);
      list = run_list cache store query plan (length scratch) list (length records);
      records = run_records cache store query plan (length scratch) (length list) records;
      scratch = run_scratch scratch;
    }

-- And after Count: the answer (refusal, the four numbers and the need) and the scratch.
pub record AfterCount : Type 0 where
  pub answer : CountAnswer
  pub scratch : List ℕ

abbrev pub after_count : Bool → List ℕ → List ℕ → List ℕ → List ℕ → AfterCount
after_count cache store query plan scratch =
    record { answer = count_answer cache store query plan (length scratch); scratch = run_scratch scratch }

-- And after a plan was drawn: the answer and the lent bytes.
pub record AfterDraw : Type 0 where
  pub answer : DrawAnswer
  pub bytes : List ℕ

abbrev pub after_draw : List ℕ → List ℕ → List ℕ → AfterDraw
after_draw store query bytes = record {
  answer = draw_answer store query (length bytes);
  bytes = draw_bytes store query bytes;
}

-- And after all orderings of a small pattern: the answer, the lent words and the scratch.
pub record AfterOrderings : Type 0 where
  pub answer : OrderingsAnswer
  pub words : List ℕ
  pub scratch : List ℕ

abbrev pub after_orderings : List ℕ → List ℕ → List ℕ → List ℕ → AfterOrderings
after_orderings store query scratch words =
    record {
      answer = orderings_answer store query (length scratch) (length words);
      words = orderings_words store query (length scratch) words;
      scratch = run_scratch scratch;
    }

-- And after Find: the run's answer, the drawn plan's length, the lent bytes, and the list, the records and
-- the scratch.
pub record AfterFind : Type 0 where
  pub answer : RunAnswer
  pub drawn : ℕ
  pub bytes : List ℕ
  pub list : List ℕ
  pub records : List Record
  pub scratch : List ℕ

abbrev pub after_find : Bool → List ℕ → List ℕ → List ℕ → List ℕ → List ℕ → List Record → AfterFind
after_find cache store query bytes scratch list records =
    record {
      answer = find_answer cache store query bytes (length scratch) (length list) (length records);
      drawn = find_bytes cache store query bytes (length scratch) (length list) (length records);
      bytes = draw_bytes store query bytes;
      list = find_list cache store query bytes (length scratch) list (length records);
      records = find_records cache store query bytes (length scratch) (length list) records;
      scratch = run_scratch scratch;
    }

-- No answer tells two stores apart: whatever plan, cache setting and buffers are lent, refused runs too. The
-- bounds of a plan lend nothing: their answer is all.
pub record CannotSee (query one two : List ℕ) : Type 0 where
  pub run : (cache : Bool) (plan scratch list : List ℕ) (records : List Record)
      → after_run cache one query plan scratch list records ≡ after_run cache two query plan scratch list
      records
  pub count : (cache : Bool) (plan scratch : List ℕ) → after_count cache one query plan scratch
      ≡ after_count cache two query plan scratch
  pub draw : (bytes : List ℕ) → after_draw one query bytes ≡ after_draw two query bytes
  pub bounds : (plan : List ℕ) → bounds_answer one query plan ≡ bounds_answer two query plan
  pub orderings : (scratch words : List ℕ) → after_orderings one query scratch words
      ≡ after_orderings two query scratch words
  pub find : (cache : Bool) (bytes scratch list : List ℕ) (records : List Record)
      → after_find cache one query bytes scratch list records
      ≡ after_find cache two query bytes scratch list records

-- What another company hangs cannot be seen in any answer.
abbrev pub NonInterference : List ℕ → List ℕ → List ℕ → Type 0
NonInterference query one two = TwoCompanies query one two → CannotSee query one two
