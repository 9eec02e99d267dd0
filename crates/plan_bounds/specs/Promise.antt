-- What is promised of a run: 'Where all four lie below the cap of 1,073,741,824, and scratch and list reach
-- theirs, a run is never refused by 20, 21 or 30.' Assumes nothing.
use Rattle.std.specs.Prelude.{◌≡◌, Bool, List, ℕ, ◌≤◌, ◌<◌, ltb, length}
use Rattle.lists.specs.Refusal.{refuse}
use Rattle.plan.specs.File.{operators_of}
use Rattle.operator_spec.specs.Limit.{max_words}
use Rattle.run_spec.specs.Run.{run_answer}
use Rattle.plan_bounds.specs.declared.BoundsAnswer.{BoundsAnswer}
use Rattle.plan_bounds.specs.Answer.{bounds_answer}

-- All four lie below the cap.
pub record BelowCap (a : BoundsAnswer) : Type 0 where
  pub list : a.list_words < max_words
  pub scratch : a.scratch_words < max_words
  pub cost : a.cost < max_words
  pub largest : a.largest < max_words

-- What a run is not refused by; and what refuses it yet: with 22, too few records, where they are too few,
-- and nothing else.
pub record NotShort (records : ℕ) (plan : List ℕ) (refusal : ℕ) : Type 0 where
  pub scratch : refusal ≡ 20 → ⊥
  pub list : refusal ≡ 21 → ⊥
  pub numbers : refusal ≡ 30 → ⊥
  pub records_alone : refusal ≡ refuse 22 (ltb records (length (operators_of plan)))

-- Of every run of a store, a query and a plan whose bounds are answered, cache on or off, whatever the
-- records.
abbrev pub NeverShort : List ℕ → List ℕ → List ℕ → Type 0
NeverShort store query plan =
    let a = bounds_answer store query plan in
    a.refusal ≡ 0 → BelowCap a → (cache : Bool) (scratch list records : ℕ) → a.scratch_words ≤ scratch
    → a.list_words ≤ list
    → NotShort records plan (run_answer cache store query plan scratch list records).refusal
