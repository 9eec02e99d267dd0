-- The answers of a walk as numbers: 0 where it went on to its end, 19 where the sides do not agree, 1 where that
-- is not known. Assumes nothing.
use Rattle.std.specs.Prelude.{ℕ, Option, Some, None, Result, Ok, Err}
use Rattle.store_step.specs.declared.Stop.{Stop}
use Rattle.store_step.specs.declared.Stop.TheVariants.{Disagree, Undecided}

abbrev pub number : Stop → ℕ
number Disagree = 19
number Undecided = 1

abbrev pub stop_of : {A : Type 0} → Result A Stop → ℕ
stop_of (Ok _) = 0
stop_of (Err stop) = number stop

-- The label of a vertex's next entry, 0 for none.
abbrev pub label_of : Result (Option ℕ) Stop → ℕ
label_of (Ok (Some label)) = label
label_of (Ok None) = 0
label_of (Err _) = 0
