-- Run for callers that hold the records in an array. Assumes nothing.
use Rattle.std.specs.Prelude.{◌≡◌, Bool, List, ◌++◌, ℕ, length, take, drop}
use Rattle.run_spec.specs.declared.Record.{Record}
use Rattle.run_spec.specs.Run.{run_answer, run_list, run_records, run_scratch}
use Rattle.lending.specs.declared.Lending.{Lending}
use Rattle.lending.specs.declared.Filled.{Filled}

-- The records that are lent: the first ones of the array.
abbrev pub lent_in : Lending → List Record
lent_in h = take h.lent h.records

-- Run over those records: its answer, the list, the scratch, and the array afterwards, of which those that
-- were not lent are untouched.
pub record Fills (cache : Bool) (store query plan scratch cleared list listed : List ℕ) (held : Lending)
    (r : Filled) : Type 0 where
  pub answer : r.answer ≡ run_answer cache store query plan (length scratch) (length list)
      (length (lent_in held))
  pub rows : listed ≡ run_list cache store query plan (length scratch) list (length (lent_in held))
  pub recorded : r.records ≡ run_records cache store query plan (length scratch) (length list) (lent_in held)
      ++ drop held.lent held.records
  pub scratched : cleared ≡ run_scratch scratch
