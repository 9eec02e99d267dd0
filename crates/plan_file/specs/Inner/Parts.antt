-- Parts of the plan file's refusal, which functions of the code answer one by one. Assumes nothing.
use Rattle.std.specs.Prelude.{not, ◌&&◌, List, [], ◌∷◌, ◌++◌, map, ℕ, eqb, ltb, length, replicate}
use Rattle.lists.specs.Lists.{range}
use Rattle.lists.specs.Refusal.{refuse, first}
use Rattle.packed.specs.Field.{bits_in, bytes_for, fill_set}
use Rattle.query.specs.Query.{Query}
use Rattle.plan.specs.Plan.{scan_kind, extend_kind}
use Rattle.plan.specs.File.{operator_count, place, operator_fault}

-- A query of n vertices and m edges. The faults of a plan's file look at no more of a query.
abbrev pub of_size : ℕ → ℕ → Query
of_size n m = record {
  vertices = n;
  labels = [];
  firsts = [];
  lasts = [];
  edges = replicate m (record { source = 0; label = 0; target = 0 });
  pairs = [];
}

-- '14 .. an edge or vertex the query lacks', of an operand after a kind, for n vertices and m edges.
abbrev pub operand_fault : ℕ → ℕ → ℕ → ℕ → ℕ
operand_fault k x n m = first (refuse 14 (eqb k scan_kind && not (ltb x m))
    ∷ refuse 14 (eqb k extend_kind && not (ltb x n)) ∷ [])

-- The faults of a plan file whose operators end at a bit position.
abbrev pub end_faults : List ℕ → ℕ → List ℕ
end_faults s end = refuse 13 (ltb (bytes_for end) (length s)) ∷ refuse 13 (fill_set s end) ∷ []

-- The faults of the first k operators, then of the file's end.
abbrev pub operators_faults : Query → List ℕ → ℕ → List ℕ
operators_faults q s k = map (λ (i : ℕ). operator_fault q s (place s i)) (range k) ++ end_faults s (place s k)

-- The faults of a plan's file, before the rules are looked at.
unfoldable pub plan_file_fault : Query → List ℕ → ℕ
plan_file_fault q s =
    first (refuse 12 (ltb (bits_in s) 5) ∷ refuse 14 (eqb (operator_count s) 0)
    ∷ operators_faults q s (operator_count s))
