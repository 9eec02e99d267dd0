-- The plan file: 'operator count (5 bits, 1 to 31), then operators: kind (2 bits); 0 scan with a query edge's
-- index (5), 1 extend with a query vertex (3), 2 join with nothing more', and what Check plan answers.
-- Assumes nothing.
use Rattle.std.specs.Prelude.{cond, not, ◌&&◌, List, [], ◌∷◌, ◌++◌, map, ℕ, zero, suc, ◌+◌, eqb, ltb, length}
use Rattle.lists.specs.Lists.{range}
use Rattle.lists.specs.Refusal.{refuse, first, answered}
use Rattle.packed.specs.Field.{field_at, bits_in, bytes_for, fill_set}
use Rattle.query.specs.Query.{Query}
use Rattle.query.specs.File.{query_of, query_fault}
use Rattle.plan.specs.Plan.{Operator, scan, extend, join, scan_kind, extend_kind, no_kind}
use Rattle.plan.specs.Check.{rules_fault}
use Rattle.plan.specs.declared.CheckedPlan.{CheckedPlan}

abbrev pub operator_count : List ℕ → ℕ
operator_count s = field_at s 0 5

-- The kind of the operator that begins at a bit position, and the bits that follow the kind.
abbrev pub kind_at : List ℕ → ℕ → ℕ
kind_at s at = field_at s at 2

abbrev pub operand_bits : ℕ → ℕ
operand_bits k = cond (eqb k scan_kind) 5 (cond (eqb k extend_kind) 3 0)

abbrev pub operand_at : List ℕ → ℕ → ℕ
operand_at s at = field_at s (at + 2) (operand_bits (kind_at s at))

abbrev pub operator_at : List ℕ → ℕ → Operator
operator_at s at =
    cond (eqb (kind_at s at) scan_kind) (scan (operand_at s at))
    (cond (eqb (kind_at s at) extend_kind) (extend (operand_at s at)) join)

-- Where operator i begins.
unfoldable pub place : List ℕ → ℕ → ℕ
place s zero = 5
place s (suc i) =
    let at = place s i in
    at + 2 + operand_bits (kind_at s at)

-- The plan that a file holds.
unfoldable pub operators_of : List ℕ → List Operator
operators_of s = map (λ (i : ℕ). operator_at s (place s i)) (range (operator_count s))

-- 'Field by field, 12 the bits run out, 14 kind 3, or an edge or vertex the query lacks', of the operator at
-- a position.
abbrev pub operator_fault : Query → List ℕ → ℕ → ℕ
operator_fault q s at =
    first
    (refuse 12 (ltb (bits_in s) (at + 2))
    ∷ refuse 14 (eqb (kind_at s at) no_kind)
    ∷ refuse 12 (ltb (bits_in s) (at + 2 + operand_bits (kind_at s at)))
    ∷ refuse 14 (eqb (kind_at s at) scan_kind && not (ltb (operand_at s at) (length q.edges)))
    ∷ refuse 14 (eqb (kind_at s at) extend_kind && not (ltb (operand_at s at) q.vertices))
    ∷ [])

-- 'Field by field, 12 .., 14 count 0, ..; 13 a further byte or a fill bit set; then by operator', for a query
-- that was read.
unfoldable pub plan_fault : Query → List ℕ → ℕ
plan_fault q s =
    let end = place s (operator_count s) in
    first
    (refuse 12 (ltb (bits_in s) 5)
    ∷ refuse 14 (eqb (operator_count s) 0)
    ∷ (map (λ (i : ℕ). operator_fault q s (place s i)) (range (operator_count s))
    ++ (refuse 13 (ltb (bytes_for end) (length s))
    ∷ refuse 13 (fill_set s end)
    ∷ rules_fault q [] (operators_of s)
    ∷ [])))

-- Check plan: 'the query's refusals; then' the plan's.
unfoldable pub check_fault : List ℕ → List ℕ → ℕ
check_fault query plan = first (query_fault query ∷ plan_fault (query_of query) plan ∷ [])

-- What Check plan answers: 'its operator count', or its refusal with 0.
unfoldable pub check_answer : List ℕ → List ℕ → CheckedPlan
check_answer query plan =
    record {
      refusal = check_fault query plan;
      operators = answered (check_fault query plan) (operator_count plan);
    }
