-- A plan as the structs of the code have it. Assumes nothing.
use Rattle.std.specs.Prelude.{cond, List, map, ℕ, eqb, get_or}
use Rattle.lists.specs.Lists.{range}
use Rattle.query.specs.Answer.{padded}
use Rattle.plan.specs.Plan.{Operator, scan, extend, join, max_operators, scan_kind, extend_kind}
use Rattle.plan.specs.File.{operator_count, kind_at, operand_at, place}
use Rattle.plan.specs.declared.Operator.{Operator as OperatorEnum}
use Rattle.plan.specs.declared.Operator.TheVariants.{Scan, Extend, Join}
use Rattle.plan.specs.declared.Plan.{Plan as PlanStruct}

-- The operator that a value of the enum is.
abbrev pub operator_is : OperatorEnum → Operator
operator_is (Scan i) = scan i
operator_is (Extend v) = extend v
operator_is Join = join

-- The plan of a file as the code has it: the count, and an array of kinds and one of operands, 0 past the
-- last.
unfoldable pub plan_struct : List ℕ → PlanStruct
plan_struct s =
    record {
      operators = operator_count s;
      kinds = padded max_operators (map (λ (i : ℕ). kind_at s (place s i)) (range (operator_count s)));
      operands = padded max_operators (map (λ (i : ℕ). operand_at s (place s i)) (range (operator_count s)));
    }

-- The operator of a kind and an operand.
abbrev pub operator_of : ℕ → ℕ → Operator
operator_of k x = cond (eqb k scan_kind) (scan x) (cond (eqb k extend_kind) (extend x) join)

-- The operator of an index in a struct.
abbrev pub operator_in : PlanStruct → ℕ → Operator
operator_in p i = operator_of (get_or p.kinds i 0) (get_or p.operands i 0)

-- The plan that a struct holds.
unfoldable pub operators_in : PlanStruct → List Operator
operators_in p = map (operator_in p) (range p.operators)
