-- Check plan on the triangle of document 01: its plan is accepted, and one plan for each refusal is refused. Computed. Assumes
-- nothing.
use mathlib.Core.Path.{◌≡◌, refl}
use mathlib.Core.List.{List, [], ◌∷◌, map}
use Prim.Native.Nat.{ℕ}
use Rattle.lists.specs.Lists.{range, all, any, keep}
use Rattle.lists.specs.Refusal.{first}
use Rattle.packed.specs.Field.{bit_at, field_at, fill_set}
use Rattle.query.specs.Query.{reached, connected}
use Rattle.query.specs.File.{query_of, query_fault}
use Rattle.plan.specs.Check.{joinable, rule_fault, covered, end_fault, rules_fault}
use Rattle.plan.specs.File.{place, operators_of, plan_fault, check_fault}

-- The triangle 0→1, 0→2, 1→2, its vertices of any label and day.
pub triangle : List ℕ
triangle = 49 ∷ 128 ∷ 0 ∷ 0 ∷ 0 ∷ 127 ∷ 255 ∷ 128 ∷ 0 ∷ 0 ∷ 0 ∷ 127 ∷ 255 ∷ 128 ∷ 0 ∷ 0 ∷ 0 ∷ 127 ∷ 255 ∷ 130 ∷ 2 ∷ 16 ∷ 9 ∷ 64 ∷ 32 ∷ []

pub plans : List (List ℕ)
plans =
    -- 0: the plan of document 01, scan 0, extend 2
    (16 ∷ 5 ∷ 0 ∷ [])
    -- 12: no bits
    ∷ []
    -- 14: no operator
    ∷ (0 ∷ [])
    -- 13: a further byte
    ∷ (16 ∷ 5 ∷ 0 ∷ 0 ∷ [])
    -- 15: a join over no result
    ∷ (12 ∷ [])
    -- 15: scan 0, scan 0, two results at the end
    ∷ (16 ∷ 0 ∷ 0 ∷ [])
    -- 16: scan 0, extend 0, a covered vertex
    ∷ (16 ∷ 4 ∷ 0 ∷ [])
    -- 17: scan 0, scan 1, join; edge 2 runs between the sides and is lost
    ∷ (24 ∷ 0 ∷ 48 ∷ [])
    -- 18: scan 0, vertex 2 is uncovered
    ∷ (8 ∷ 0 ∷ [])
    ∷ []

pub refusals : map (check_fault triangle) plans ≡ 0 ∷ 12 ∷ 14 ∷ 13 ∷ 15 ∷ 15 ∷ 16 ∷ 17 ∷ 18 ∷ []
unfolding triangle plans check_fault query_fault query_of connected reached plan_fault place operators_of rules_fault rule_fault covered end_fault joinable first range all any keep bit_at field_at fill_set
refusals = refl
