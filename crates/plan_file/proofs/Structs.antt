-- Laws of a plan as the code has it. Assumes nothing.
use mathlib.Core.Path.{◌≡◌, refl, ap₂, ◌∙◌}
use mathlib.Core.List.{List, map}
use Prim.Native.Nat.{ℕ, ◌+◌, ◌*◌, ◌≤◌, ◌<◌}
use native.Mathlib.Nat.{le_trans}
use native.Mathlib.Omega.{arith}
use lib.ListN.{get_or, set, replicate}
use Rattle.lists.specs.Lists.{range}
use Rattle.lists.proofs.Maps.{length-image, get_or-image, image-ext}
use Rattle.packed.specs.Field.{bits_in}
use Rattle.query.specs.Answer.{padded}
use Rattle.query.proofs.Images.{padded-step, get_or-padded}
use Rattle.plan.specs.Plan.{Operator}
use Rattle.plan.specs.File.{operator_count, kind_at, operand_bits, operand_at, operator_at, place, operators_of}
use Rattle.plan.specs.Inner.Struct.{plan_struct, operator_of, operator_in, operators_in}
use Rattle.plan.specs.Plan.{max_operators}
use Rattle.plan.specs.declared.Plan.{Plan as PlanStruct}
use Rattle.plan_file.proofs.Places.{place-next, place_end}

-- The kinds and operands of the first i operators stand in two arrays, and the next operator begins at a position.
pub record Copied (s : List ℕ) (i at : ℕ) (kinds operands : List ℕ) : Type 0 where
  pub here : at ≡ place s i
  pub near : at ≤ 5 + 7 * i
  pub kinds_are : kinds ≡ padded max_operators (map (λ (j : ℕ). kind_at s (place s j)) (range i))
  pub operands_are : operands ≡ padded max_operators (map (λ (j : ℕ). operand_at s (place s j)) (range i))

module _ (s : List ℕ) where
  pub copied_none : Copied s 0 5 (replicate max_operators 0) (replicate max_operators 0)
  unfolding place range padded
  copied_none = record { here = refl; near = omega arith; kinds_are = refl; operands_are = refl }

  -- The next operator's bits are there.
  pub copied-there : {i at : ℕ} {kinds operands : List ℕ} → Copied s i at kinds operands → i < operator_count s → place s (operator_count s) ≤ bits_in s
      → at + 2 + operand_bits (kind_at s at) ≤ bits_in s
  copied-there {i} {at} c h l = rw c.here (le_trans (place_end s i (operator_count s) h) l)

  pub copied_more : {i at next kind operand : ℕ} {kinds operands : List ℕ} → Copied s i at kinds operands → i < max_operators
      → kind ≡ kind_at s at → operand ≡ operand_at s at → next ≡ at + 2 + operand_bits (kind_at s at) → next ≤ at + 7
      → Copied s (i + 1) next (set kinds i kind) (set operands i operand)
  copied_more {i} {at} c h k o n l =
      record {
        here = rw (place-next s i, ← c.here) n;
        near = omega (arith, c.near);
        kinds_are = padded-step (λ (j : ℕ). kind_at s (place s j)) max_operators i _ _ h (rw (← c.here) k) c.kinds_are;
        operands_are = padded-step (λ (j : ℕ). operand_at s (place s j)) max_operators i _ _ h (rw (← c.here) o) c.operands_are;
      }

  pub copied_all : {at count : ℕ} {kinds operands : List ℕ} → count ≡ operator_count s → Copied s count at kinds operands
      → ◌≡◌ {A = PlanStruct} (record { operators = count; kinds = kinds; operands = operands }) (plan_struct s)
  unfolding plan_struct
  copied_all e c = rw (c.kinds_are, c.operands_are, e)

-- The struct of a file holds the file's plan.
pub file-operators : (s : List ℕ) → operators_in (plan_struct s) ≡ operators_of s
unfolding operators_in plan_struct operators_of
file-operators s =
    image-ext (operator_in (plan_struct s)) (λ (i : ℕ). operator_at s (place s i)) (operator_count s)
    (λ i h. ap₂ operator_of (at (λ (j : ℕ). kind_at s (place s j)) i h) (at (λ (j : ℕ). operand_at s (place s j)) i h))
  where
    at : (f : ℕ → ℕ) (i : ℕ) → i < operator_count s → get_or (padded max_operators (map f (range (operator_count s)))) i 0 ≡ f i
    at f i h =
        get_or-padded max_operators (map f (range (operator_count s))) i (rw length-image h) ∙ get_or-image f (operator_count s) i 0 h

-- The operator of an index below the count.
pub operator-in : (p : PlanStruct) (i : ℕ) (d : Operator) → i < p.operators → get_or (operators_in p) i d ≡ operator_in p i
unfolding operators_in
operator-in p i d h = get_or-image (operator_in p) p.operators i d h
