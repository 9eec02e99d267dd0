-- Where a plan file's operators begin and whether their bits are there. Assumes nothing.
use mathlib.Core.Path.{◌≡◌, refl, ◌∙◌, ap}
use mathlib.Core.Logic.{◌⊎◌, inl, inr}
use mathlib.Core.Bool.{Bool, true, false, cond}
use mathlib.Core.List.{List, ◌∷◌, map}
use Prim.Native.Nat.{ℕ, zero, suc, ◌+◌, ◌*◌, ◌≤◌, ◌<◌}
use native.Mathlib.Nat.{le_refl, eq-or-lt_of_le, le_of_suc-le-suc}
use native.Mathlib.Numerals.{add-one}
use native.Mathlib.Omega.{arith}
use lib.Dec.{eqb, ltb}
use lib.ListN.{length}
use borrow.Author.Tests.{lt-ltb, le-ltb, ltb-false}
use Rattle.lists.specs.Lists.{range}
use Rattle.lists.specs.Refusal.{first}
use Rattle.lists.proofs.Faults.{first_head, first_tail, first-append, refuse-zero, first_some, first_group, first-stop, first_next}
use Rattle.packed.specs.Field.{bits_in, bytes_for}
use Rattle.query.specs.Query.{Query}
use Rattle.plan.specs.File.{kind_at, operand_bits, place, operator_fault}
use Rattle.plan_file.specs.Inner.Parts.{end_faults, operators_faults}

-- A file has fewer than b bits exactly where it has fewer bytes than b bits take.
pub bits-lack : (s : List ℕ) (b : ℕ) → length s < bytes_for b → ltb (bits_in s) b ≡ true
bits-lack s b h = lt-ltb (bits_in s) b (omega arith)

pub bits-there : (s : List ℕ) (b : ℕ) → bytes_for b ≤ length s → ltb (bits_in s) b ≡ false
bits-there s b h = le-ltb (bits_in s) b (omega arith)

-- No operand has more than 5 bits.
pub operand-width-le : (k : ℕ) → operand_bits k ≤ 5
operand-width-le k = go (eqb k 0) (eqb k 1)
  where
    go : (a b : Bool) → cond a 5 (cond b 3 0) ≤ 5
    go true b = omega arith
    go false true = omega arith
    go false false = omega arith

-- Operator i ends where the next begins, and so not past the end of a later one.
pub place-next : (s : List ℕ) (i : ℕ) → place s (i + 1) ≡ place s i + 2 + operand_bits (kind_at s (place s i))
unfolding place
place-next s i = rw (add-one i)

pub place_mono : (s : List ℕ) (i k : ℕ) → i ≤ k → place s i ≤ place s k
unfolding place
place_mono s i zero h = let none : i ≡ 0 = omega arith in rw none (le_refl 5)
place_mono s i (suc k) h = go (place_mono s i k) (eq-or-lt_of_le h)
  where
    go : (i ≤ k → place s i ≤ place s k) → (i ≡ suc k) ⊎ (i < suc k) → place s i ≤ place s (suc k)
    go f (inl e) = rw e (le_refl _)
    go f (inr l) = let before : place s i ≤ place s k = f (le_of_suc-le-suc l) in omega arith

pub place-long : (s : List ℕ) (k : ℕ) → place s k ≤ bits_in s → 0 < length s
unfolding place
place-long s k h = omega (arith, place_mono s 0 k (omega arith))

pub place_end : (s : List ℕ) (i k : ℕ) → i < k → place s i + 2 + operand_bits (kind_at s (place s i)) ≤ place s k
place_end s i k h = rw (← place-next s i) (place_mono s (i + 1) k (omega arith))

-- An operator without fault has all its bits.
pub operator-there : (q : Query) (s : List ℕ) (at : ℕ) → operator_fault q s at ≡ 0 → at + 2 + operand_bits (kind_at s at) ≤ bits_in s
operator-there q s at e =
    ltb-false (bits_in s) (at + 2 + operand_bits (kind_at s at)) (refuse-zero 11 _ (first_head _ _ (first_tail _ _ (first_tail _ _ e))))

-- i operators without fault were passed, and the next one begins at a position.
pub record Passed (q : Query) (s : List ℕ) (i at : ℕ) : Type 0 where
  pub here : at ≡ place s i
  pub near : at ≤ 5 + 7 * i
  pub there : bytes_for at ≤ length s
  pub sound : first (map (λ (j : ℕ). operator_fault q s (place s j)) (range i)) ≡ 0

module _ (q : Query) (s : List ℕ) where
  pub passed_none : 0 < length s → Passed q s 0 5
  unfolding place range first
  passed_none h = record { here = refl; near = omega arith; there = omega arith; sound = refl }

  pub passed-more : (i at next : ℕ) → Passed q s i at → operator_fault q s at ≡ 0 → next ≡ at + 2 + operand_bits (kind_at s at) → Passed q s (i + 1) next
  passed-more i at next p e n =
      record {
        here = rw (place-next s i, ← p.here) n;
        near = omega (arith, operand-width-le (kind_at s at), p.near);
        there = let all : next ≤ bits_in s = rw n (operator-there q s at e) in omega arith;
        sound = first_next (λ (j : ℕ). operator_fault q s (place s j)) i p.sound (rw (← p.here) e);
      }

  pub passed-stop : (i at k : ℕ) → Passed q s i at → i < k → (operator_fault q s at ≡ 0 → ⊥) → first (operators_faults q s k) ≡ operator_fault q s at
  passed-stop i at k p h bad =
      rw p.here
      (first_group (map fault (range k)) (end_faults s (place s k))
      ∙ ap (λ (n : ℕ). first (n ∷ end_faults s (place s k))) (first-stop fault k i h p.sound (rw p.here at bad))
      ∙ first_some _ _ (rw p.here at bad))
    where
      fault : ℕ → ℕ
      fault j = operator_fault q s (place s j)

  pub passed-end : (k at : ℕ) → Passed q s k at → first (operators_faults q s k) ≡ first (end_faults s at)
  passed-end k at p =
      rw p.here (first-append (map (λ (j : ℕ). operator_fault q s (place s j)) (range k)) (end_faults s (place s k)) p.sound)
