-- Tests as numbers, whose sum is 0 where each of them is. Assumes nothing.
use mathlib.Core.Path.{◌≡◌, refl}
use mathlib.Core.Bool.{Bool, true, false, not}
use Prim.Native.Nat.{ℕ, ◌≤◌}
use native.Mathlib.Omega.{arith}
use mir.Val.{bool_byte}
use lib.Dec.{eqb, ltb}
use borrow.Author.Tests.{eqb-true, ltb-false}

pub no_difference : (a b : ℕ) → bool_byte (not (eqb a b)) ≡ 0 → a ≡ b
no_difference a b e = go (eqb a b) refl e
  where
    go : (t : Bool) → eqb a b ≡ t → bool_byte (not t) ≡ 0 → a ≡ b
    go true t e = eqb-true a b t
    go false t e = absurd (omega arith)

pub none_below : (a b : ℕ) → bool_byte (ltb a b) ≡ 0 → b ≤ a
none_below a b e = go (ltb a b) refl e
  where
    go : (t : Bool) → ltb a b ≡ t → bool_byte t ≡ 0 → b ≤ a
    go true t e = absurd (omega arith)
    go false t e = ltb-false a b t
