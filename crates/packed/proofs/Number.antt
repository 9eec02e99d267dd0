-- The laws of numbers made of binary digits, for any count of digits. Fields of files and of lists of bits are such numbers.
-- Assumes nothing.
use mathlib.Core.Path.{◌≡◌, sym, ap, ◌∙◌}
use Prim.Native.Nat.{ℕ, zero, suc, ◌+◌, ◌*◌, ◌/◌, ◌%◌, ◌^◌, ◌<◌}
use native.Mathlib.Nat.{div-eq_of_lt, add-zero, add-suc, pow-suc}
use native.Mathlib.Numerals.{add-one}
use native.Mathlib.Omega.{arith}
use lib.Pow.{shr-shr, high, low}
use Rattle.packed.specs.Encode.{number}

-- Equal digits make equal numbers.
pub number-ext : (f g : ℕ → ℕ) (at from w : ℕ) → ((j : ℕ) → j < w → f (at + j) ≡ g (from + j)) → number f at w ≡ number g from w
unfolding number
number-ext f g at from zero h = omega arith
number-ext f g at from (suc w) h =
    let first : number f at w ≡ number g from w = number-ext f g at from w (λ j l. h j (omega arith)) in
    omega (arith, h w (omega arith))

-- The number of a + b digits: its first a digits, then its last b.
pub number-add : (f : ℕ → ℕ) (at a b : ℕ) → number f at (a + b) ≡ number f at a * 2 ^ b + number f (at + a) b
unfolding number
number-add f at a zero = rw (add-zero a) (omega arith)
number-add f at a (suc b) =
    let ih : number f at (a + b) ≡ number f at a * 2 ^ b + number f (at + a) b = number-add f at a b in
    let same : f (at + (a + b)) ≡ f (at + a + b) = ap f (omega arith) in
    rw (add-suc, pow-suc) (omega arith)

-- Where the first of w digits are those of x, they are x's quotient: j of them, with k after.
pub number-quotient : (f : ℕ → ℕ) (at w x : ℕ) → x < 2 ^ w → ((j k : ℕ) → j + suc k ≡ w → f (at + j) ≡ x / 2 ^ k % 2)
    → (j k : ℕ) → j + k ≡ w → number f at j ≡ x / 2 ^ k
unfolding number
number-quotient f at w x l h zero k e = let all : k ≡ w = omega arith in rw all (sym (div-eq_of_lt l))
number-quotient f at w x l h (suc j) k e =
    let first : number f at j ≡ x / 2 ^ suc k = number-quotient f at w x l h j (suc k) (omega arith) in
    let half : x / 2 ^ k / 2 ≡ x / 2 ^ suc k = rw (← add-one k) (shr-shr x k 1) in
    rw (first, ← half, h j k (omega arith)) (omega arith)

-- The w digits of x make x.
pub number_is : (f : ℕ → ℕ) (at w x : ℕ) → x < 2 ^ w → ((j k : ℕ) → j + suc k ≡ w → f (at + j) ≡ x / 2 ^ k % 2) → number f at w ≡ x
number_is f at w x l h = number-quotient f at w x l h w 0 (omega arith) ∙ omega arith

module _ (f : ℕ → ℕ) (digit : (i : ℕ) → f i < 2) where
  -- A number of w digits is below 2 ^ w.
  pub number_lt : (at w : ℕ) → number f at w < 2 ^ w
  unfolding number
  number_lt at zero = omega arith
  number_lt at (suc w) = omega (arith, number_lt at w, digit (at + w))

  -- The first a digits of a number, as its quotient.
  pub number-high : (at a b : ℕ) → number f at (a + b) / 2 ^ b ≡ number f at a
  number-high at a b = rw number-add (high (number f at a) b (number_lt (at + a) b))

  -- The last b digits of a number, as its remainder.
  pub number-low : (at a b : ℕ) → number f at (a + b) % 2 ^ b ≡ number f (at + a) b
  number-low at a b = rw number-add (low (number f at a) b (number_lt (at + a) b))

  -- The w digits of a number with o digits before them and k after.
  pub number-part : (at o w k : ℕ) → number f at (o + w + k) / 2 ^ k % 2 ^ w ≡ number f (at + o) w
  number-part at o w k = rw number-high (number-low at o w)

  -- One digit of a number, with o digits before it and k after.
  pub number-digit : (at o k : ℕ) → number f at (o + 1 + k) / 2 ^ k % 2 ≡ f (at + o)
  unfolding number
  number-digit at o k = number-part at o 1 k ∙ (omega (arith, ap f (add-zero (at + o))))
