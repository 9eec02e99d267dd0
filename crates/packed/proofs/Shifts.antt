-- The shifts and masks of the field reader, as sums and remainders. Assumes nothing.
use mathlib.Core.Path.{◌≡◌, ap, ◌∙◌}
use Prim.Native.Nat.{ℕ, ◌+◌, ◌-◌, ◌*◌, ◌%◌, ◌^◌, ◌≤◌, ◌<◌}
use native.Mathlib.Nat.{lt_of_lt_of_le, mod-lt, one-mul}
use native.Mathlib.Omega.{arith}
use lib.Bits.{bit_and, and_mask}
use lib.Pow.{pow_pos, pow_mono, shl_exact}

-- A mask of w ones, made in a 64-bit word, keeps the last w bits.
pub masked : (n w : ℕ) → w < 64 → bit_and n (1 * 2 ^ w % 2 ^ 64 - 1) ≡ n % 2 ^ w
masked n w h =
    ap (λ (p : ℕ). bit_and n (p - 1)) (shl_exact 1 w 64 (omega arith) (omega arith) ∙ one-mul (2 ^ w)) ∙ and_mask n w

-- The last w bits of a number fit k bits.
pub low_fits : (n w k : ℕ) → w ≤ k → n % 2 ^ w < 2 ^ k
low_fits n w k h = lt_of_lt_of_le (mod-lt n (pow_pos w)) (pow_mono h)

-- A number of w bits, shifted by k in a 64-bit word, loses none.
pub shifted : (x w k : ℕ) → x < 2 ^ w → w + k ≤ 64 → x * 2 ^ k % 2 ^ 64 ≡ x * 2 ^ k
shifted x w k h l = shl_exact w k 64 h l
