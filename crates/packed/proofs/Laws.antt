-- The laws of fields, for any width: a field is its first bits and its last bits, a part of a field is a field, and the bytes of a
-- file are its fields of 8 bits. Assumes nothing.
use mathlib.Core.Path.{◌≡◌, refl, ap, ◌∙◌}
use mathlib.Core.List.{List}
use Prim.Native.Nat.{ℕ, zero, suc, ◌+◌, ◌-◌, ◌*◌, ◌/◌, ◌%◌, ◌^◌, ◌≤◌, ◌<◌}
use native.Mathlib.Nat.{mod-lt, zero-lt-suc}
use native.Mathlib.Omega.{arith}
use lib.ListN.{get_or}
use Rattle.packed.specs.Field.{bit_at, field_at}
use Rattle.packed.specs.Encode.{number}
use Rattle.packed.proofs.Number.{number-add, number_is, number_lt, number-part}

-- A bit is 0 or 1.
pub bit-lt : (s : List ℕ) (i : ℕ) → bit_at s i < 2
unfolding bit_at
bit-lt s i = mod-lt _ (zero-lt-suc 1)

-- A field is the number of its bits.
pub field-number : (s : List ℕ) (at w : ℕ) → field_at s at w ≡ number (bit_at s) at w
unfolding field_at number
field-number s at zero = refl
field-number s at (suc w) = ap (λ (n : ℕ). n * 2 + bit_at s (at + w)) (field-number s at w)

-- A field of w bits is below 2 ^ w.
pub field_lt : (s : List ℕ) (at w : ℕ) → field_at s at w < 2 ^ w
field_lt s at w = rw field-number (number_lt (bit_at s) (bit-lt s) at w)

-- A field of a + b bits: its first a bits, then its last b.
pub field-add : (s : List ℕ) (at a b : ℕ) → field_at s at (a + b) ≡ field_at s at a * 2 ^ b + field_at s (at + a) b
field-add s at a b = simp field-number (number-add (bit_at s) at a b)

-- A part of a field is a field: w bits with o bits before them and k after.
pub field-part : (s : List ℕ) (at o w k : ℕ) → field_at s at (o + w + k) / 2 ^ k % 2 ^ w ≡ field_at s (at + o) w
field-part s at o w k = simp field-number (number-part (bit_at s) (bit-lt s) at o w k)

-- A field of w bits, cut from the n bits that begin with its first byte.
pub field_cut : (s : List ℕ) (at w n : ℕ) → at % 8 + w ≤ n → field_at s (8 * (at / 8)) n / 2 ^ (n - at % 8 - w) % 2 ^ w ≡ field_at s at w
field_cut s at w n h =
    let bits : at % 8 + w + (n - at % 8 - w) ≡ n = omega arith in
    let from : 8 * (at / 8) + at % 8 ≡ at = omega arith in
    rw (bits, from) at (field-part s (8 * (at / 8)) (at % 8) w (n - at % 8 - w))

-- A bit of a byte, with j bits before it and k after.
pub bit-of-byte : (s : List ℕ) (i j k : ℕ) → j + suc k ≡ 8 → bit_at s (8 * i + j) ≡ get_or s i 0 / 2 ^ k % 2
unfolding bit_at
bit-of-byte s i j k e =
    let byte : (8 * i + j) / 8 ≡ i = omega arith in
    let after : 7 - (8 * i + j) % 8 ≡ k = omega arith in
    rw (byte, after)

-- The 8 bits of a byte are the byte.
pub field-byte : (s : List ℕ) (i : ℕ) → get_or s i 0 < 256 → field_at s (8 * i) 8 ≡ get_or s i 0
field-byte s i h = field-number s (8 * i) 8 ∙ number_is (bit_at s) (8 * i) 8 (get_or s i 0) h (bit-of-byte s i)

-- A word of n bytes and the byte after it make the word of n + 1 bytes.
pub field-bytes : (s : List ℕ) (i n : ℕ) → get_or s (i + n) 0 < 256 → field_at s (8 * i) (8 * (n + 1)) ≡ field_at s (8 * i) (8 * n) * 256 + get_or s (i + n) 0
field-bytes s i n h =
    let bits : 8 * (n + 1) ≡ 8 * n + 8 = omega arith in
    let from : 8 * i + 8 * n ≡ 8 * (i + n) = omega arith in
    rw (bits, field-add s (8 * i) (8 * n) 8, from, field-byte s (i + n) h)

-- A word of four bytes is the field of 32 bits there.
pub field-word : (s : List ℕ) (i : ℕ) → ((j : ℕ) → get_or s j 0 < 256)
    → ((get_or s i 0 * 256 + get_or s (i + 1) 0) * 256 + get_or s (i + 2) 0) * 256 + get_or s (i + 3) 0 ≡ field_at s (8 * i) 32
field-word s i h = omega (arith, field-byte s i (h i), field-bytes s i 1 (h (i + 1)), field-bytes s i 2 (h (i + 2)), field-bytes s i 3 (h (i + 3)))
