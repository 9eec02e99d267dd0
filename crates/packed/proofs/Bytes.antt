-- The laws of bytes that are given by their bits. Assumes nothing.
use mathlib.Core.Path.{◌≡◌, sym, ◌∙◌}
use mathlib.Core.List.{List}
use Prim.Native.Nat.{ℕ, ◌+◌, ◌-◌, ◌*◌, ◌/◌, ◌%◌, ◌<◌}
use native.Mathlib.Omega.{arith}
use lib.ListN.{length, get_or}
use lib.Seq.{ext_get_or}
use Rattle.lists.proofs.Maps.{length-image, get_or-image, image-ext}
use Rattle.packed.specs.Field.{bit_at}
use Rattle.packed.specs.Encode.{number, bytes_by}
use Rattle.packed.proofs.Number.{number-ext, number-digit}
use Rattle.packed.proofs.Laws.{field-number, field-byte}

module _ (f : ℕ → ℕ) (k : ℕ) where
  pub length-bytes_by : length (bytes_by f k) ≡ k
  length-bytes_by = length-image _ k

  -- Byte i is the number of the 8 bits from bit 8 i on.
  pub byte-bytes_by : (i : ℕ) → i < k → get_or (bytes_by f k) i 0 ≡ number f (8 * i) 8
  byte-bytes_by i h = get_or-image _ k i 0 h

  -- Their bits are those given.
  pub bit-bytes_by : ((i : ℕ) → f i < 2) → (i : ℕ) → i < 8 * k → bit_at (bytes_by f k) i ≡ f i
  unfolding bit_at
  bit-bytes_by digit i h =
      let bits8 : i % 8 + 1 + (7 - i % 8) ≡ 8 = omega arith in
      let from : 8 * (i / 8) + i % 8 ≡ i = omega arith in
      rw (byte-bytes_by (i / 8) (omega arith)) (rw (bits8, from) at (number-digit f digit (8 * (i / 8)) (i % 8) (7 - i % 8)))

-- Equal bits make equal bytes.
pub bytes_by-ext : (f g : ℕ → ℕ) (k : ℕ) → ((i : ℕ) → i < 8 * k → f i ≡ g i) → bytes_by f k ≡ bytes_by g k
bytes_by-ext f g k h = image-ext _ _ k (λ i l. number-ext f g (8 * i) (8 * i) 8 (λ j m. h (8 * i + j) (omega arith)))

-- A byte is the number of its own bits.
pub own-byte : (s : List ℕ) (i : ℕ) → get_or s i 0 < 256 → get_or s i 0 ≡ number (bit_at s) (8 * i) 8
own-byte s i h = sym (field-byte s i h) ∙ field-number s (8 * i) 8

-- A list whose bytes are the numbers of given bits.
pub bytes-are : (f : ℕ → ℕ) (s : List ℕ) → ((i : ℕ) → i < length s → get_or s i 0 ≡ number f (8 * i) 8) → s ≡ bytes_by f (length s)
bytes-are f s h =
    ext_get_or 0 s (bytes_by f (length s)) (sym (length-bytes_by f (length s))) (λ i l. h i l ∙ sym (byte-bytes_by f (length s) i l))
