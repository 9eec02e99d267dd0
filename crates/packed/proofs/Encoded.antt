-- What is written can be read: the bytes of bits have these bits, and a field holds the number whose bits were put there.
-- Assumes nothing.
use mathlib.Core.Path.{◌≡◌, refl, sym, ◌∙◌}
use mathlib.Core.Bool.{Bool, true, false}
use mathlib.Core.List.{List}
use Prim.Native.Nat.{ℕ, zero, suc, ◌+◌, ◌-◌, ◌*◌, ◌/◌, ◌%◌, ◌≤◌, ◌<◌}
use native.Mathlib.Nat.{le_refl, mod-lt, zero-lt-suc}
use native.Mathlib.Omega.{arith}
use borrow.Author.Tests.{ltb-true, ltb-false}
use lib.Dec.{ltb}
use lib.ListN.{length, get_or, get_or-eq_default}
use Rattle.packed.specs.Field.{bit_at, field_at, bytes_for, fill_set}
use Rattle.packed.specs.Encode.{number, bit_in, bytes_of}
use Rattle.packed.proofs.Number.{number-ext, number-digit}
use Rattle.packed.proofs.Laws.{field-number}
use Rattle.packed.proofs.Bytes.{length-bytes_by, byte-bytes_by}

-- A bit of a list is 0 or 1.
pub bit_in-lt : (bits : List ℕ) (i : ℕ) → bit_in bits i < 2
bit_in-lt bits i = mod-lt _ (zero-lt-suc 1)

-- Past the end of a list of bits all is 0.
pub number_past : (bits : List ℕ) (at w : ℕ) → length bits ≤ at → number (bit_in bits) at w ≡ 0
unfolding number
number_past bits at zero h = refl
number_past bits at (suc w) h =
    omega (arith, number_past bits at w h, get_or-eq_default bits 0 {n = at + w} (omega arith))

-- ---- the bytes of bits

-- As many bytes as the bits take.
pub length-bytesOf : (bits : List ℕ) → length (bytes_of bits) ≡ bytes_for (length bits)
unfolding bytes_of
length-bytesOf bits = length-bytes_by (bit_in bits) (bytes_for (length bits))

-- Byte i is the number of the 8 bits from bit 8 i on.
pub byte-bytesOf : (bits : List ℕ) (i : ℕ) → get_or (bytes_of bits) i 0 ≡ number (bit_in bits) (8 * i) 8
unfolding bytes_of
byte-bytesOf bits i = go (ltb i (bytes_for (length bits))) refl
  where
    go : (b : Bool) → ltb i (bytes_for (length bits)) ≡ b → get_or (bytes_of bits) i 0 ≡ number (bit_in bits) (8 * i) 8
    go true e = byte-bytes_by (bit_in bits) (bytes_for (length bits)) i (ltb-true _ _ e)
    go false e =
        get_or-eq_default (bytes_of bits) 0 (rw length-bytesOf (ltb-false _ _ e)) ∙ sym (number_past bits (8 * i) 8 (omega (arith, ltb-false)))

-- The bits of the bytes are the bits.
pub bit-bytesOf : (bits : List ℕ) (i : ℕ) → bit_at (bytes_of bits) i ≡ bit_in bits i
unfolding bit_at
bit-bytesOf bits i =
    let bits8 : i % 8 + 1 + (7 - i % 8) ≡ 8 = omega arith in
    let from : 8 * (i / 8) + i % 8 ≡ i = omega arith in
    rw byte-bytesOf (rw (bits8, from) at (number-digit (bit_in bits) (bit_in-lt bits) (8 * (i / 8)) (i % 8) (7 - i % 8)))

-- A field of the bytes is the number of its bits.
pub field-bytesOf : (bits : List ℕ) (at w : ℕ) → field_at (bytes_of bits) at w ≡ number (bit_in bits) at w
field-bytesOf bits at w = field-number (bytes_of bits) at w ∙ number-ext _ _ at at w (λ j h. bit-bytesOf bits (at + j))

-- The bits that fill the last byte are 0.
pub fill-bytesOf : (bits : List ℕ) → fill_set (bytes_of bits) (length bits) ≡ false
unfolding fill_set
fill-bytesOf bits = rw (field-bytesOf, number_past bits (length bits) _ (le_refl _))
