-- What the field writer leaves in a file. Assumes nothing.
use Rattle.std.specs.Prelude.{cond, ◌&&◌, List, ℕ, ◌+◌, ◌-◌, ◌/◌, ◌%◌, ◌^◌, leb, ltb, length, set}
use Rattle.packed.specs.Field.{bit_at}
use Rattle.packed.specs.Encode.{bit_in, bytes_by}

-- The bit at a position, after the w bits of x were written from position `at` on; the other bits are as they
-- were.
abbrev pub bit_put : List ℕ → ℕ → ℕ → ℕ → ℕ → ℕ
bit_put s at w x i = cond (leb at i && ltb i (at + w)) (x / 2 ^ (at + w - 1 - i) % 2) (bit_at s i)

-- The file with x in the field of w bits that begins at a bit position.
unfoldable pub put_field : List ℕ → ℕ → ℕ → ℕ → List ℕ
put_field s at w x = bytes_by (bit_put s at w x) (length s)

-- The bit at a position, after a list of bits was written from the first position on, and the file with these
-- bits.
abbrev pub bit_written : List ℕ → List ℕ → ℕ → ℕ
bit_written old bits i = cond (ltb i (length bits)) (bit_in bits i) (bit_at old i)

unfoldable pub written : List ℕ → List ℕ → List ℕ
written old bits = bytes_by (bit_written old bits) (length old)

-- The file with a word of 32 bits from byte i on; what would stand past the end is left out.
abbrev pub put_word : List ℕ → ℕ → ℕ → List ℕ
put_word s i w = set (set (set (set s i (w / 16777216 % 256)) (i + 1) (w / 65536 % 256)) (i + 2)
    (w / 256 % 256)) (i + 3) (w % 256)
