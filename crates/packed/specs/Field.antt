-- Fields of a packed file: 'most significant bit first, with no gaps; zero bits fill the last byte'. Assumes
-- nothing.
use Rattle.std.specs.Prelude.{Bool, not, List, ℕ, zero, suc, ◌+◌, ◌-◌, ◌*◌, ◌/◌, ◌%◌, ◌^◌, eqb, length, get_or}

-- The bit at a position, counted from the first byte's most significant one; 0 past the end.
unfoldable pub bit_at : List ℕ → ℕ → ℕ
bit_at s i = get_or s (i / 8) 0 / 2 ^ (7 - i % 8) % 2

-- The number in the field of w bits that begins at a bit position.
unfoldable pub field_at : List ℕ → ℕ → ℕ → ℕ
field_at s at zero = 0
field_at s at (suc w) = field_at s at w * 2 + bit_at s (at + w)

-- The bits of a file.
abbrev pub bits_in : List ℕ → ℕ
bits_in s = 8 * length s

-- The bytes that b bits take, the last one filled.
abbrev pub bytes_for : ℕ → ℕ
bytes_for b = (b + 7) / 8

-- A fill bit is set: one of those from position b to the end of b's last byte.
unfoldable pub fill_set : List ℕ → ℕ → Bool
fill_set s b = not (eqb (field_at s b (8 * bytes_for b - b)) 0)
