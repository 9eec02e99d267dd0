-- How packed files are written: the bits of numbers, and the bytes of bits. Assumes nothing.
use Rattle.std.specs.Prelude.{List, [], ◌∷◌, map, ℕ, zero, suc, ◌+◌, ◌*◌, ◌/◌, ◌%◌, ◌^◌, length, get_or}
use Rattle.lists.specs.Lists.{range}
use Rattle.packed.specs.Field.{bytes_for}

-- The number of w binary digits, most significant first: those that f gives from a position on.
unfoldable pub number : (ℕ → ℕ) → ℕ → ℕ → ℕ
number f at zero = 0
number f at (suc w) = number f at w * 2 + f (at + w)

-- The k bytes whose bits f gives.
abbrev pub bytes_by : (ℕ → ℕ) → ℕ → List ℕ
bytes_by f k = map (λ (i : ℕ). number f (8 * i) 8) (range k)

-- The bit at a position of a list of bits, 0 past the end. Of any other number it is the parity, so that no
-- test is needed.
abbrev pub bit_in : List ℕ → ℕ → ℕ
bit_in bits i = get_or bits i 0 % 2

-- The w bits of a number, most significant first.
unfoldable pub bits_of : ℕ → ℕ → List ℕ
bits_of zero x = []
bits_of (suc w) x = x / 2 ^ w % 2 ∷ bits_of w x

-- The bytes of a list of bits; zero bits fill the last one.
unfoldable pub bytes_of : List ℕ → List ℕ
bytes_of bits = bytes_by (bit_in bits) (bytes_for (length bits))
