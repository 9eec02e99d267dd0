-- Numbers in text: decimal digits, and a number right-aligned in columns of any width. Assumes nothing.
use Rattle.std.specs.Prelude.{cond, List, [], ◌∷◌, ◌++◌, ℕ, zero, suc, ◌+◌, ◌-◌, ◌/◌, ◌%◌, ltb, length, replicate}

-- The bytes of a blank and of a line feed, and that of a digit.
abbrev pub blank : ℕ
blank = 32

abbrev pub line_feed : ℕ
line_feed = 10

abbrev pub digit : ℕ → ℕ
digit d = 48 + d

-- A number's last k decimal digits, fewer where it has fewer: one digit of a number below 10, else those of
-- its tenth and then its last.
unfoldable pub digits_of : ℕ → ℕ → List ℕ
digits_of zero n = []
digits_of (suc k) n = cond (ltb n 10) (digit n ∷ []) (digits_of k (n / 10) ++ (digit (n % 10) ∷ []))

-- A number in decimal, with no leading zeros: n has at most n + 1 digits.
unfoldable pub decimal : ℕ → List ℕ
decimal n = digits_of (suc n) n

-- A text right-aligned in w columns, blanks before it.
unfoldable pub aligned : ℕ → List ℕ → List ℕ
aligned w text = replicate (w - length text) blank ++ text
