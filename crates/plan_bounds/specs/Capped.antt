-- Stopping at a top value at each step is stopping there at the end. Assumes nothing.
use Rattle.std.specs.Prelude.{◌≡◌, ℕ, ◌+◌, ◌*◌, min, max}
use Rattle.operator_spec.specs.Join.{heads}

-- What the four numbers are made by.
pub data Term : Type 0 where
  number : ℕ → Term
  sum product larger smaller : Term → Term → Term
  heads_of : Term → Term

-- The plain number.
unfoldable pub plain : Term → ℕ
plain (number n) = n
plain (sum a b) = plain a + plain b
plain (product a b) = plain a * plain b
plain (larger a b) = max (plain a) (plain b)
plain (smaller a b) = min (plain a) (plain b)
plain (heads_of a) = heads (plain a)

-- The number where no step passes the top.
unfoldable pub capped : ℕ → Term → ℕ
capped top (number n) = min n top
capped top (sum a b) = min (capped top a + capped top b) top
capped top (product a b) = min (capped top a * capped top b) top
capped top (larger a b) = max (capped top a) (capped top b)
capped top (smaller a b) = min (capped top a) (capped top b)
capped top (heads_of a) = min (heads (capped top a)) top

-- For any top value.
abbrev pub CappedAtTheEnd : ℕ → Term → Type 0
CappedAtTheEnd top t = capped top t ≡ min (plain t) top
