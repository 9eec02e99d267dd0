-- Refusals: 'each fault gets its one refusal number in a fixed order'. A fault is a number, 0 for none, and
-- an operation's refusal is the first fault of a list that stands in the order of document 01. Assumes
-- nothing.
use Rattle.std.specs.Prelude.{Bool, cond, List, [], ◌∷◌, ℕ, eqb}

-- Refusal k where the condition holds.
abbrev pub refuse : ℕ → Bool → ℕ
refuse k b = cond b k 0

-- The first fault, or 0 where there is none.
unfoldable pub first : List ℕ → ℕ
first [] = 0
first (k ∷ ks) = cond (eqb k 0) (first ks) k

-- What an operation answers: the number where nothing was refused, 0 'with every other number' where
-- something was.
abbrev pub answered : ℕ → ℕ → ℕ
answered k n = cond (eqb k 0) n 0
