-- How the check tests the lists of a side all at once: the words that are not above the one before them,
-- counted over all entries and at the first words of lists alone. Where the counts are equal, no list has
-- such a word within. Assumes nothing.
use Rattle.std.specs.Prelude.{◌≡◌, Bool, ◌&&◌, List, [], ◌∷◌, ℕ, suc, ◌+◌, ◌%◌, ◌≤◌, ◌<◌, leb, ltb, get_or}
use Rattle.lists.specs.Lists.{bit}
use Rattle.graph.specs.Graph.{entry_span, entry_end}

-- How many words are not above the one before them, which of the first is x.
unfoldable pub falls_from : ℕ → List ℕ → ℕ
falls_from x [] = 0
falls_from x (y ∷ ys) = bit (leb y x) + falls_from y ys

-- The list of v on a side has a first word, and it is not above the word before it in the store.
abbrev pub start_falls : List ℕ → ℕ → ℕ → ℕ → Bool
start_falls store n side v =
    ltb (get_or store (side + v) 0) (get_or store (side + v + 1) 0)
    && leb (get_or store (side + n + get_or store (side + v) 0 + 1) 0)
    (get_or store (side + n + get_or store (side + v) 0) 0)

-- How many of the three ranges of an entry are broken: its label is at least 1 and at most 255, and its
-- neighbour below n.
abbrev pub faults_of : ℕ → ℕ → ℕ
faults_of n k = bit (ltb k entry_span) + bit (leb entry_end k) + bit (leb n (k % entry_span))

-- A count that is 0 where none of the first words is below the one before it; else there is such a word.
pub record Drops (s : List ℕ) (i r : ℕ) : Type 0 where
  pub none : r ≡ 0 → (k : ℕ) → k < i → get_or s k 0 ≤ get_or s (suc k) 0
  pub some : (r ≡ 0 → ⊥) → (k : ℕ) × (k < i) × (get_or s (suc k) 0 < get_or s k 0)
