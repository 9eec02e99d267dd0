-- The check of a store by cursors: entries are walked by ascending (label, vertex), so that those which lead
-- to a vertex arrive in the order of its list on the other side, and a cursor for each vertex tells where the
-- next one stands. Assumes nothing.
use Rattle.std.specs.Prelude.{◌≡◌, ◌⊎◌, Bool, true, false, ◌&&◌, List, ℕ, zero, suc, ◌+◌, ◌-◌, ◌*◌, ◌%◌, ◌≤◌, ◌<◌, length, get_or, take, drop}
use Rattle.graph.specs.Graph.{max_graph_vertices, max_graph_edges, entry_span, entry_end}
use Rattle.adjacency.specs.Inner.Side.{list_on, Within}
use Rattle.store_reverse.specs.Inner.Check.{unless, reverse, offsets_fit, offsets_on, side_fits, side_reversed}

-- ---- answers
-- 0 where both sides fit and reverse each other, 19 where they do not, 1 where that is not known.

-- Both sides fit, and every entry of the first is reversed on the second.
unfoldable pub sides_agree : List ℕ → ℕ → ℕ → ℕ → Bool
sides_agree store n side other = side_fits store n side && (side_reversed store n side other
    && side_fits store n other)

-- An answer is 1, or 19 of a test that fails.
abbrev pub Refutes : ℕ → Bool → Type 0
Refutes r b = (r ≡ 1 → ⊥) → (r ≡ 19) × (b ≡ false)

-- Where an answer is 0 something holds, and any other is 1, or 19 of a test that fails.
pub record Outcome (r : ℕ) (b : Bool) (Holds : Type 0) : Type 0 where
  pub passed : r ≡ 0 → Holds
  pub refutes : (r ≡ 0 → ⊥) → Refutes r b

-- An answer other than 1 is that of the test.
abbrev pub Decides : ℕ → Bool → Type 0
Decides r b = (r ≡ 1 → ⊥) → r ≡ unless b

-- ---- one vertex and one label

-- The number that an entry has to be above: the entry before it, and for the first one the last number
-- without a label.
unfoldable pub before : List ℕ → ℕ → ℕ
before s zero = entry_span - 1
before s (suc i) = get_or s i 0

-- An entry of vertex v, of the label whose entries begin at `base`, found at the cursor of its neighbour,
-- which moved on.
pub record MatchedEntry (n v base : ℕ) (list back : List ℕ) (from : ℕ) (old new : List ℕ) (j : ℕ) :
    Type 0 where
  pub low : base ≤ get_or list j 0
  pub high : get_or list j 0 < base + entry_span
  pub neighbour : get_or list j 0 - base < n
  pub rises : from < j → get_or list (j - 1) 0 < get_or list j 0
  pub moved : get_or new (get_or list j 0 - base) 0 ≡ suc (get_or old (get_or list j 0 - base) 0)
  pub word : get_or back (get_or old (get_or list j 0 - base) 0) 0 ≡ base + v

-- The entries of v from one index to another were found so, and no other cursor moved.
pub record Matched (n v base : ℕ) (list back : List ℕ) (from i : ℕ) (old new : List ℕ) : Type 0 where
  pub starts : from ≤ i
  pub inside : i ≤ length list
  pub entries : (j : ℕ) → from ≤ j → j < i → MatchedEntry n v base list back from old new j
  pub cursors : (t : ℕ) → (get_or new t 0 ≡ get_or old t 0)
      ⊎ ((get_or new t 0 ≡ suc (get_or old t 0)) × (get_or back (get_or old t 0) 0 ≡ base + v))

-- ---- all vertices, between two labels or two vertices

-- A word of the other side that a cursor has passed, in the list that begins at `start`. It is below the
-- entry that (label, vertex) would have next.
pub record Word (n : ℕ) (back : List ℕ) (start next c : ℕ) : Type 0 where
  pub given : entry_span ≤ get_or back c 0
  pub narrow : get_or back c 0 < entry_end
  pub neighbour : get_or back c 0 % entry_span < n
  pub reached : get_or back c 0 < next
  pub rises : start < c → get_or back (c - 1) 0 < get_or back c 0

-- Entry k of vertex v stands reversed among the words that the cursor of its neighbour has passed.
pub record Arrived (starts : ℕ → ℕ) (back cursors : List ℕ) (v k : ℕ) : Type 0 where
  pub place : ℕ
  pub begins : starts (k % entry_span) ≤ place
  pub passed : place < get_or cursors (k % entry_span) 0
  pub word : get_or back place 0 ≡ reverse v k

-- An entry that is done: in order, in its range, and arrived.
pub record Done (n : ℕ) (starts : ℕ → ℕ) (back cursors : List ℕ) (v : ℕ) (list : List ℕ) (j : ℕ) :
    Type 0 where
  pub rises : before list j < get_or list j 0
  pub narrow : get_or list j 0 < entry_end
  pub neighbour : get_or list j 0 % entry_span < n
  pub arrived : Arrived starts back cursors v (get_or list j 0)

-- So many entries of each vertex are done, the cursors stand behind their words, and no word is at or past
-- `next`.
pub record Walked (n : ℕ) (starts : ℕ → ℕ) (back : List ℕ) (lists : ℕ → List ℕ)
    (cursors done : List ℕ) (next : ℕ) : Type 0 where
  pub begun : (t : ℕ) → t < n → starts t ≤ get_or cursors t 0
  pub words : (t c : ℕ) → t < n → starts t ≤ c → c < get_or cursors t 0 → Word n back (starts t) next c
  pub inside : (v : ℕ) → v < n → get_or done v 0 ≤ length (lists v)
  pub entries : (v j : ℕ) → v < n → j < get_or done v 0 → Done n starts back cursors v (lists v) j

-- The same of a store.
abbrev pub WalkedIn : List ℕ → ℕ → ℕ → ℕ → List ℕ → List ℕ → List ℕ → ℕ → Type 0
WalkedIn store n side other back cursors done next =
    Walked n (λ (t : ℕ). get_or store (other + t) 0) back (list_on store n side) cursors done next

-- ---- what the functions ask for

-- The offsets of both sides are as they should be.
pub record BothRise (store : List ℕ) (n m side other : ℕ) : Type 0 where
  pub room : side + n + 1 + m ≤ length store
  pub other_room : other + n + 1 + m ≤ length store
  pub rises : offsets_fit m (offsets_on store n side) ≡ true
  pub other_rises : offsets_fit m (offsets_on store n other) ≡ true
  pub few : n ≤ max_graph_vertices
  pub countable : m ≤ max_graph_edges

-- The lists of both sides lie in the store, and the entries of the other one are `back`.
pub record Sides (store : List ℕ) (n side other : ℕ) (back : List ℕ) : Type 0 where
  pub lists : (v : ℕ) → v < n → Within store n side v
  pub others : (v : ℕ) → v < n → Within store n other v
  pub few : n ≤ max_graph_vertices
  pub countable : length back ≤ max_graph_edges
  pub entries : back ≡ take (length back) (drop (other + n + 1) store)
  pub ends : (v : ℕ) → v < n → get_or store (other + v + 1) 0 ≤ length back

-- So many words hold sets of n vertices, 16 sets in blocks of 64 vertices.
pub record Blocks (n words : ℕ) : Type 0 where
  pub blocks : ℕ
  pub long : words ≡ 16 * blocks
  pub fit : n ≤ 64 * blocks

-- Tables of a word for each vertex, and sets of vertices.
pub record Tables (n : ℕ) (cursors done sets : List ℕ) : Type 0 where
  pub cursors_fit : n ≤ length cursors
  pub done_fit : n ≤ length done
  pub sets_fit : Blocks n (length sets)

-- The entries of a label begin at `base`.
pub record Labelled (base : ℕ) : Type 0 where
  pub label : ℕ
  pub begins : base ≡ label * entry_span
  pub given : 0 < label
  pub narrow : label < 256

-- Vertex v is next among those of the label whose entries begin at `base`.
pub record StepFrom (store : List ℕ) (n side other : ℕ) (back : List ℕ) (base v : ℕ)
    (cursors done : List ℕ) : Type 0 where
  pub vertex_in : v < n
  pub labelled : Labelled base
  pub cursors_fit : n ≤ length cursors
  pub done_fit : n ≤ length done
  pub walked : WalkedIn store n side other back cursors done (base + v)

-- After that, with an answer and the label of its next entry.
pub record Stepped (store : List ℕ) (n side other : ℕ) (back : List ℕ) (base v : ℕ)
    (cursors done : List ℕ) (fault label : ℕ) : Type 0 where
  pub outcome : Outcome fault (sides_agree store n side other)
      (WalkedIn store n side other back cursors done (base + v + 1))
  pub narrow : label < 256

-- An answer of 0 says that every cursor stands where its list ends, and that as many entries of each vertex
-- are done as it has.
pub record Ended (store : List ℕ) (n side other : ℕ) (cursors done : List ℕ) (r : ℕ) : Type 0 where
  pub cursors_end : r ≡ 0 → (t : ℕ) → t < n → get_or cursors t 0 ≡ get_or store (other + t + 1) 0
  pub all_done : r ≡ 0 → (v : ℕ) → v < n → get_or store (side + v + 1) 0
      ≤ get_or store (side + v) 0 + get_or done v 0
  pub else_undecided : (r ≡ 0 → ⊥) → r ≡ 1
