-- The vertex of each entry of a side, without a walk along its list: how many lists begin at the entry or
-- before it. Assumes nothing.
use Rattle.std.specs.Prelude.{◌≡◌, Bool, true, List, map, ℕ, suc, ◌+◌, ◌-◌, ◌%◌, ◌≤◌, ◌<◌, ltb, length, get_or}
use Rattle.lists.specs.Lists.{range, all, count_if}
use Rattle.graph.specs.Graph.{max_graph_vertices, max_graph_edges, entry_span, entry_end}
use Rattle.adjacency.specs.Inner.Side.{list_on}
use Rattle.adjacency.specs.Inner.Portion.{member}
use Rattle.store_reverse.specs.Inner.Check.{offsets_fit, offsets_on, side_fits, GoodSide, reverse}

-- So many entries are a block.
abbrev pub block_entries : ℕ
block_entries = 1024

-- How many lists begin before entry i, by where each begins. The last of the offsets is where the entries
-- end.
unfoldable pub begun : List ℕ → ℕ → ℕ
begun starts i = count_if (λ (v : ℕ). ltb (get_or starts v 0) i) (range (length starts - 1))

-- The same at each entry of a block or before it.
unfoldable pub begun_in : List ℕ → ℕ → List ℕ
begun_in starts base = map (λ (j : ℕ). begun starts (base + suc j)) (range block_entries)

-- Offsets of at most 65,535 lists, and how many of these begin before a block.
pub record Begins (starts : List ℕ) (next base : ℕ) : Type 0 where
  pub end : ℕ
  pub rises : offsets_fit end starts ≡ true
  pub few : length starts ≤ suc max_graph_vertices
  pub small : end ≤ max_graph_edges
  pub before : next ≡ begun starts base
  pub near : base ≤ max_graph_edges

-- Where the list of a vertex begins, counted from a block; before it as at it.
abbrev pub start_in : List ℕ → ℕ → ℕ → ℕ
start_in starts base v = get_or starts v 0 - base

-- An entry has a label of at most 255, and a neighbour below n.
pub record EntryFits (n k : ℕ) : Type 0 where
  pub narrow : k < entry_end
  pub neighbour : k % entry_span < n

-- The entries of a block fit, and each has a vertex below n.
pub record BlockFits (n : ℕ) (entries begun : List ℕ) : Type 0 where
  pub size : length entries ≤ length begun
  pub fits : (j : ℕ) → j < length entries → EntryFits n (get_or entries j 0)
  pub vertex : (j : ℕ) → j < length entries → (0 < get_or begun j 0) × (get_or begun j 0 ≤ n)

-- The offsets and the entries of a side that fits, and another side.
pub record Flat (store : List ℕ) (n other : ℕ) (starts entries : List ℕ) : Type 0 where
  pub good : GoodSide store n other
  pub few : n ≤ max_graph_vertices
  pub long : length starts ≡ suc n
  pub rises : offsets_fit (length entries) starts ≡ true
  pub countable : length entries ≤ max_graph_edges
  pub fits : (i : ℕ) → i < length entries → EntryFits n (get_or entries i 0)

-- Entry i has its reverse on the other side.
abbrev pub entry_reversed : List ℕ → ℕ → ℕ → List ℕ → List ℕ → ℕ → Bool
entry_reversed store n other starts entries i =
    member (reverse (begun starts (suc i) - 1) (get_or entries i 0))
    (list_on store n other (get_or entries i 0 % entry_span))

unfoldable pub entries_reversed : List ℕ → ℕ → ℕ → List ℕ → List ℕ → Bool
entries_reversed store n other starts entries = all (entry_reversed store n other starts entries)
    (range (length entries))

-- A side of m entries that fits, and another that it may reverse.
pub record Sides (store : List ℕ) (n m side other : ℕ) : Type 0 where
  pub room : side + n + 1 + m ≤ length store
  pub rises : offsets_fit m (offsets_on store n side) ≡ true
  pub fits : side_fits store n side ≡ true
  pub good : GoodSide store n other
  pub few : n ≤ max_graph_vertices
  pub countable : m ≤ max_graph_edges
