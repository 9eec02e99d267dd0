-- A side of a store, where it begins at a word: n + 1 offsets, and the entries that they count. Assumes
-- nothing.
use Rattle.std.specs.Prelude.{◌≡◌, List, ℕ, ◌+◌, ◌-◌, ◌≤◌, ◌<◌, length, get_or, take, drop}
use Rattle.graph.specs.Graph.{Direction}
use Rattle.graph.specs.Store.{store_fault}
use Rattle.graph.specs.Inner.Side.{side_at}

-- The list of vertex v: the entries from its offset to the next one.
abbrev pub list_on : List ℕ → ℕ → ℕ → ℕ → List ℕ
list_on store n side v = take (get_or store (side + v + 1) 0 - get_or store (side + v) 0)
    (drop (side + n + 1 + get_or store (side + v) 0) store)

-- That list lies in the store.
pub record Within (store : List ℕ) (n side v : ℕ) : Type 0 where
  pub vertex_in : v < n
  pub rises : get_or store (side + v) 0 ≤ get_or store (side + v + 1) 0
  pub ends : side + n + 1 + get_or store (side + v + 1) 0 ≤ length store

-- N and M, as the first two words of a store name them, and where the side of a direction begins by them.
abbrev pub vertices_in : List ℕ → ℕ
vertices_in store = get_or store 0 0

abbrev pub edges_in : List ℕ → ℕ
edges_in store = get_or store 1 0

abbrev pub side_in : Direction → List ℕ → ℕ
side_in d store = side_at d (vertices_in store) (edges_in store)

-- A vertex of a store that is not refused, and where the side of a direction begins in it.
pub record Lookup (store : List ℕ) (n side v : ℕ) : Type 0 where
  pub accepted : store_fault store ≡ 0
  pub vertices : n ≡ vertices_in store
  pub vertex_in : v < n
  pub direction : Direction
  pub begins : side ≡ side_in direction store
