-- The parts of refusal 19, as the store check tests them: counts, labels and days in their ranges, offsets
-- that rise from 0 to M, lists that ascend, and each forward entry reversed on the backward side. Assumes
-- nothing.
use Rattle.std.specs.Prelude.{◌≡◌, Bool, true, false, not, ◌&&◌, List, [], ◌∷◌, ℕ, suc, ◌+◌, ◌-◌, ◌%◌, ◌<◌, eqb, leb, ltb, length, take, drop}
use Rattle.lists.specs.Lists.{range, all, ascends_from}
use Rattle.lists.specs.Refusal.{refuse}
use Rattle.graph.specs.Graph.{max_graph_vertices, max_graph_edges, max_vertex_label, max_day, entry_span, entry_end}
use Rattle.graph.specs.Graph.{forward, backward}
use Rattle.graph.specs.Store.{used_words}
use Rattle.adjacency.specs.Inner.Portion.{member}
use Rattle.adjacency.specs.Inner.Side.{list_on, Within, vertices_in, edges_in, side_in}

-- 19 unless a test passes.
abbrev pub unless : Bool → ℕ
unless b = refuse 19 (not b)

-- The counts are within their limits, and the words that they tell are there.
unfoldable pub counts_fit : List ℕ → Bool
counts_fit store =
    leb 2 (length store) && ltb (vertices_in store) (suc max_graph_vertices)
    && ltb (edges_in store) (suc max_graph_edges)
    && leb (used_words (vertices_in store) (edges_in store)) (length store)

unfoldable pub labels_fit : List ℕ → Bool
labels_fit store = all (λ (l : ℕ). ltb l (suc max_vertex_label)) (take (vertices_in store) (drop 2 store))

unfoldable pub days_fit : List ℕ → Bool
days_fit store = all (λ (t : ℕ). ltb t (suc max_day)) (take (vertices_in store)
    (drop (2 + vertices_in store) store))

-- 'Offsets count entries from 0': they start at 0, never fall, and end at m.
unfoldable pub rises_to : ℕ → ℕ → List ℕ → Bool
rises_to m x [] = eqb x m
rises_to m x (y ∷ ys) = leb x y && rises_to m y ys

unfoldable pub offsets_fit : ℕ → List ℕ → Bool
offsets_fit m [] = false
offsets_fit m (x ∷ xs) = eqb x 0 && rises_to m x xs

-- The n + 1 offsets of a side.
abbrev pub offsets_on : List ℕ → ℕ → ℕ → List ℕ
offsets_on store n side = take (suc n) (drop side store)

-- An entry of a vertex of n after the last one: it is above that one, its label at most 255 and its neighbour
-- below n.
abbrev pub entry_fits : ℕ → ℕ → ℕ → Bool
entry_fits n last k = ltb last k && (ltb k entry_end && ltb (k % entry_span) n)

-- The entries of a vertex of n ascend strictly, with labels 1 to 255 and neighbours below n.
unfoldable pub list_fits : ℕ → List ℕ → Bool
list_fits n s = ascends_from (entry_span - 1) s && all (λ (k : ℕ). ltb k entry_end && ltb (k % entry_span) n) s

unfoldable pub side_fits : List ℕ → ℕ → ℕ → Bool
side_fits store n side = all (λ (v : ℕ). list_fits n (list_on store n side v)) (range n)

-- A side of m entries: its offsets, and its lists.
abbrev pub side_good : List ℕ → ℕ → ℕ → ℕ → Bool
side_good store n m side = offsets_fit m (offsets_on store n side) && side_fits store n side

-- A side whose lists lie in the store and fit.
pub record GoodSide (store : List ℕ) (n side : ℕ) : Type 0 where
  pub within : (v : ℕ) → v < n → Within store n side v
  pub fits : side_fits store n side ≡ true

-- The entry that reverses entry k of vertex v: the same label, and v.
abbrev pub reverse : ℕ → ℕ → ℕ
reverse v k = k - k % entry_span + v

-- Each entry of v has its reverse in its neighbour's list on the other side.
unfoldable pub list_reversed : List ℕ → ℕ → ℕ → ℕ → List ℕ → Bool
list_reversed store n other v s = all (λ (k : ℕ). member (reverse v k) (list_on store n other (k % entry_span)))
    s

unfoldable pub side_reversed : List ℕ → ℕ → ℕ → ℕ → Bool
side_reversed store n side other = all (λ (v : ℕ). list_reversed store n other v (list_on store n side v))
    (range n)

-- The counts of a store whose counts fit, and where its sides begin.
pub record Counted (store : List ℕ) (n m one two : ℕ) : Type 0 where
  pub counts : counts_fit store ≡ true
  pub vertices : n ≡ vertices_in store
  pub edges : m ≡ edges_in store
  pub forward_at : one ≡ side_in forward store
  pub backward_at : two ≡ side_in backward store
