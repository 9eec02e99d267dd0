-- The store: '4N + 2M + 4 words: N, M, the labels, the days, N+1 forward offsets, M forward entries, N+1
-- backward offsets, M backward entries', what Load leaves in it, and which stores no accepted graph file
-- loads to. Assumes nothing.
use Rattle.std.specs.Prelude.{◌≡◌, ◌↔◌, Bool, true, cond, not, ◌&&◌, ℕ, suc, ◌+◌, ◌-◌, ◌*◌, ◌/◌, ◌%◌, eqb, ltb, length, get_or, take, drop}
use mathlib.Core.List.{List, [], ◌∷◌, ◌++◌, map, flat_map}
use Rattle.lists.specs.Lists.{range, all, count_if, same, ascending, sort}
use Rattle.lists.specs.Refusal.{refuse, first}
use Rattle.graph.specs.Graph.{Edge, Graph, max_graph_vertices, max_graph_edges, max_vertex_label, max_day}
use Rattle.graph.specs.Graph.{max_edge_label, entry_span, entry_end, Direction, forward, backward, near}
use Rattle.graph.specs.Graph.{key}
use Rattle.graph.specs.File.{graph_of, graph_fault, bad_edge}

-- 'Offsets count entries from 0': how many edges have their near end below a vertex, for each vertex and one
-- past the last.
unfoldable pub offsets : Direction → Graph → List ℕ
offsets d g = map (λ (v : ℕ). count_if (λ (e : Edge). ltb (near d e) v) g.edges) (range (suc g.vertices))

-- The entries of all vertices, 'ascending within a vertex'.
unfoldable pub entries : Direction → Graph → List ℕ
entries d g = map (λ (k : ℕ). k % entry_end) (sort (map (key d) g.edges))

-- The words that a graph is loaded to.
unfoldable pub store_of : Graph → List ℕ
store_of g =
    g.vertices ∷ length g.edges ∷ g.labels ++ g.days ++ offsets forward g ++ entries forward g
    ++ offsets backward g
    ++ entries backward g

-- '4N + 2M + 4 words.'
abbrev pub used_words : ℕ → ℕ → ℕ
used_words n m = 4 * n + 2 * m + 4

abbrev pub store_size : Graph → ℕ
store_size g = used_words g.vertices (length g.edges)

-- The graph is 'the one whose accepted file loads to the lent store', words past the used ones being
-- anything.
pub record LoadsTo (file store : List ℕ) : Type 0 where
  pub accepted : graph_fault file ≡ 0
  pub words : take (store_size (graph_of file)) store ≡ store_of (graph_of file)

-- Load: the graph file's refusals, then '5 store too small'.
unfoldable pub load_fault : List ℕ → ℕ → ℕ
load_fault s room = first (graph_fault s ∷ refuse 5 (ltb room (store_size (graph_of s))) ∷ [])

-- The store after Load: the defined words followed by its old words; 'refused, the store is untouched'.
unfoldable pub load_store : List ℕ → List ℕ → List ℕ
load_store s store =
    cond (eqb (load_fault s (length store)) 0)
    (store_of (graph_of s) ++ drop (store_size (graph_of s)) store)
    store

-- The forward list of vertex v as the words of a store give it: the entries from its offset to the next one.
abbrev pub list_in : List ℕ → ℕ → List ℕ
list_in store v =
    let n = get_or store 0 0 in
    let from = get_or store (2 + 2 * n + v) 0 in
    take (get_or store (2 + 2 * n + suc v) 0 - from) (drop (3 + 3 * n + from) store)

-- The edge of an entry in the forward list of v.
abbrev pub entry_edge : ℕ → ℕ → Edge
entry_edge v k = record { source = v; label = k / entry_span; target = k % entry_span }

-- The graph that the words of a store spell.
unfoldable pub graph_in : List ℕ → Graph
graph_in store =
    record {
      vertices = get_or store 0 0;
      labels = take (get_or store 0 0) (drop 2 store);
      days = take (get_or store 0 0) (drop (2 + get_or store 0 0) store);
      edges = flat_map (λ (v : ℕ). map (entry_edge v) (list_in store v)) (range (get_or store 0 0));
    }

-- A graph that some accepted file holds: counts, labels, days and edges in their ranges, edges ascending
-- strictly.
unfoldable pub well_formed : Graph → Bool
well_formed g =
    ltb g.vertices (suc max_graph_vertices) && ltb (length g.edges) (suc max_graph_edges)
    && eqb (length g.labels) g.vertices && all (λ (l : ℕ). ltb l (suc max_vertex_label)) g.labels
    && eqb (length g.days) g.vertices && all (λ (t : ℕ). ltb t (suc max_day)) g.days
    && all (λ (e : Edge). not (bad_edge g.vertices e) && ltb e.label (suc max_edge_label)) g.edges
    && ascending (map (key forward) g.edges)

-- 19, by the graph that the words spell. `Refuses19` says what it means.
unfoldable pub store_fault : List ℕ → ℕ
store_fault store =
    let g = graph_in store in
    refuse 19 (not (well_formed g && same (take (store_size g) store) (store_of g)))

-- '19 no accepted graph file loads to this store, words past the used ones ignored': it is given exactly
-- where there is none, and where it is not given there is one, of bytes.
pub record Refuses19 (store : List ℕ) : Type 0 where
  pub none : (store_fault store ≡ 19) ↔ ((file : List ℕ) → LoadsTo file store → ⊥)
  pub one : (store_fault store ≡ 0) ↔ ((file : List ℕ) × LoadsTo file store
      × (all (λ (b : ℕ). ltb b 256) file ≡ true))
