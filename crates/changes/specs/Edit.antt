-- The edited graph, what changes are refused, and what is answered and left in the new store. Assumes
-- nothing.
use Rattle.std.specs.Prelude.{Bool, cond, not, ◌&&◌, List, [], ◌∷◌, ◌++◌, map, ℕ, ◌/◌, ◌%◌, eqb, ltb, length, drop}
use Rattle.lists.specs.Lists.{all, any, keep, sort}
use Rattle.lists.specs.Refusal.{refuse, first, answered}
use Rattle.graph.specs.Graph.{Edge, Graph, max_graph_edges, entry_end, forward, key}
use Rattle.graph.specs.Store.{store_of, store_size, entry_edge, graph_in, store_fault}
use Rattle.load.specs.declared.Loaded.{Loaded}
use Rattle.change_file.specs.File.{Change, changes_of, change_fault}

-- The key of a change is that of its edge, and a key tells its edge.
abbrev pub change_key : Change → ℕ
change_key c = key forward c.edge

abbrev pub key_edge : ℕ → Edge
key_edge k = entry_edge (k / entry_end) (k % entry_end)

-- The keys of a graph's edges.
abbrev pub keys_of : Graph → List ℕ
keys_of g = map (key forward) g.edges

-- An edge that the changes take away.
abbrev pub taken : List Change → ℕ → Bool
taken cs k = any (λ (c : Change). not c.adds && eqb (change_key c) k) cs

-- The edges of the edited graph by key: those of the old one without the ones taken away, and the ones added,
-- in the file's order.
unfoldable pub edited_keys : List ℕ → List Change → List ℕ
edited_keys ks cs = sort (keep (λ (k : ℕ). not (taken cs k)) ks
    ++ map change_key (keep (λ (c : Change). c.adds) cs))

-- The edited graph: vertices, labels and days stay.
unfoldable pub apply_changes : Graph → List Change → Graph
apply_changes g cs =
    record {
      vertices = g.vertices;
      labels = g.labels;
      days = g.days;
      edges = map key_edge (edited_keys (keys_of g) cs);
    }

-- An edge that can be added, since it is absent, or taken away, since it is present.
abbrev pub applies : List ℕ → Change → Bool
applies ks c =
    let present = any (λ (k : ℕ). eqb k (change_key c)) ks in
    cond c.adds (not present) present

-- '28 adding a present edge or taking an absent one.'
unfoldable pub edit_fault : Graph → List Change → ℕ
edit_fault g cs = refuse 28 (not (all (applies (keys_of g)) cs))

-- The graph of an old store and a change file.
abbrev pub edited_graph : List ℕ → List ℕ → Graph
edited_graph old s = apply_changes (graph_in old) (changes_of s)

-- 'After 19, each over the whole file before the next': 27, 28, '29 more than 1,048,575 edges; then 5'.
unfoldable pub apply_fault : List ℕ → List ℕ → ℕ → ℕ
apply_fault old s room =
    first
    (store_fault old
    ∷ change_fault (graph_in old).vertices s
    ∷ edit_fault (graph_in old) (changes_of s)
    ∷ refuse 29 (ltb max_graph_edges (length (edited_graph old s).edges))
    ∷ refuse 5 (ltb room (store_size (edited_graph old s)))
    ∷ [])

-- 'N and M of the edited graph', or its refusal 'with every other number 0'.
unfoldable pub apply_answer : List ℕ → List ℕ → ℕ → Loaded
apply_answer old s room =
    record {
      refusal = apply_fault old s room;
      vertices = answered (apply_fault old s room) (edited_graph old s).vertices;
      edges = answered (apply_fault old s room) (length (edited_graph old s).edges);
    }

-- The new store: the words of the edited graph followed by its old words; 'refused, the new store is
-- untouched'.
unfoldable pub changed_store : List ℕ → List ℕ → List ℕ → List ℕ
changed_store old s store =
    cond (eqb (apply_fault old s (length store)) 0)
    (store_of (edited_graph old s) ++ drop (store_size (edited_graph old s)) store)
    store
