-- The sides of the old store, of the changes and of the edited graph, by keys. Assumes nothing.
use mathlib.Core.Path.{◌≡◌, sym, ◌∙◌, ap}
use mathlib.Core.Bool.{true}
use mathlib.Core.List.{List, [], ◌++◌, map, map-map}
use Prim.Native.Nat.{ℕ, suc, ◌*◌, ◌%◌}
use native.Mathlib.Omega.{arith}
use lib.Dec.{ltb}
use lib.ListN.{length-map}
use borrow.Author.Tests.{lt-ltb}
use Rattle.lists.specs.Lists.{range, all, count_if}
use Rattle.lists.proofs.All.{all-follows}
use Rattle.lists.proofs.Count.{all_map}
use Rattle.lists.proofs.Sort.{all-sort, length-sort}
use Rattle.lists.proofs.Maps.{image-ext}
use Rattle.graph.specs.Graph.{Edge, Graph, Direction, near, key}
use Rattle.graph.specs.Store.{offsets, entries, graph_in, store_fault}
use Rattle.graph.proofs.WellFormed.{WellFormed, fitting}
use Rattle.graph.proofs.Keys.{near-in, key_below, sorted_keys, keys-ascend, keys_below}
use Rattle.graph.proofs.VertexLists.{vertex-list}
use Rattle.adjacency.specs.Inner.Side.{vertices_in, edges_in, side_in}
use Rattle.adjacency.proofs.Listed.{store-list}
use Rattle.adjacency.proofs.Accepted.{side-ends, graph-formed, store-vertices, store-edges, store_length, offset-in, list-within, list_on_lem}
use Rattle.change_file.specs.File.{change_count, changes_of}
use Rattle.changes.specs.Edit.{change_key}
use Rattle.change_merge.specs.Inner.Merge.{entries_of, side_keys, side_words, keys_on, SideOf}
use Rattle.changes.proofs.Present.{change_at}
use Rattle.change_merge.proofs.Parting.{keys_on_lem}

-- The keys of n vertices' edges are below those of vertex n.
pub keys-bounded : (g : Graph) → WellFormed g → (d : Direction) → all (λ (k : ℕ). ltb k (g.vertices * 16777216)) (sorted_keys d g) ≡ true
keys-bounded g w d =
    all-sort (λ (k : ℕ). ltb k (g.vertices * 16777216)) (map (key d) g.edges)
    ∙ all_map (λ (k : ℕ). ltb k (g.vertices * 16777216)) (key d) g.edges
    ∙ all-follows (fitting g.vertices) (λ (e : Edge). ltb (key d e) (g.vertices * 16777216)) g.edges w.edges_fit
    (λ e t. key_below g w d e t g.vertices ∙ lt-ltb (near d e) g.vertices (near-in g w d e t))

-- The lists of an accepted store are those of its graph's keys.
module _ (old : List ℕ) (accepted : store_fault old ≡ 0) (d : Direction) where
  pub side-of : SideOf old (graph_in old).vertices (side_in d old) (sorted_keys d (graph_in old))
  unfolding entries_of
  side-of =
      let g : Graph = graph_in old in
      let w : WellFormed g = graph-formed old accepted in
      record {
        within = list-within old accepted d;
        lists = λ v l. list_on_lem old accepted d v l ∙ sym (store-list g w d v []) ∙ vertex-list g w d v [];
        starts = λ v l. offset-in old accepted d v l ∙ keys_below g w d v;
        whole =
            omega (
              arith,
              length-sort (map (key d) g.edges),
              length-map g.edges (key d),
              side-ends d (vertices_in old) (edges_in old),
              store-vertices old accepted,
              store-edges old accepted,
              store_length old accepted,
            );
        rising = keys-ascend g w d;
        bounded = keys-bounded g w d;
      }

  pub side-keys : keys_on old (graph_in old).vertices (side_in d old) ≡ sorted_keys d (graph_in old)
  side-keys = keys_on_lem side-of

-- The offsets and the entries of a graph are what its keys make.
pub side-words : (g : Graph) → WellFormed g → (d : Direction) → side_words g.vertices (sorted_keys d g) ≡ offsets d g ++ entries d g
unfolding side_words offsets entries
side-words g w d =
    ap (λ (l : List ℕ). l ++ map (λ (k : ℕ). k % 16777216) (sorted_keys d g))
    (image-ext (λ (v : ℕ). count_if (λ (k : ℕ). ltb k (v * 16777216)) (sorted_keys d g)) (λ (v : ℕ). count_if (λ (e : Edge). ltb (near d e) v) g.edges) (suc g.vertices)
    (λ v l. sym (keys_below g w d v)))

-- The changes of the forward side, as the file has them.
pub forward-changes : (s : List ℕ) → side_keys s [] ≡ map change_key (changes_of s)
unfolding side_keys changes_of
forward-changes s = sym (map-map change_key (change_at s) (range (change_count s)))
