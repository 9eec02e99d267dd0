-- A vertex's list: what stands in it, that it ascends, and that it is the words between two offsets of the store.
-- Assumes nothing.
use mathlib.Core.Path.{◌≡◌, sym, ◌∙◌, ap}
use mathlib.Core.Bool.{Bool, true, ◌&&◌}
use mathlib.Core.List.{List, [], ◌++◌, map}
use Prim.Native.Nat.{ℕ, ◌%◌, ◌≤◌}
use native.Mathlib.Omega.{arith}
use lib.Dec.{eqb, ltb}
use borrow.Author.Tests.{eqb-true, lt-ltb}
use Rattle.lists.specs.Lists.{◌implies◌, all, any, keep, count_if, ascending}
use Rattle.lists.proofs.Tests.{imp_intro}
use Rattle.lists.proofs.All.{all_keep, all-follows}
use Rattle.lists.proofs.Count.{count_map, count-keep, all_map}
use Rattle.lists.proofs.Sort.{count-sort, all-sort, ascending-once, ascending-same, sort-ascends}
use Rattle.lists.proofs.Any.{any-count}
use Rattle.graph.specs.Graph.{Edge, Graph, Direction, near, entry}
use Rattle.graph.specs.Store.{store_of}
use Rattle.graph.proofs.WellFormed.{WellFormed, Fitting, fitting, fitting-edge, edge-fitting}
use Rattle.graph.proofs.Keys.{entry-fits, far-in}
use Rattle.graph.proofs.VertexLists.{list_at, vertex-ascends, vertex-count}
use Rattle.adjacency.specs.Inner.Portion.{list_of}

-- Counting and testing in a list is counting and testing over the vertex's edges.
pub list_count : (p : ℕ → Bool) (d : Direction) (g : Graph) (x : ℕ)
    → count_if p (list_of d g x) ≡ count_if (λ (e : Edge). eqb (near d e) x && p (entry d e)) g.edges
unfolding list_of
list_count p d g x =
    let mine : List Edge = keep (λ (e : Edge). eqb (near d e) x) g.edges in
    count-sort p (map (entry d) mine) ∙ count_map p (entry d) mine ∙ count-keep (λ (e : Edge). p (entry d e)) (λ (e : Edge). eqb (near d e) x) g.edges

pub list_all : (p : ℕ → Bool) (d : Direction) (g : Graph) (x : ℕ)
    → all p (list_of d g x) ≡ all (λ (e : Edge). eqb (near d e) x implies p (entry d e)) g.edges
unfolding list_of
list_all p d g x =
    let mine : List Edge = keep (λ (e : Edge). eqb (near d e) x) g.edges in
    all-sort p (map (entry d) mine) ∙ all_map p (entry d) mine ∙ all_keep (λ (e : Edge). p (entry d e)) (λ (e : Edge). eqb (near d e) x) g.edges

pub list_any : (p : ℕ → Bool) (d : Direction) (g : Graph) (x : ℕ)
    → any p (list_of d g x) ≡ any (λ (e : Edge). eqb (near d e) x && p (entry d e)) g.edges
list_any p d g x =
    any-count p (list_of d g x) ∙ ap (ltb 0) (list_count p d g x) ∙ sym (any-count (λ (e : Edge). eqb (near d e) x && p (entry d e)) g.edges)

module _ (g : Graph) (w : WellFormed g) (d : Direction) (x : ℕ) where
  -- A test counts in the list what it counts in the words of a store.
  same_count : (p : ℕ → Bool) (rest : List ℕ) → count_if p (list_at d g (store_of g ++ rest) x) ≡ count_if p (list_of d g x)
  same_count p rest = vertex-count g w d x rest p ∙ sym (list_count p d g x)

  pub list_ascends : ascending (list_of d g x) ≡ true
  unfolding list_of
  list_ascends =
      let mine : List ℕ = map (entry d) (keep (λ (e : Edge). eqb (near d e) x) g.edges) in
      sort-ascends mine
      (λ k.
      let l : count_if (λ (j : ℕ). eqb j k) (list_at d g (store_of g ++ []) x) ≤ 1 = ascending-once _ (vertex-ascends g w d x []) k in
      omega (arith, same_count (λ (j : ℕ). eqb j k) [], count-sort (λ (j : ℕ). eqb j k) mine))

  -- The words of the store between two offsets.
  pub store-list : (rest : List ℕ) → list_at d g (store_of g ++ rest) x ≡ list_of d g x
  store-list rest = ascending-same _ _ (vertex-ascends g w d x rest) list_ascends (λ k. same_count (λ (j : ℕ). eqb j k) rest)

  pub list-entries : (p : ℕ → Bool) → ((e : Edge) → Fitting g.vertices e → near d e ≡ x → p (entry d e) ≡ true) → all p (list_of d g x) ≡ true
  list-entries p h =
      list_all p d g x
      ∙ all-follows (fitting g.vertices) (λ (e : Edge). eqb (near d e) x implies p (entry d e)) g.edges w.edges_fit
      (λ e t. imp_intro (eqb (near d e) x) (p (entry d e)) (λ i. h e (fitting-edge g.vertices e t) (eqb-true (near d e) x i)))

  -- An entry: a label from 1 to 255 and a neighbour below N.
  pub entries-given : all (λ (k : ℕ). ltb 65535 k) (list_of d g x) ≡ true
  entries-given = list-entries (λ (k : ℕ). ltb 65535 k) (λ e f i. lt-ltb 65535 (entry d e) (omega arith))

  pub entries_fit : all (λ (k : ℕ). ltb k 16777216) (list_of d g x) ≡ true
  entries_fit =
      list-entries (λ (k : ℕ). ltb k 16777216) (λ e f i. lt-ltb (entry d e) 16777216 (entry-fits g w d e (edge-fitting g.vertices e f)))

  pub entries-in : all (λ (k : ℕ). ltb (k % 65536) g.vertices) (list_of d g x) ≡ true
  entries-in =
      list-entries (λ (k : ℕ). ltb (k % 65536) g.vertices)
      (λ e f i. lt-ltb (entry d e % 65536) g.vertices (omega (arith, far-in g w d e (edge-fitting g.vertices e f), w.few_vertices)))
