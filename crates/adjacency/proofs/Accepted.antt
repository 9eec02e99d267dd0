-- A store that is not refused: its counts, where its lists lie, and that they are the lists of its graph. Assumes nothing.
use mathlib.Core.Path.{◌≡◌, refl, sym, ◌∙◌, ap, ap₂, subst₂}
use mathlib.Core.Bool.{true}
use mathlib.Core.List.{List, ◌++◌}
use Prim.Native.Nat.{ℕ, suc, ◌+◌, ◌-◌, ◌≤◌, ◌<◌}
use native.Mathlib.Omega.{arith}
use lib.Dec.{ltb}
use lib.ListN.{length, get_or, take, drop, take-append-drop, length-append}
use lib.Seq.{get_or-take, get_or-drop}
use borrow.Author.Tests.{ltb-true, lt-ltb}
use Rattle.lists.specs.Lists.{ascending}
use Rattle.lists.proofs.All.{all_get_d}
use Rattle.lists.proofs.Count.{count-le, count-mono}
use Rattle.graph.specs.Graph.{Edge, Graph, Direction, forward, backward, near, day_of}
use Rattle.graph.specs.Store.{store_of, store_size, used_words, graph_in, store_fault}
use Rattle.graph.specs.Inner.Side.{side_at}
use Rattle.graph.proofs.WellFormed.{WellFormed, fitting, well-formed}
use Rattle.graph.proofs.Parts.{offset, side_start, length-store, store-offset}
use Rattle.graph.proofs.Loads.{store-formed}
use Rattle.adjacency.specs.Inner.Side.{list_on, Within, vertices_in, edges_in, side_in, Lookup}
use Rattle.adjacency.specs.Inner.Portion.{list_of}
use Rattle.adjacency.proofs.Listed.{store-list, list_ascends}

-- A side of a store ends within its words.
pub side-ends : (d : Direction) (n m : ℕ) → side_at d n m + n + 1 + m ≤ used_words n m
side-ends forward n m = omega arith
side-ends backward n m = omega arith

module _ (store : List ℕ) (accepted : store_fault store ≡ 0) where
  pub graph-formed : WellFormed (graph_in store)
  graph-formed = well-formed (graph_in store) (store-formed store accepted).0

  -- Its words are those of its graph, and then the ones past them.
  pub store-whole : store ≡ store_of (graph_in store) ++ drop (store_size (graph_in store)) store
  store-whole =
      sym (take-append-drop (store_size (graph_in store)) store)
      ∙ ap (λ (l : List ℕ). l ++ drop (store_size (graph_in store)) store) (store-formed store accepted).1

  pub store_length : store_size (graph_in store) ≤ length store
  store_length =
      omega (arith, length-store (graph_in store) graph-formed.described, simp length-append at (ap length store-whole))

  -- Its first two words are its counts.
  pub store-vertices : vertices_in store ≡ (graph_in store).vertices
  unfolding graph_in
  store-vertices = refl

  pub store-edges : edges_in store ≡ length (graph_in store).edges
  unfolding store_of
  store-edges = ap (λ (l : List ℕ). get_or l 1 0) store-whole

  -- A vertex's day, where it stands, and that it fits 16 bits.
  pub day-in : (y : ℕ) → y < vertices_in store → day_of (graph_in store) y ≡ get_or store (2 + vertices_in store + y) 0
  unfolding graph_in
  day-in y h = get_or-take (vertices_in store) (drop (2 + vertices_in store) store) y 0 h ∙ get_or-drop (2 + vertices_in store) store y 0

  pub day-fits : (y : ℕ) → y < vertices_in store → get_or store (2 + vertices_in store + y) 0 < 65536
  day-fits y h =
      ltb-true _ 65536
      (ap (λ (t : ℕ). ltb t 65536) (sym (day-in y h))
      ∙ all_get_d (λ (t : ℕ). ltb t 65536) (graph_in store).days y 0 (omega (arith, graph-formed.described.1, store-vertices)) graph-formed.days-fit)

  module _ (d : Direction) where
    side-begins : side_in d store ≡ side_start d (graph_in store)
    side-begins = ap₂ (λ (n m : ℕ). side_at d n m) store-vertices store-edges

    -- The word of an offset.
    pub offset-in : (v : ℕ) → v ≤ (graph_in store).vertices → get_or store (side_in d store + v) 0 ≡ offset d (graph_in store) v
    offset-in v h =
        ap₂ (λ (s : List ℕ) (n : ℕ). get_or s (n + v) 0) store-whole side-begins
        ∙ store-offset (graph_in store) graph-formed.described (drop (store_size (graph_in store)) store) d v h

    module _ (v : ℕ) (inside : v < (graph_in store).vertices) where
      next : get_or store (side_in d store + v + 1) 0 ≡ offset d (graph_in store) (suc v)
      next = ap (λ (n : ℕ). get_or store n 0) (let e : side_in d store + v + 1 ≡ side_in d store + suc v = omega arith in e) ∙ offset-in (suc v) inside

      pub list-within : Within store (graph_in store).vertices (side_in d store) v
      list-within =
          let g : Graph = graph_in store in
          record {
            vertex_in = inside;
            rises =
                rw (offset-in v (omega arith), next)
                (count-mono (fitting g.vertices) (λ (e : Edge). ltb (near d e) v) (λ (e : Edge). ltb (near d e) (suc v)) g.edges graph-formed.edges_fit
                (λ e f t. let l : near d e < v = ltb-true (near d e) v t in lt-ltb (near d e) (suc v) (omega arith)));
            ends =
                rw (next, side-begins)
                (let m : offset d g (suc v) ≤ length g.edges = count-le (λ (e : Edge). ltb (near d e) (suc v)) g.edges in
                omega (arith, side-ends d g.vertices (length g.edges), store_length));
          }

      pub list_on_lem : list_on store (graph_in store).vertices (side_in d store) v ≡ list_of d (graph_in store) v
      list_on_lem =
          let g : Graph = graph_in store in
          rw (offset-in v (omega arith), next, side-begins)
          (ap₂ (λ (n : ℕ) (s : List ℕ). take (offset d g (suc v) - offset d g v) (drop n s))
          (let e : side_start d g + g.vertices + 1 + offset d g v ≡ side_start d g + (suc g.vertices + offset d g v) = omega arith in e) store-whole
          ∙ store-list g graph-formed d v (drop (store_size g) store))

-- The same of a vertex that is looked up.
module _ (store : List ℕ) (n side v : ℕ) (asked : Lookup store n side v) where
  vertex-of : v < (graph_in store).vertices
  unfolding graph_in
  vertex-of = omega arith

  pub lookup-within : Within store n side v
  unfolding graph_in
  lookup-within =
      subst₂ (λ (m s : ℕ). Within store m s v) (sym asked.vertices) (sym asked.begins) (list-within store asked.accepted asked.direction v vertex-of)

  -- The list there, in the direction whose side begins there.
  pub lookup-list : (d : Direction) → side ≡ side_in d store → list_on store n side v ≡ list_of d (graph_in store) v
  unfolding graph_in
  lookup-list d e = ap₂ (λ (m s : ℕ). list_on store m s v) asked.vertices e ∙ list_on_lem store asked.accepted d v vertex-of

  pub lookup-ascends : ascending (list_on store n side v) ≡ true
  lookup-ascends =
      ap ascending (lookup-list asked.direction asked.begins) ∙ list_ascends (graph_in store) (graph-formed store asked.accepted) asked.direction v

-- The counts of an accepted store are small, and it has them.
pub store-counts : (store : List ℕ) → store_fault store ≡ 0 → (2 ≤ length store) × (get_or store 0 0 ≤ 4294967295) × (get_or store 1 0 ≤ 4294967295)
store-counts store e =
    let formed = graph-formed store e in (
      omega (arith, store_length store e),
      omega (arith, store-vertices store e, formed.few_vertices),
      omega (arith, store-edges store e, formed.few_edges),
    )
