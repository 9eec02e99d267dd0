-- The words that a well-formed graph is loaded to spell that graph. Assumes nothing.
use mathlib.Core.Path.{◌≡◌, refl, sym, ◌∙◌, ap, ap₂}
use mathlib.Core.Bool.{Bool, true, not, ◌&&◌}
use mathlib.Core.List.{List, ◌∷◌, ◌++◌, map, map-map, map-id, flat_map}
use Prim.Native.Nat.{ℕ, suc, ◌+◌, ◌-◌, ◌*◌, ◌<◌}
use native.Mathlib.Omega.{arith}
use lib.Dec.{ltb}
use lib.ListN.{length, take, drop}
use lib.Seq.{take_at, drop_at}
use borrow.Author.Tests.{eqb-true, lt-ltb}
use Rattle.lists.specs.Lists.{◌implies◌, range, keep, same}
use Rattle.lists.specs.Refusal.{refuse}
use Rattle.lists.proofs.Tests.{and_l, and_r, and_both, imp_intro}
use Rattle.lists.proofs.All.{all-follows, all_keep, keep_all}
use Rattle.lists.proofs.Same.{eq-same}
use Rattle.lists.proofs.Faults.{zero-refuse}
use Rattle.lists.proofs.Maps.{keep-map, map-under}
use Rattle.lists.proofs.Cut.{cut_parts}
use Rattle.graph.specs.Graph.{Edge, Graph, forward, key}
use Rattle.graph.specs.Store.{store_of, list_in, entry_edge, graph_in, well_formed, store_size, store_fault}
use Rattle.graph.proofs.WellFormed.{WellFormed, fitting, well-formed}
use Rattle.graph.proofs.Keys.{entry_in, key_at, key-at, near-in, key-near, key-entry, key_below, edge-of, sorted_keys, forward-keys}
use Rattle.graph.proofs.Parts.{offset, side_start, length-store, store-shape, store-offset}
use Rattle.graph.proofs.VertexLists.{list_at, vertex-list}

module _ (g : Graph) (w : WellFormed g) where
  -- The entries in the forward list of v tell the edges from v, in the file's order.
  edges_at : (v : ℕ) → map (entry_edge v) (map entry_in (keep (key_at v) (sorted_keys forward g)))
      ≡ keep (λ (e : Edge). key_at v (key forward e)) g.edges
  edges_at v =
      ap (λ (ks : List ℕ). map (entry_edge v) (map entry_in (keep (key_at v) ks))) (forward-keys g w)
      ∙ ap (λ (ks : List ℕ). map (entry_edge v) (map entry_in ks)) (keep-map (key_at v) (key forward) g.edges)
      ∙ ap (map (entry_edge v)) (map-map entry_in (key forward) (keep at g.edges))
      ∙ map-map (entry_edge v) (λ (e : Edge). entry_in (key forward e)) (keep at g.edges)
      ∙ map-under (λ (e : Edge). fit e && at e) (λ (e : Edge). entry_edge v (entry_in (key forward e))) (λ (e : Edge). e) (keep at g.edges)
      (all_keep (λ (e : Edge). fit e && at e) at g.edges
      ∙ all-follows fit (λ (e : Edge). at e implies (fit e && at e)) g.edges w.edges_fit
      (λ e t. imp_intro (at e) (fit e && at e) (and_both (fit e) (at e) t)))
      (λ e t. told e (and_l (fit e) (at e) t) (and_r (fit e) (at e) t))
      ∙ map-id (keep at g.edges)
    where
      fit : Edge → Bool
      fit e = fitting g.vertices e

      at : Edge → Bool
      at e = key_at v (key forward e)

      told : (e : Edge) → fit e ≡ true → at e ≡ true → entry_edge v (entry_in (key forward e)) ≡ e
      told e t a =
          let from : v ≡ e.source = sym (eqb-true _ v (sym (key-at v (key forward e)) ∙ a)) ∙ key-near g w forward e t in
          ap₂ (λ (x k : ℕ). entry_edge x k) from (key-entry g w forward e t) ∙ edge-of g w e t

  module _ (rest : List ℕ) where
    list-in : (v : ℕ) → v < g.vertices → list_in (store_of g ++ rest) v ≡ list_at forward g (store_of g ++ rest) v
    unfolding store_of
    list-in v h =
        let store : List ℕ = store_of g ++ rest in
        let from : ℕ = offset forward g v in
        let place : 3 + 3 * g.vertices + from ≡ side_start forward g + (suc g.vertices + from) = omega arith in
        ap₂ (λ (to from : ℕ). take (to - from) (drop (3 + 3 * g.vertices + from) store))
        (store-offset g w.described rest forward (suc v) h) (store-offset g w.described rest forward v (omega arith))
        ∙ ap (λ (n : ℕ). take (offset forward g (suc v) - offset forward g v) (drop n store)) place

    labels_in : take g.vertices (drop 2 (store_of g ++ rest)) ≡ g.labels
    labels_in =
        ap (λ (l : List ℕ). take g.vertices (drop 2 l)) (store-shape g rest)
        ∙ take_at g.labels _ g.vertices w.described.0

    days-in : take g.vertices (drop (2 + g.vertices) (store_of g ++ rest)) ≡ g.days
    days-in =
        ap (λ (l : List ℕ). take g.vertices (drop (2 + g.vertices) l)) (store-shape g rest)
        ∙ ap (take g.vertices) (drop_at (g.vertices ∷ length g.edges ∷ g.labels) _ (2 + g.vertices) (omega (arith, w.described.0)))
        ∙ take_at g.days _ g.vertices w.described.1

    edges-in : flat_map (λ (v : ℕ). map (entry_edge v) (list_in (store_of g ++ rest) v)) (range g.vertices) ≡ g.edges
    edges-in =
        cut_parts (key forward) g.edges w.edges_ascend (λ (v : ℕ). v * 16777216) refl (λ v. omega arith)
        (λ (v : ℕ). map (entry_edge v) (list_in (store_of g ++ rest) v)) g.vertices
        (λ v l. ap (map (entry_edge v)) (list-in v l ∙ vertex-list g w forward v rest) ∙ edges_at v)
        ∙ keep_all (λ (e : Edge). ltb (key forward e) (g.vertices * 16777216)) g.edges
        (all-follows (fitting g.vertices) (λ (e : Edge). ltb (key forward e) (g.vertices * 16777216)) g.edges w.edges_fit
        (λ e t. key_below g w forward e t g.vertices ∙ lt-ltb e.source g.vertices (near-in g w forward e t)))

    graph-in : graph_in (store_of g ++ rest) ≡ g
    unfolding graph_in store_of
    graph-in = λ i. record { vertices = g.vertices; labels = labels_in i; days = days-in i; edges = edges-in i }

pub store_in : (g : Graph) → well_formed g ≡ true → (rest : List ℕ) → graph_in (store_of g ++ rest) ≡ g
store_in g t rest = graph-in g (well-formed g t) rest

-- So that store is not refused, whatever follows its words.
pub store-accepted : (g : Graph) → well_formed g ≡ true → (rest : List ℕ) → store_fault (store_of g ++ rest) ≡ 0
unfolding store_fault
store-accepted g t rest =
    ap (λ (h : Graph). refuse 19 (not (well_formed h && same (take (store_size h) (store_of g ++ rest)) (store_of h)))) (store_in g t rest)
    ∙ zero-refuse 19 (not (well_formed g && same (take (store_size g) (store_of g ++ rest)) (store_of g)))
    (ap not (and_both (well_formed g) (same (take (store_size g) (store_of g ++ rest)) (store_of g)) t
    (eq-same (take (store_size g) (store_of g ++ rest)) (store_of g)
    (take_at (store_of g) rest (store_size g) (length-store g (well-formed g t).described)))))
