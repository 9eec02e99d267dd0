-- Keys and entries of the edges of a well-formed graph: what they tell, and that the sorted keys ascend. Assumes nothing.
use mathlib.Core.Path.{◌≡◌, refl, sym, ◌∙◌, ap}
use mathlib.Core.Bool.{Bool, true, not, ◌&&◌}
use mathlib.Core.List.{List, map, map-map}
use Prim.Native.Nat.{ℕ, suc, ◌+◌, ◌*◌, ◌/◌, ◌%◌, ◌≤◌, ◌<◌}
use native.Mathlib.Omega.{arith}
use lib.Dec.{eqb, ltb}
use borrow.Author.Tests.{eqb-true, eq-eqb, ltb-true, lt-ltb, le-ltb, ltb-false}
use Rattle.lists.specs.Lists.{count_if, ascending, sort}
use Rattle.lists.proofs.Tests.{iff, and_l, and_r, not-true}
use Rattle.lists.proofs.Count.{count_map, count_under, count-mono}
use Rattle.lists.proofs.Sort.{ascending-once, sort-ascending, sort-ascends, count-sort}
use Rattle.lists.proofs.Maps.{map-under}
use Rattle.graph.specs.Graph.{Edge, Graph, Direction, forward, backward, near, far, entry, key}
use Rattle.graph.specs.Store.{entry_edge, entries}
use Rattle.graph.proofs.WellFormed.{Fitting, WellFormed, fitting, fitting-edge}

-- The entry in a key, and the test that a key is one of an edge at v.
abbrev pub entry_in : ℕ → ℕ
entry_in k = k % 16777216

abbrev pub key_at : ℕ → ℕ → Bool
key_at v k = not (ltb k (v * 16777216)) && ltb k (suc v * 16777216)

pub key-at : (v k : ℕ) → key_at v k ≡ eqb (k / 16777216) v
key-at v k =
    iff (key_at v k) (eqb (k / 16777216) v)
    (λ t.
    let a : v * 16777216 ≤ k = ltb-false k (v * 16777216) (not-true _ (and_l (not (ltb k (v * 16777216))) _ t)) in
    let b : k < suc v * 16777216 = ltb-true k (suc v * 16777216) (and_r (not (ltb k (v * 16777216))) _ t) in
    eq-eqb (k / 16777216) v (omega arith))
    (λ t.
    let e : k / 16777216 ≡ v = eqb-true (k / 16777216) v t in
    rw (le-ltb k (v * 16777216) (omega arith)) (lt-ltb k (suc v * 16777216) (omega arith)))

-- ---- one edge

module _ (g : Graph) (w : WellFormed g) (d : Direction) (e : Edge) (t : fitting g.vertices e ≡ true) where
  fits : Fitting g.vertices e
  fits = fitting-edge g.vertices e t

  pub near-in : near d e < g.vertices
  near-in = elim d as (λ k. near k e < g.vertices) [ forward ↦ fits.source_in | backward ↦ fits.target_in ]

  pub far-in : far d e < g.vertices
  far-in = elim d as (λ k. far k e < g.vertices) [ forward ↦ fits.target_in | backward ↦ fits.source_in ]

  -- An entry takes 24 bits, so that a key tells its near end and its entry.
  pub entry-fits : entry d e < 16777216
  entry-fits = omega (arith, far-in, fits.label_fits)

  pub key-entry : entry_in (key d e) ≡ entry d e
  key-entry = omega (arith, entry-fits)

  pub key-near : key d e / 16777216 ≡ near d e
  key-near = omega (arith, entry-fits)

  pub key_below : (v : ℕ) → ltb (key d e) (v * 16777216) ≡ ltb (near d e) v
  key_below v =
      iff (ltb (key d e) (v * 16777216)) (ltb (near d e) v)
      (λ h. let l : key d e < v * 16777216 = ltb-true (key d e) (v * 16777216) h in lt-ltb (near d e) v (omega arith))
      (λ h. let l : near d e < v = ltb-true (near d e) v h in lt-ltb (key d e) (v * 16777216) (omega (arith, entry-fits)))

  -- An entry tells its label and its far end.
  pub entry-label : entry d e / 65536 ≡ e.label
  entry-label = omega (arith, far-in)

  pub entry-far : entry d e % 65536 ≡ far d e
  entry-far = omega (arith, far-in)

-- An entry of the forward list tells its edge.
pub edge-of : (g : Graph) → WellFormed g → (e : Edge) → fitting g.vertices e ≡ true → entry_edge e.source (entry forward e) ≡ e
edge-of g w e t = λ i. record { source = e.source; label = entry-label g w forward e t i; target = entry-far g w forward e t i }

-- ---- the keys of all edges

-- The forward key of an edge, as its key in either direction tells it.
forward_key : Direction → ℕ → ℕ
forward_key forward k = k
forward_key backward k = entry_in k % 65536 * 16777216 + (entry_in k / 65536 * 65536 + k / 16777216)

forward-key : (g : Graph) → WellFormed g → (d : Direction) (e : Edge) → fitting g.vertices e ≡ true
    → forward_key d (key d e) ≡ key forward e
unfolding forward_key
forward-key g w forward e t = refl
forward-key g w backward e t =
    rw (key-entry g w backward e t, key-near g w backward e t, entry-label g w backward e t, entry-far g w backward e t)

-- The keys of the edges in one direction, ascending.
abbrev pub sorted_keys : Direction → Graph → List ℕ
sorted_keys d g = sort (map (key d) g.edges)

module _ (g : Graph) (w : WellFormed g) (d : Direction) where
  -- No two edges have one key, since no two have one forward key.
  keys-once : (k : ℕ) → count_if (λ (j : ℕ). eqb j k) (map (key d) g.edges) ≤ 1
  keys-once k = omega (arith, count_map (is k) (key d) g.edges, fewer, count_map (is (forward_key d k)) (key forward) g.edges, once)
    where
      is : ℕ → ℕ → Bool
      is k j = eqb j k

      fewer : count_if (λ (e : Edge). is k (key d e)) g.edges ≤ count_if (λ (e : Edge). is (forward_key d k) (key forward e)) g.edges
      fewer =
          count-mono (fitting g.vertices) (λ (e : Edge). is k (key d e)) (λ (e : Edge). is (forward_key d k) (key forward e)) g.edges
          w.edges_fit
          (λ e t i. eq-eqb (key forward e) (forward_key d k) (sym (forward-key g w d e t) ∙ ap (forward_key d) (eqb-true (key d e) k i)))

      once : count_if (is (forward_key d k)) (map (key forward) g.edges) ≤ 1
      once = ascending-once (map (key forward) g.edges) w.edges_ascend (forward_key d k)

  pub keys-ascend : ascending (sorted_keys d g) ≡ true
  keys-ascend = sort-ascends (map (key d) g.edges) keys-once

  -- The offset of a vertex is the number of sorted keys below its first.
  pub keys_below : (v : ℕ) → count_if (λ (e : Edge). ltb (near d e) v) g.edges ≡ count_if (λ (k : ℕ). ltb k (v * 16777216)) (sorted_keys d g)
  keys_below v =
      count_under (fitting g.vertices) (λ (e : Edge). ltb (near d e) v) (λ (e : Edge). low (key d e)) g.edges w.edges_fit
      (λ e t. sym (key_below g w d e t v))
      ∙ sym (count_map low (key d) g.edges) ∙ sym (count-sort low (map (key d) g.edges))
    where
      low : ℕ → Bool
      low k = ltb k (v * 16777216)

-- The forward keys ascend in the file's order already, so that the forward entries are those of the edges in that order.
pub forward-keys : (g : Graph) → WellFormed g → sorted_keys forward g ≡ map (key forward) g.edges
forward-keys g w = sort-ascending (map (key forward) g.edges) w.edges_ascend

pub forward-entries : (g : Graph) → WellFormed g → entries forward g ≡ map (entry forward) g.edges
unfolding entries
forward-entries g w =
    ap (map entry_in) (forward-keys g w) ∙ map-map entry_in (key forward) g.edges
    ∙ map-under (fitting g.vertices) (λ (e : Edge). entry_in (key forward e)) (entry forward) g.edges w.edges_fit
    (key-entry g w forward)
