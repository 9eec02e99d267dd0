-- The list of a vertex in a store: the words between its offset and the next one are the entries of its edges, ascending.
-- Assumes nothing.
use mathlib.Core.Path.{◌≡◌, sym, ◌∙◌, ap, ap₂}
use mathlib.Core.Bool.{Bool, true, ◌&&◌}
use mathlib.Core.List.{List, ◌++◌, map, map-id}
use Prim.Native.Nat.{ℕ, suc, ◌+◌, ◌-◌, ◌*◌, ◌/◌, ◌≤◌, ◌<◌}
use native.Mathlib.Omega.{arith}
use lib.Dec.{eqb}
use borrow.Author.Tests.{eqb-true}
use lib.ListN.{length, take, drop, length-drop}
use lib.Seq.{take-append-le}
use Rattle.lists.specs.Lists.{keep, count_if, ascending}
use Rattle.lists.proofs.Count.{count-le, count_map, count-keep, count_under}
use Rattle.lists.proofs.Sort.{ascending-keep, ascending-map, count-sort}
use Rattle.lists.proofs.Maps.{take-map, drop-map}
use Rattle.lists.proofs.All.{kept}
use Rattle.lists.proofs.Cut.{cut-part}
use Rattle.graph.specs.Graph.{Edge, Graph, Direction, near, entry, key}
use Rattle.graph.specs.Store.{entries, store_of}
use Rattle.graph.proofs.WellFormed.{WellFormed, fitting}
use Rattle.graph.proofs.Keys.{entry_in, key_at, key-at, key-entry, key-near, sorted_keys, keys-ascend, keys_below}
use Rattle.graph.proofs.Parts.{offset, side_start, side_end, length-entries, store-entries}

-- The words of a vertex's list.
abbrev pub list_at : Direction → Graph → List ℕ → ℕ → List ℕ
list_at d g store v = take (offset d g (suc v) - offset d g v) (drop (side_start d g + (suc g.vertices + offset d g v)) store)

module _ (g : Graph) (w : WellFormed g) (d : Direction) (v : ℕ) where
  -- The offsets cut the sorted keys of the edges at v out of all.
  keys-cut : take (offset d g (suc v) - offset d g v) (drop (offset d g v) (sorted_keys d g)) ≡ keep (key_at v) (sorted_keys d g)
  keys-cut =
      let ks : List ℕ = sorted_keys d g in
      ap₂ (λ (m n : ℕ). take (m - n) (drop n ks)) (keys_below g w d (suc v)) (keys_below g w d v)
      ∙ cut-part (λ (k : ℕ). k) ks (v * 16777216) (suc v * 16777216) (ap ascending (map-id ks) ∙ keys-ascend g w d) (omega arith)

  entries-cut : take (offset d g (suc v) - offset d g v) (drop (offset d g v) (entries d g)) ≡ map entry_in (keep (key_at v) (sorted_keys d g))
  unfolding entries
  entries-cut =
      let size : ℕ = offset d g (suc v) - offset d g v in
      ap (take size) (drop-map entry_in (offset d g v) (sorted_keys d g)) ∙ take-map entry_in size (drop (offset d g v) (sorted_keys d g))
      ∙ ap (map entry_in) keys-cut

  module _ (rest : List ℕ) where
    pub vertex-list : list_at d g (store_of g ++ rest) v ≡ map entry_in (keep (key_at v) (sorted_keys d g))
    vertex-list =
        let size : ℕ = offset d g (suc v) - offset d g v in
        let last : offset d g (suc v) ≤ length g.edges = count-le _ g.edges in
        ap (take size) (store-entries g w.described rest d (offset d g v) (count-le _ g.edges))
        ∙ take-append-le size (drop (offset d g v) (entries d g)) (side_end d g rest) (rw (length-drop, length-entries) (omega arith))
        ∙ entries-cut

    -- It ascends;
    pub vertex-ascends : ascending (list_at d g (store_of g ++ rest) v) ≡ true
    vertex-ascends =
        ap ascending vertex-list
        ∙ ascending-map (key_at v) entry_in (keep (key_at v) (sorted_keys d g)) (kept (key_at v) (sorted_keys d g)) rise
        (ascending-keep (key_at v) (sorted_keys d g) (keys-ascend g w d))
      where
        rise : (j k : ℕ) → key_at v j ≡ true → key_at v k ≡ true → j < k → entry_in j < entry_in k
        rise j k a b l =
            let x : j / 16777216 ≡ v = eqb-true _ v (sym (key-at v j) ∙ a) in
            let y : k / 16777216 ≡ v = eqb-true _ v (sym (key-at v k) ∙ b) in
            omega arith

    -- and a test counts in it the edges at v whose entries pass.
    pub vertex-count : (p : ℕ → Bool)
        → count_if p (list_at d g (store_of g ++ rest) v) ≡ count_if (λ (e : Edge). eqb (near d e) v && p (entry d e)) g.edges
    vertex-count p =
        ap (count_if p) vertex-list ∙ count_map p entry_in (keep (key_at v) (sorted_keys d g))
        ∙ count-keep (λ (k : ℕ). p (entry_in k)) (key_at v) (sorted_keys d g)
        ∙ count-sort passes (map (key d) g.edges) ∙ count_map passes (key d) g.edges
        ∙ count_under (fitting g.vertices) (λ (e : Edge). passes (key d e)) (λ (e : Edge). eqb (near d e) v && p (entry d e))
        g.edges w.edges_fit (λ e t. rw (key-at v (key d e), key-near g w d e t, key-entry g w d e t))
      where
        passes : ℕ → Bool
        passes k = key_at v k && p (entry_in k)
