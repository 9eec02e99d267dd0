-- Applying a change file and then its reverse gives the old words back. Assumes nothing.
use mathlib.Core.Path.{◌≡◌, refl, sym, ◌∙◌, ap, ap₂}
use mathlib.Core.Bool.{true, not}
use mathlib.Core.List.{List, ◌++◌, map, map-map, map-id}
use Prim.Native.Nat.{ℕ, ◌≤◌, ◌<◌}
use native.Mathlib.Omega.{arith}
use lib.Dec.{ltb}
use lib.ListN.{length, take, drop, length-map}
use lib.Seq.{take_at}
use borrow.Author.Tests.{le-ltb}
use Rattle.lists.specs.Lists.{all, ascending}
use Rattle.lists.specs.Refusal.{refuse}
use Rattle.lists.proofs.Faults.{first-cons, first_one, zero-refuse}
use Rattle.lists.proofs.Count.{all_map}
use Rattle.lists.proofs.Maps.{map-under}
use Rattle.graph.specs.Graph.{Edge, Graph, forward, key}
use Rattle.graph.specs.Store.{graph_in, store_of, store_size}
use Rattle.graph.proofs.WellFormed.{fitting}
use Rattle.graph.proofs.Parts.{length-store}
use Rattle.graph.proofs.Loads.{store-formed}
use Rattle.change_file.specs.File.{Change, changes_of, change_fault}
use Rattle.changes.specs.Edit.{key_edge, keys_of, edited_keys, applies, apply_changes, edit_fault, edited_graph, apply_fault, changed_store}
use Rattle.changes.specs.Claims.{AsLoaded, turned, ReverseOf, Undone, Reverses}
use Rattle.changes.proofs.EditedGraph.{Applied, edge-key, key-edge, applied-keys}
use Rattle.changes.proofs.Filled.{applied}
use Rattle.changes.proofs.Answers.{accepted-all, store_is}
use Rattle.changes.proofs.Loaded.{loads-edited}
use Rattle.changes.proofs.Reversed.{keys-turned, turned-apply, edited-back}
use Rattle.changes.proofs.Encoded.{encode, encode-bytes, encode-read, encode-accepted, changes-few}

module _ (old s store : List ℕ) (z : apply_fault old s (length store) ≡ 0) where
  can : Applied (graph_in old) (changes_of s)
  can = applied (accepted-all old s (length store) z refl refl refl)

  loaded : AsLoaded old s store
  loaded = loads-edited old s store z

  new-keys : keys_of (edited_graph old s) ≡ edited_keys (keys_of (graph_in old)) (changes_of s)
  unfolding apply_changes
  new-keys =
      map-map (key forward) key_edge (edited_keys (keys_of (graph_in old)) (changes_of s)) ∙ simp edge-key (map-id (edited_keys (keys_of (graph_in old)) (changes_of s)))

  edges-back : map key_edge (edited_keys (keys_of (edited_graph old s)) (map turned (changes_of s))) ≡ (graph_in old).edges
  edges-back =
      ap (λ (ks : List ℕ). map key_edge (edited_keys ks (map turned (changes_of s)))) new-keys
      ∙ ap (map key_edge) (edited-back (keys_of (graph_in old)) (changes_of s) can.formed.edges_ascend can.changes_ascend can.all_apply)
      ∙ map-map key_edge (key forward) (graph_in old).edges
      ∙ map-under (fitting (graph_in old).vertices) (λ (e : Edge). key_edge (key forward e)) (λ (e : Edge). e) (graph_in old).edges can.formed.edges_fit
      (key-edge (graph_in old) can.formed)
      ∙ map-id (graph_in old).edges

  graph-back : apply_changes (edited_graph old s) (map turned (changes_of s)) ≡ graph_in old
  unfolding apply_changes
  graph-back = λ i. record { vertices = (graph_in old).vertices; labels = (graph_in old).labels; days = (graph_in old).days; edges = edges-back i }

  all_apply : all (applies (keys_of (edited_graph old s))) (map turned (changes_of s)) ≡ true
  all_apply =
      ap (λ (ks : List ℕ). all (applies ks) (map turned (changes_of s))) (applied-keys (graph_in old) (changes_of s) can)
      ∙ turned-apply (keys_of (graph_in old)) (changes_of s) can.formed.edges_ascend can.changes_ascend can.all_apply

  -- There is one.
  one-back : (back : List ℕ) × ReverseOf old s back × (all (λ (b : ℕ). ltb b 256) back ≡ true)
  one-back =
      let n : ℕ = (graph_in old).vertices in
      let cs : List Change = map turned (changes_of s) in
      let low : n < 65536 = can.formed.few_vertices in
      let short : length cs < 1048576 = omega (arith, length-map (changes_of s) turned, changes-few s) in
      let fit : all (λ (c : Change). fitting n c.edge) cs ≡ true = all_map (λ (c : Change). fitting n c.edge) turned (changes_of s) ∙ can.changes_fit in (
        encode cs,
        record { its_changes = encode-read n low cs short fit; accepted = encode-accepted n low cs short fit (ap ascending (keys-turned (changes_of s)) ∙ can.changes_ascend) },
        encode-bytes cs,
      )

  -- Whichever it is.
  module _ (back : List ℕ) (r : ReverseOf old s back) where
    edited-is : edited_graph (changed_store old s store) back ≡ graph_in old
    edited-is = ap₂ apply_changes loaded.spells r.its_changes ∙ graph-back

    edits-none : edit_fault (graph_in (changed_store old s store)) (changes_of back) ≡ 0
    unfolding edit_fault
    edits-none = ap₂ (λ (g : Graph) (cs : List Change). refuse 28 (not (all (applies (keys_of g)) cs))) loaded.spells r.its_changes ∙ rw all_apply

    vertices-kept : change_fault (graph_in (changed_store old s store)).vertices back ≡ 0
    unfolding apply_changes
    vertices-kept = ap (λ (g : Graph). change_fault g.vertices back) loaded.spells ∙ r.accepted

    few : refuse 29 (ltb 1048575 (length (edited_graph (changed_store old s store) back).edges)) ≡ 0
    few =
        ap (λ (g : Graph). refuse 29 (ltb 1048575 (length g.edges))) edited-is
        ∙ zero-refuse 29 (ltb 1048575 (length (graph_in old).edges)) (le-ltb 1048575 (length (graph_in old).edges) (omega (arith, can.formed.few_edges)))

    fault-is : (room : ℕ) → apply_fault (changed_store old s store) back room ≡ refuse 5 (ltb room (store_size (graph_in old)))
    unfolding apply_fault
    fault-is room =
        first-cons _ _ loaded.not_refused ∙ first-cons _ _ vertices-kept ∙ first-cons _ _ edits-none ∙ first-cons _ _ few ∙ first_one _
        ∙ ap (λ (g : Graph). refuse 5 (ltb room (store_size g))) edited-is

    words_back : (last : List ℕ) → store_size (graph_in old) ≤ length last
        → take (store_size (graph_in old)) (changed_store (changed_store old s store) back last) ≡ take (store_size (graph_in old)) old
    words_back last l =
        let size : ℕ = store_size (graph_in old) in
        ap (take size)
        (sym (store_is (changed_store old s store) back last (fault-is (length last) ∙ zero-refuse 5 (ltb (length last) size) (le-ltb (length last) size l)))
        ∙ ap (λ (g : Graph). store_of g ++ drop (store_size g) last) edited-is)
        ∙ take_at (store_of (graph_in old)) (drop size last) size (length-store (graph_in old) can.formed.described)
        ∙ sym (store-formed old (accepted-all old s (length store) z refl refl refl).store).1

  undone : Undone old s store
  undone = record { one = one-back; refused = fault-is; words = words_back }

pub reverses : (old s store : List ℕ) → Reverses old s store
reverses old s store z = undone old s store z
