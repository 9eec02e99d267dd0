-- The faults of a graph file, part by part. Assumes nothing.
use mathlib.Core.Path.{◌≡◌, refl, sym, ◌∙◌, ap, ap₂}
use mathlib.Core.Bool.{Bool, not}
use mathlib.Core.List.{List, [], ◌∷◌, map, map-append}
use Prim.Native.Nat.{ℕ, zero, suc, ◌+◌, ◌/◌, ◌%◌, ◌≤◌, ◌<◌}
use native.Mathlib.Numerals.{add-one}
use native.Mathlib.Omega.{arith}
use lib.Dec.{ltb}
use lib.ListN.{length, length-map}
use borrow.Author.Tests.{ltb-true, lt-ltb, le-ltb, ltb-false, eq-eqb, ne_eqb}
use Rattle.lists.specs.Lists.{range}
use Rattle.lists.specs.Refusal.{refuse, first}
use Rattle.lists.proofs.Tests.{iff, not-true}
use Rattle.lists.proofs.All.{length-range}
use Rattle.lists.proofs.Faults.{first-append, first_head, first_tail, refuse-zero, first-left, first-stop}
use Rattle.packed.proofs.Laws.{field_lt}
use Rattle.graph.specs.Graph.{forward, entry, key}
use Rattle.graph.specs.File.{graph_of, graph_fault, edge_in, edge_fault, edge_count, vertex_count, file_size, bad_edge, ascends}
use Rattle.graph.specs.Store.{used_words, store_size, load_fault}
use Rattle.graph.proofs.Loads.{load_fits}
use Rattle.graph_file.specs.Inner.Reading.{Whole, edge_with, fault_from, graph_length_fault, graph_edges_fault}
use Rattle.graph_file.proofs.Entries.{entry-edge}

-- A fault of the length or of the fill bits comes before those of edges.
pub graph-length : (s : List ℕ) → (graph_length_fault s ≡ 0 → ⊥) → graph_fault s ≡ graph_length_fault s
unfolding graph_fault graph_length_fault
graph-length s h = first-left _ (map (edge_fault s) (range (edge_count s))) h

pub graph-edges : (s : List ℕ) → graph_length_fault s ≡ 0 → graph_fault s ≡ graph_edges_fault s
unfolding graph_fault graph_length_fault graph_edges_fault
graph-edges s e = first-append _ (map (edge_fault s) (range (edge_count s))) e

-- A file with no fault of its length is not shorter than its own size.
pub length-there : (s : List ℕ) → graph_length_fault s ≡ 0 → file_size s ≤ length s
unfolding graph_length_fault
length-there s e = ltb-false (length s) (file_size s) (refuse-zero 0 _ (first_head _ _ (first_tail _ _ e)))

pub file-whole : (s : List ℕ) {n : ℕ} → n ≡ vertex_count s → file_size s ≤ length s → Whole s n
file-whole s e h = record { vertices = e; there = h; few_vertices = rw e (field_lt s 0 16); few_edges = field_lt s 16 20 }

-- One more than the key of the edge before, 0 where there is none.
unfoldable pub least_key : List ℕ → ℕ → ℕ
least_key s zero = 0
least_key s (suc i) = suc (key forward (edge_in s i))

-- An edge ascends where its key is not below that.
rises : (s : List ℕ) (i : ℕ) → not (ascends s i) ≡ ltb (key forward (edge_in s i)) (least_key s i)
unfolding least_key
rises s zero = sym (le-ltb (key forward (edge_in s 0)) 0 (omega arith))
rises s (suc i) =
    let a : ℕ = key forward (edge_in s i) in
    let b : ℕ = key forward (edge_in s (suc i)) in
    iff (not (ltb a b)) (ltb b (suc a))
    (λ h. let l : b ≤ a = ltb-false a b (not-true (ltb a b) h) in lt-ltb b (suc a) (omega arith))
    (λ h. let l : b < suc a = ltb-true b (suc a) h in ap not (le-ltb a b (omega arith)))

pub edge-from : (s : List ℕ) (i : ℕ) → edge_fault s i ≡ fault_from (vertex_count s) (least_key s i) (edge_in s i)
edge-from s i =
    ap (λ (b : Bool). first (refuse 3 (bad_edge (vertex_count s) (edge_in s i)) ∷ refuse 4 b ∷ [])) (rises s i)

-- The edges before i are not at fault, and the next key is to be at least `least`.
pub record Faultless (s : List ℕ) (least i : ℕ) : Type 0 where
  pub key_before : least ≡ least_key s i
  pub none : first (map (edge_fault s) (range i)) ≡ 0

pub faultless-start : (s : List ℕ) → Faultless s 0 0
unfolding least_key range first
faultless-start s = record { key_before = refl; none = refl }

-- The fault of an edge by the tests in turn.
module _ (n least a e : ℕ) where
  pub fault-source : n ≤ a → 3 ≡ fault_from n least (edge_with a e)
  unfolding first
  fault-source h = simp (le-ltb a n h)

  module _ (s-in : a < n) where
    pub fault-target : n ≤ e % 65536 → 3 ≡ fault_from n least (edge_with a e)
    unfolding first
    fault-target h = simp (lt-ltb a n s-in, le-ltb (e % 65536) n h)

    module _ (t-in : e % 65536 < n) where
      pub fault-label : e / 65536 ≡ 0 → 3 ≡ fault_from n least (edge_with a e)
      unfolding first
      fault-label h = simp (lt-ltb a n s-in, lt-ltb (e % 65536) n t-in, eq-eqb (e / 65536) 0 h)

      module _ (labelled : e / 65536 ≡ 0 → ⊥) {k : ℕ} (its : k ≡ key forward (edge_with a e)) where
        pub fault-order : k < least → 4 ≡ fault_from n least (edge_with a e)
        unfolding first
        fault-order h = simp (lt-ltb a n s-in, lt-ltb (e % 65536) n t-in, ne_eqb (e / 65536) 0 labelled, lt-ltb (key forward (edge_with a e)) least (rw its at h))

        pub fault-none : least ≤ k → 0 ≡ fault_from n least (edge_with a e)
        unfolding first
        fault-none h = simp (lt-ltb a n s-in, lt-ltb (e % 65536) n t-in, ne_eqb (e / 65536) 0 labelled, le-ltb (key forward (edge_with a e)) least (rw its at h))

-- The source and the forward entry that the code has read of edge i.
pub record Read (s : List ℕ) (n least i a e : ℕ) : Type 0 where
  pub vertices : n ≡ vertex_count s
  pub earlier : Faultless s least i
  pub source : a ≡ (edge_in s i).source
  pub its_entry : e ≡ entry forward (edge_in s i)

module _ {s : List ℕ} {n least i a e : ℕ} (t : Read s n least i a e) where
  its-edge : edge_with a e ≡ edge_in s i
  its-edge = ap₂ edge_with t.source t.its_entry ∙ entry-edge s i

  its-fault : {r : ℕ} → r ≡ fault_from n least (edge_with a e) → r ≡ edge_fault s i
  its-fault f = f ∙ ap (fault_from n least) its-edge ∙ rw (t.vertices, t.earlier.key_before) (sym (edge-from s i))

  pub read-fault : {r : ℕ} → i < edge_count s → r ≡ fault_from n least (edge_with a e) → (r ≡ 0 → ⊥) → r ≡ graph_edges_fault s
  unfolding graph_edges_fault
  read-fault h f z = its-fault f ∙ sym (first-stop (edge_fault s) (edge_count s) i h t.earlier.none (λ j. z (its-fault f ∙ j)))

  pub read_more : {k : ℕ} → 0 ≡ fault_from n least (edge_with a e) → k ≡ key forward (edge_with a e) → Faultless s (k + 1) (i + 1)
  unfolding least_key range first
  read_more z f =
      rw (add-one i)
      (record {
        key_before = ap (λ (k : ℕ). k + 1) (f ∙ ap (key forward) its-edge) ∙ add-one _;
        none =
            ap first (map-append (edge_fault s) (range i) (i ∷ []))
            ∙ first-append (map (edge_fault s) (range i)) (edge_fault s i ∷ []) t.earlier.none ∙ rw (sym (its-fault z));
      })

-- ---- Load

pub length-edges : (s : List ℕ) → length (graph_of s).edges ≡ edge_count s
unfolding graph_of
length-edges s = length-map (range (edge_count s)) (edge_in s) ∙ length-range (edge_count s)

pub store_words : (s : List ℕ) → store_size (graph_of s) ≡ used_words (vertex_count s) (edge_count s)
unfolding graph_of
store_words s = ap (used_words (vertex_count s)) (length-edges s)

-- A fault of the file comes before the store's.
pub load-file : (s : List ℕ) (room : ℕ) → (graph_fault s ≡ 0 → ⊥) → load_fault s room ≡ graph_fault s
unfolding load_fault first
load-file s room h = rw (ne_eqb (graph_fault s) 0 h)

pub load-small : (s : List ℕ) (room : ℕ) → graph_fault s ≡ 0 → room < used_words (vertex_count s) (edge_count s) → load_fault s room ≡ 5
unfolding load_fault first
load-small s room e h = rw (eq-eqb (graph_fault s) 0 e, store_words s, lt-ltb room (used_words (vertex_count s) (edge_count s)) h)

pub load-holds : (s : List ℕ) (room : ℕ) → graph_fault s ≡ 0 → used_words (vertex_count s) (edge_count s) ≤ room → load_fault s room ≡ 0
load-holds s room e h = load_fits s room e (rw (store_words s) h)
