-- The graph file that is not refused, as facts, and that it holds a well-formed graph. Assumes nothing.
use mathlib.Core.Path.{◌≡◌, refl, sym, ◌∙◌, ap}
use mathlib.Core.Bool.{true, false, not}
use mathlib.Core.List.{List, map, map-map}
use Prim.Native.Nat.{ℕ, zero, suc, ◌+◌, ◌≤◌, ◌<◌}
use native.Mathlib.Omega.{arith}
use lib.Dec.{ltb}
use lib.ListN.{length, length-map}
use borrow.Author.Tests.{ltb-true, lt-ltb, le-ltb, ltb-false}
use Rattle.lists.specs.Lists.{range, all, ascending}
use Rattle.lists.specs.Refusal.{first}
use Rattle.lists.proofs.Tests.{and_l, and_both, not-true, not-false}
use Rattle.lists.proofs.All.{length-range, all-range, all-at}
use Rattle.lists.proofs.Count.{all_map}
use Rattle.lists.proofs.Faults.{first_head, first_tail, first-cons, first-each, each_first, refuse-zero, zero-refuse}
use Rattle.lists.proofs.Maps.{ascending-image, image-ascending}
use Rattle.packed.specs.Field.{fill_set}
use Rattle.packed.proofs.Laws.{field_lt}
use Rattle.graph.specs.Graph.{forward, key}
use Rattle.graph.specs.File.{graph_of, graph_fault, vertex_count, edge_count, vertex_start, label_in, day_in, edge_start, edge_in, file_size, bad_edge, ascends, edge_fault}
use Rattle.graph.specs.Store.{well_formed}
use Rattle.graph.proofs.WellFormed.{WellFormed, fitting, formed-well}

-- A file that Load accepts.
pub record Accepted (s : List ℕ) : Type 0 where
  pub sized : length s ≡ file_size s
  pub filled : fill_set s (edge_start s (edge_count s)) ≡ false
  pub edges_good : (i : ℕ) → i < edge_count s → bad_edge (vertex_count s) (edge_in s i) ≡ false
  pub edges_rise : (i : ℕ) → i < edge_count s → ascends s i ≡ true

pub accepted : (s : List ℕ) → graph_fault s ≡ 0 → Accepted s
unfolding graph_fault
accepted s e =
    let e₁ = first_tail _ _ e in
    let e₂ = first_tail _ _ e₁ in
    let e₃ = first_tail _ _ e₂ in
    let edges = first-each (edge_fault s) (edge_count s) (first_tail _ _ e₃) in
    let short : file_size s ≤ length s = ltb-false (length s) (file_size s) (refuse-zero 0 _ (first_head _ _ e₁)) in
    let long : length s ≤ file_size s = ltb-false (file_size s) (length s) (refuse-zero 1 _ (first_head _ _ e₂)) in
    record {
      sized = omega arith;
      filled = refuse-zero 1 _ (first_head _ _ e₃);
      edges_good = λ i h. refuse-zero 2 _ (first_head _ _ (edges i h));
      edges_rise = λ i h. not-false (ascends s i) (refuse-zero 3 _ (first_head _ _ (first_tail _ _ (edges i h))));
    }

edge-accepts : (s : List ℕ) (i : ℕ) → bad_edge (vertex_count s) (edge_in s i) ≡ false → ascends s i ≡ true → edge_fault s i ≡ 0
unfolding first
edge-accepts s i good rise = rw (good, rise)

pub accepts : (s : List ℕ) → Accepted s → graph_fault s ≡ 0
unfolding graph_fault
accepts s a =
    first-cons _ _ (zero-refuse 1 _ (le-ltb (length s) 5 (omega arith)))
    ∙ first-cons _ _ (zero-refuse 1 _ (le-ltb (length s) (file_size s) (omega arith)))
    ∙ first-cons _ _ (zero-refuse 2 _ (le-ltb (file_size s) (length s) (omega arith)))
    ∙ first-cons _ _ (zero-refuse 2 _ a.filled)
    ∙ each_first (edge_fault s) (edge_count s)
    (λ i h. edge-accepts s i (a.edges_good i h) (a.edges_rise i h))

pub file-formed : (s : List ℕ) → Accepted s → WellFormed (graph_of s)
unfolding graph_of
file-formed s a =
    record {
      few_vertices = field_lt s 0 16;
      few_edges = rw (length-map, length-range) (field_lt s 16 20);
      described =
          (length-map (range (vertex_count s)) _ ∙ length-range (vertex_count s), length-map (range (vertex_count s)) _ ∙ length-range (vertex_count s));
      labels-fit =
          all_map (λ (l : ℕ). ltb l 65536) (label_in s) (range (vertex_count s))
          ∙ all-range _ (vertex_count s) (λ v h. lt-ltb _ 65536 (field_lt s (vertex_start v) 16));
      days-fit =
          all_map (λ (t : ℕ). ltb t 65536) (day_in s) (range (vertex_count s))
          ∙ all-range _ (vertex_count s) (λ v h. lt-ltb _ 65536 (field_lt s (vertex_start v + 16) 16));
      edges_fit =
          all_map (fitting (vertex_count s)) (edge_in s) (range (edge_count s))
          ∙ all-range _ (edge_count s)
          (λ i h. and_both _ _ (ap not (a.edges_good i h)) (lt-ltb _ 256 (field_lt s (edge_start s i + 16) 8)));
      edges_ascend =
          ap ascending (map-map (key forward) (edge_in s) (range (edge_count s)))
          ∙ ascending-image (λ (i : ℕ). key forward (edge_in s i)) (edge_count s) (λ i h. ltb-true _ _ (a.edges_rise (suc i) h));
    }

-- A file of its own size, with no fill bit set, that holds a well-formed graph is accepted.
pub formed-file : (s : List ℕ) → length s ≡ file_size s → fill_set s (edge_start s (edge_count s)) ≡ false → WellFormed (graph_of s) → Accepted s
unfolding graph_of
formed-file s size fill w =
    record {
      sized = size;
      filled = fill;
      edges_good = λ i h. not-true _ (and_l _ _ (all-at _ (edge_count s) fits i h));
      edges_rise = rise;
    }
  where
    fits : all (λ (i : ℕ). fitting (vertex_count s) (edge_in s i)) (range (edge_count s)) ≡ true
    fits = sym (all_map (fitting (vertex_count s)) (edge_in s) (range (edge_count s))) ∙ w.edges_fit

    rise : (i : ℕ) → i < edge_count s → ascends s i ≡ true
    rise zero h = refl
    rise (suc i) h = lt-ltb _ _ (image-ascending (λ (j : ℕ). key forward (edge_in s j)) (edge_count s) up i h)
      where
        up : ascending (map (λ (j : ℕ). key forward (edge_in s j)) (range (edge_count s))) ≡ true
        up = ap ascending (sym (map-map (key forward) (edge_in s) (range (edge_count s)))) ∙ w.edges_ascend

-- The graph of an accepted file is well-formed.
pub file-well-formed : (s : List ℕ) → graph_fault s ≡ 0 → well_formed (graph_of s) ≡ true
file-well-formed s e = formed-well (graph_of s) (file-formed s (accepted s e))
