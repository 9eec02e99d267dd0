-- The encoder's round trip: the file of a well-formed graph is accepted and holds that graph. Assumes nothing.
use mathlib.Core.Path.{◌≡◌, refl, sym, ◌∙◌, ap, subst}
use mathlib.Core.Bool.{true, false}
use mathlib.Core.List.{List, [], ◌++◌, map, flat_map, append_assoc, append-nil}
use Prim.Native.Nat.{ℕ, ◌+◌, ◌*◌, ◌≤◌, ◌<◌}
use native.Mathlib.Nat.{add-zero}
use native.Mathlib.Omega.{arith}
use lib.Dec.{ltb}
use lib.ListN.{length, get_or, length-append}
use borrow.Author.Tests.{ltb-true, lt-ltb}
use Rattle.lists.specs.Lists.{range, all}
use Rattle.lists.proofs.All.{length-range, get_or-range, all_get_d, all-range}
use Rattle.lists.proofs.Count.{all_map}
use Rattle.lists.proofs.Maps.{map-indices}
use Rattle.packed.specs.Field.{field_at, fill_set, bytes_for}
use Rattle.packed.specs.Encode.{bits_of, bytes_of, number, bit_in}
use Rattle.packed.proofs.Number.{number_lt}
use Rattle.packed.proofs.Encoded.{bit_in-lt, length-bytesOf, fill-bytesOf}
use Rattle.packed.proofs.RoundTrip.{length-bitsOf, length-records, number_put, field_put, field-record}
use Rattle.graph.specs.Graph.{Edge, Graph, label_of, day_of}
use Rattle.graph.specs.File.{graph_of, graph_fault, vertex_count, edge_count, vertex_start, label_in, day_in, edge_start, edge_in, file_size}
use Rattle.graph.specs.Inner.Encode.{vertex_bits, edge_bits, graph_bits, encode}
use Rattle.graph.specs.Store.{well_formed}
use Rattle.graph.proofs.WellFormed.{WellFormed, Fitting, fitting, fitting-edge, well-formed}
use Rattle.graph.proofs.FileGraph.{accepts, formed-file}

-- ---- an edge

pub length-edge_bits : (e : Edge) → length (edge_bits e) ≡ 40
unfolding edge_bits
length-edge_bits e = simp (length-append, length-bitsOf)

module _ (n : ℕ) (few : n < 65536) (e : Edge) (f : Fitting n e) where
  source-read : number (bit_in (edge_bits e)) 0 16 ≡ e.source
  unfolding edge_bits
  source-read =
      ap (λ (bits : List ℕ). number (bit_in bits) 0 16) (append_assoc (bits_of 16 e.source) (bits_of 8 e.label) (bits_of 16 e.target))
      ∙ number_put [] 16 e.source (bits_of 8 e.label ++ bits_of 16 e.target) 0 refl (omega arith)

  label-read : number (bit_in (edge_bits e)) 16 8 ≡ e.label
  unfolding edge_bits
  label-read = number_put (bits_of 16 e.source) 8 e.label (bits_of 16 e.target) 16 (length-bitsOf 16 e.source) f.label_fits

  target-read : number (bit_in (edge_bits e)) 24 16 ≡ e.target
  unfolding edge_bits
  target-read =
      ap (λ (bits : List ℕ). number (bit_in bits) 24 16) (sym (append-nil (edge_bits e)))
      ∙ number_put (bits_of 16 e.source ++ bits_of 8 e.label) 16 e.target [] 24 (simp (length-append, length-bitsOf)) (omega arith)

-- ---- a vertex

pub length-vertex_bits : (g : Graph) (v : ℕ) → length (vertex_bits g v) ≡ 32
unfolding vertex_bits
length-vertex_bits g v = simp (length-append, length-bitsOf)

vertex-label : (g : Graph) (v : ℕ) → label_of g v < 65536 → number (bit_in (vertex_bits g v)) 0 16 ≡ label_of g v
unfolding vertex_bits
vertex-label g v h = number_put [] 16 (label_of g v) (bits_of 16 (day_of g v)) 0 refl h

vertex-day : (g : Graph) (v : ℕ) → day_of g v < 65536 → number (bit_in (vertex_bits g v)) 16 16 ≡ day_of g v
unfolding vertex_bits
vertex-day g v h =
    ap (λ (bits : List ℕ). number (bit_in bits) 16 16) (sym (append-nil (vertex_bits g v)))
    ∙ number_put (bits_of 16 (label_of g v)) 16 (day_of g v) [] 16 (length-bitsOf 16 (label_of g v)) h

-- ---- the file

-- The vertices and the edges, as bits.
abbrev vertices_bits : Graph → List ℕ
vertices_bits g = flat_map (vertex_bits g) (range g.vertices)

abbrev edges_bits : Graph → List ℕ
edges_bits g = flat_map edge_bits g.edges

pub length-graph_bits : (g : Graph) → length (graph_bits g) ≡ 36 + 32 * g.vertices + 40 * length g.edges
unfolding graph_bits
length-graph_bits g =
    simp (length-append, length-bitsOf, length-records (vertex_bits g) 32 (length-vertex_bits g), length-range, length-records edge_bits 40 length-edge_bits)

-- What stands past the end of a list of edges; nothing depends on it.
none : Edge
none = record { source = 0; label = 0; target = 0 }

module _ (g : Graph) (w : WellFormed g) where
  vertices-read : vertex_count (encode g) ≡ g.vertices
  unfolding encode graph_bits
  vertices-read =
      let rest : List ℕ = bits_of 20 (length g.edges) ++ vertices_bits g ++ edges_bits g in
      let parts : graph_bits g ≡ bits_of 16 g.vertices ++ rest = simp append_assoc in
      ap (λ (bits : List ℕ). field_at (bytes_of bits) 0 16) parts
      ∙ field_put [] 16 g.vertices rest 0 refl w.few_vertices

  edges-read : edge_count (encode g) ≡ length g.edges
  unfolding encode graph_bits
  edges-read =
      ap (λ (bits : List ℕ). field_at (bytes_of bits) 16 20)
      (append_assoc (bits_of 16 g.vertices ++ bits_of 20 (length g.edges)) (vertices_bits g) (edges_bits g))
      ∙ field_put (bits_of 16 g.vertices) 20 (length g.edges) (vertices_bits g ++ edges_bits g) 16 (length-bitsOf 16 g.vertices)
      w.few_edges

  -- A field of vertex v, at bits past its start.
  vertex-field : (v at k : ℕ) → v < g.vertices → at + k ≤ 32
      → field_at (encode g) (36 + (32 * v + at)) k ≡ number (bit_in (vertex_bits g v)) at k
  unfolding encode graph_bits
  vertex-field v at k h l =
      field-record (bits_of 16 g.vertices ++ bits_of 20 (length g.edges)) (vertex_bits g) (range g.vertices) (edges_bits g) 36 32
      (simp (length-append, length-bitsOf)) (length-vertex_bits g) 0 v at k (rw length-range h) l
      ∙ ap (λ (x : ℕ). number (bit_in (vertex_bits g x)) at k) (get_or-range g.vertices v h)

  label_at : (v : ℕ) → v < length g.labels → label_in (encode g) v ≡ label_of g v
  label_at v h =
      let from : vertex_start v ≡ 36 + (32 * v + 0) = omega arith in
      ap (λ (at : ℕ). field_at (encode g) at 16) from
      ∙ vertex-field v 0 16 (rw w.described.0 at h) (omega arith)
      ∙ vertex-label g v (ltb-true _ 65536 (all_get_d (λ (l : ℕ). ltb l 65536) g.labels v 0 h w.labels-fit))

  day-at : (v : ℕ) → v < length g.days → day_in (encode g) v ≡ day_of g v
  day-at v h =
      let from : vertex_start v + 16 ≡ 36 + (32 * v + 16) = omega arith in
      ap (λ (at : ℕ). field_at (encode g) at 16) from
      ∙ vertex-field v 16 16 (rw w.described.1 at h) (omega arith)
      ∙ vertex-day g v (ltb-true _ 65536 (all_get_d (λ (t : ℕ). ltb t 65536) g.days v 0 h w.days-fit))

  -- A field of edge i, at bits past its start.
  edge-field : (d : Edge) (i at k : ℕ) → i < length g.edges → at + k ≤ 40
      → field_at (encode g) (36 + 32 * g.vertices + (40 * i + at)) k ≡ number (bit_in (edge_bits (get_or g.edges i d))) at k
  unfolding encode graph_bits
  edge-field d i at k h l =
      let pre : List ℕ = bits_of 16 g.vertices ++ bits_of 20 (length g.edges) ++ vertices_bits g in
      ap (λ (bits : List ℕ). field_at (bytes_of bits) (36 + 32 * g.vertices + (40 * i + at)) k) (sym (append-nil (graph_bits g)))
      ∙ field-record pre edge_bits g.edges [] (36 + 32 * g.vertices) 40
      (simp (length-append, length-bitsOf, length-records (vertex_bits g) 32 (length-vertex_bits g), length-range)) length-edge_bits d i at k h l

  edge-at : (d : Edge) (i : ℕ) → i < length g.edges → edge_in (encode g) i ≡ get_or g.edges i d
  edge-at d i h =
      λ j. record { source = source j; label = label j; target = target j }
    where
      e : Edge
      e = get_or g.edges i d

      fits : Fitting g.vertices e
      fits = fitting-edge g.vertices e (all_get_d (fitting g.vertices) g.edges i d h w.edges_fit)

      read : (at k : ℕ) → at + k ≤ 40 → field_at (encode g) (edge_start (encode g) i + at) k ≡ number (bit_in (edge_bits e)) at k
      read at k l =
          let place : edge_start (encode g) i + at ≡ 36 + 32 * g.vertices + (40 * i + at) = rw vertices-read (omega arith) in
          ap (λ (b : ℕ). field_at (encode g) b k) place ∙ edge-field d i at k h l

      source : field_at (encode g) (edge_start (encode g) i) 16 ≡ e.source
      source =
          ap (λ (b : ℕ). field_at (encode g) b 16) (sym (add-zero (edge_start (encode g) i))) ∙ read 0 16 (omega arith)
          ∙ source-read g.vertices w.few_vertices e fits

      label : field_at (encode g) (edge_start (encode g) i + 16) 8 ≡ e.label
      label = read 16 8 (omega arith) ∙ label-read g.vertices w.few_vertices e fits

      target : field_at (encode g) (edge_start (encode g) i + 24) 16 ≡ e.target
      target = read 24 16 (omega arith) ∙ target-read g.vertices w.few_vertices e fits

  graph-read : graph_of (encode g) ≡ g
  unfolding graph_of
  graph-read = λ j. record { vertices = vertices-read j; labels = labels j; days = days j; edges = edges j }
    where
      labels : map (label_in (encode g)) (range (vertex_count (encode g))) ≡ g.labels
      labels =
          ap (λ (n : ℕ). map (label_in (encode g)) (range n)) (vertices-read ∙ sym w.described.0)
          ∙ map-indices (label_in (encode g)) g.labels 0 label_at

      days : map (day_in (encode g)) (range (vertex_count (encode g))) ≡ g.days
      days =
          ap (λ (n : ℕ). map (day_in (encode g)) (range n)) (vertices-read ∙ sym w.described.1)
          ∙ map-indices (day_in (encode g)) g.days 0 day-at

      edges : map (edge_in (encode g)) (range (edge_count (encode g))) ≡ g.edges
      edges =
          ap (λ (n : ℕ). map (edge_in (encode g)) (range n)) edges-read
          ∙ map-indices (edge_in (encode g)) g.edges none (edge-at none)

  length-bits : length (graph_bits g) ≡ edge_start (encode g) (edge_count (encode g))
  length-bits = rw (length-graph_bits, edges-read, vertices-read)

  file-accepted : graph_fault (encode g) ≡ 0
  unfolding encode
  file-accepted =
      accepts (encode g)
      (formed-file (encode g) size fill (subst WellFormed (sym graph-read) w))
    where
      fill : fill_set (encode g) (edge_start (encode g) (edge_count (encode g))) ≡ false
      fill = ap (fill_set (encode g)) (sym length-bits) ∙ fill-bytesOf (graph_bits g)

      size : length (encode g) ≡ file_size (encode g)
      size = length-bytesOf (graph_bits g) ∙ ap bytes_for length-bits ∙ omega arith

-- What is written is bytes,
pub encode-bytes : (g : Graph) → all (λ (b : ℕ). ltb b 256) (encode g) ≡ true
unfolding encode bytes_of
encode-bytes g =
    all_map (λ (b : ℕ). ltb b 256) (λ (i : ℕ). number (bit_in (graph_bits g)) (8 * i) 8) (range (bytes_for (length (graph_bits g))))
    ∙ all-range _ (bytes_for (length (graph_bits g))) (λ i h. lt-ltb _ 256 (number_lt (bit_in (graph_bits g)) (bit_in-lt (graph_bits g)) (8 * i) 8))

-- is accepted, and is read as it was written.
pub encode-accepted : (g : Graph) → well_formed g ≡ true → graph_fault (encode g) ≡ 0
encode-accepted g t = file-accepted g (well-formed g t)

pub encode-read : (g : Graph) → well_formed g ≡ true → graph_of (encode g) ≡ g
encode-read g t = graph-read g (well-formed g t)
