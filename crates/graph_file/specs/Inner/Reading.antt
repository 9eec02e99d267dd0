-- What Load's functions read of a graph file, and the parts of its fault. Assumes nothing.
use Rattle.std.specs.Prelude.{◌≡◌, List, [], ◌∷◌, map, ℕ, suc, ◌+◌, ◌*◌, ◌/◌, ◌%◌, ◌≤◌, ◌<◌, ltb, length}
use Rattle.lists.specs.Lists.{range}
use Rattle.lists.specs.Refusal.{refuse, first}
use Rattle.packed.specs.Field.{field_at, fill_set}
use Rattle.graph.specs.Graph.{Edge, max_graph_vertices, max_graph_edges, entry_span, forward, key}
use Rattle.graph.specs.File.{vertex_count, edge_count, vertex_start, edge_start, file_size, bad_edge, edge_fault}

-- A file of n vertices that is not shorter than its own size. Its counts fit 16 and 20 bits, as those of
-- every file do.
pub record Whole (s : List ℕ) (n : ℕ) : Type 0 where
  pub vertices : n ≡ vertex_count s
  pub there : file_size s ≤ length s
  pub few_vertices : n < suc max_graph_vertices
  pub few_edges : edge_count s < suc max_graph_edges

-- A field of vertex v: 16 bits, o bytes past the vertex's start.
abbrev pub vertex_field : List ℕ → ℕ → ℕ → ℕ
vertex_field s o v = field_at s (vertex_start v + 8 * o) 16

-- The edge of a source and a forward entry.
abbrev pub edge_with : ℕ → ℕ → Edge
edge_with s e = record { source = s; label = e / entry_span; target = e % entry_span }

-- The fault of an edge in a graph of n vertices, whose key is to be at least `least`.
abbrev pub fault_from : ℕ → ℕ → Edge → ℕ
fault_from n least e = first (refuse 3 (bad_edge n e) ∷ refuse 4 (ltb (key forward e) least) ∷ [])

-- The fault of a file's length and fill bits.
unfoldable pub graph_length_fault : List ℕ → ℕ
graph_length_fault s =
    first
    (refuse 1 (ltb (length s) 5)
    ∷ refuse 1 (ltb (length s) (file_size s))
    ∷ refuse 2 (ltb (file_size s) (length s))
    ∷ refuse 2 (fill_set s (edge_start s (edge_count s)))
    ∷ [])

-- The first fault of an edge.
unfoldable pub graph_edges_fault : List ℕ → ℕ
graph_edges_fault s = first (map (edge_fault s) (range (edge_count s)))
