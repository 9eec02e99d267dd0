-- How a graph file is written: 'N vertices (16 bits), M edges (20 bits), N vertex labels (16 bits each)' with
-- a day after each, 'then M edges of source (16), label (8), target (16)'. Assumes nothing.
use mathlib.Core.List.{List, ◌++◌, flat_map}
use Rattle.std.specs.Prelude.{ℕ, length}
use Rattle.lists.specs.Lists.{range}
use Rattle.packed.specs.Encode.{bits_of, bytes_of}
use Rattle.graph.specs.Graph.{Edge, Graph, label_of, day_of}

unfoldable pub vertex_bits : Graph → ℕ → List ℕ
vertex_bits g v = bits_of 16 (label_of g v) ++ bits_of 16 (day_of g v)

unfoldable pub edge_bits : Edge → List ℕ
edge_bits e = bits_of 16 e.source ++ bits_of 8 e.label ++ bits_of 16 e.target

unfoldable pub graph_bits : Graph → List ℕ
graph_bits g =
    bits_of 16 g.vertices ++ bits_of 20 (length g.edges) ++ flat_map (vertex_bits g) (range g.vertices)
    ++ flat_map edge_bits g.edges

-- The file of a graph.
unfoldable pub encode : Graph → List ℕ
encode g = bytes_of (graph_bits g)
