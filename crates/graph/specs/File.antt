-- The graph file: 'N vertices (16 bits), M edges (20 bits), N vertex labels (16 bits each)' with an
-- inspection day of 16 bits after each, 'then M edges of source (16), label (8), target (16)', and the faults
-- for which Load refuses one. Assumes nothing.
use Rattle.std.specs.Prelude.{Bool, true, not, ◌&&◌, ◌||◌, List, [], ◌∷◌, map, ℕ, zero, suc, ◌+◌, ◌*◌, eqb, ltb, length}
use Rattle.lists.specs.Lists.{range}
use Rattle.lists.specs.Refusal.{refuse, first}
use Rattle.packed.specs.Field.{field_at, fill_set}
use Rattle.graph.specs.Graph.{Edge, Graph, forward, key}

-- N and M.
abbrev pub vertex_count : List ℕ → ℕ
vertex_count s = field_at s 0 16

abbrev pub edge_count : List ℕ → ℕ
edge_count s = field_at s 16 20

-- Where vertex v begins, with its label and then its day.
abbrev pub vertex_start : ℕ → ℕ
vertex_start v = 36 + 32 * v

abbrev pub label_in : List ℕ → ℕ → ℕ
label_in s v = field_at s (vertex_start v) 16

abbrev pub day_in : List ℕ → ℕ → ℕ
day_in s v = field_at s (vertex_start v + 16) 16

-- Where edge i begins.
abbrev pub edge_start : List ℕ → ℕ → ℕ
edge_start s i = 36 + 32 * vertex_count s + 40 * i

abbrev pub edge_in : List ℕ → ℕ → Edge
edge_in s i =
    record {
      source = field_at s (edge_start s i) 16;
      label = field_at s (edge_start s i + 16) 8;
      target = field_at s (edge_start s i + 24) 16;
    }

-- The graph that a file holds.
unfoldable pub graph_of : List ℕ → Graph
graph_of s =
    record {
      vertices = vertex_count s;
      labels = map (label_in s) (range (vertex_count s));
      days = map (day_in s) (range (vertex_count s));
      edges = map (edge_in s) (range (edge_count s));
    }

-- 'A file has 5 + 4N + 5M bytes.'
abbrev pub file_size : List ℕ → ℕ
file_size s = 5 + 4 * vertex_count s + 5 * edge_count s

-- '3 vertex outside 0 to N-1 or label 0.'
abbrev pub bad_edge : ℕ → Edge → Bool
bad_edge n e = not (ltb e.source n && ltb e.target n) || eqb e.label 0

-- Edges i - 1 and i ascend strictly; there is none before the first.
abbrev pub ascends : List ℕ → ℕ → Bool
ascends s zero = true
ascends s (suc i) = ltb (key forward (edge_in s i)) (key forward (edge_in s (suc i)))

-- '3 vertex outside or label 0, 4 not ascending', of one edge.
abbrev pub edge_fault : List ℕ → ℕ → ℕ
edge_fault s i = first (refuse 3 (bad_edge (vertex_count s) (edge_in s i)) ∷ refuse 4 (not (ascends s i)) ∷ [])

-- '1 the file is shorter than 5 bytes or than its own size; 2 longer, or a fill bit set; then by edge in file
-- order.'
unfoldable pub graph_fault : List ℕ → ℕ
graph_fault s =
    first
    (refuse 1 (ltb (length s) 5)
    ∷ refuse 1 (ltb (length s) (file_size s))
    ∷ refuse 2 (ltb (file_size s) (length s))
    ∷ refuse 2 (fill_set s (edge_start s (edge_count s)))
    ∷ map (edge_fault s) (range (edge_count s)))
