-- The query file: 'n vertices (4 bits, 2 to 8), m edges (5 bits, 1 to 24), n vertex labels (16)', each
-- 'followed by a first and a last day (16 bits each)', 'then m edges of from (3), to (3), label (8),
-- ascending strictly', and at its end 'a pair count (4 bits) and pairs of vertices (3 bits each)'; and the
-- faults for which Read query refuses one. Assumes nothing.
use Rattle.std.specs.Prelude.{Bool, true, not, ◌&&◌, ◌||◌, List, [], ◌∷◌, ◌++◌, map, ℕ, zero, suc, ◌+◌, ◌*◌, eqb, leb, ltb, length}
use Rattle.lists.specs.Lists.{range}
use Rattle.lists.specs.Refusal.{refuse, first}
use Rattle.packed.specs.Field.{field_at, bytes_for, fill_set}
use Rattle.graph.specs.Graph.{Edge, max_edge_label}
use Rattle.query.specs.Query.{Pair, Query, connected}

abbrev pub min_vertices : ℕ
min_vertices = 2

abbrev pub max_vertices : ℕ
max_vertices = 8

abbrev pub min_edges : ℕ
min_edges = 1

abbrev pub max_edges : ℕ
max_edges = 24

abbrev pub max_pairs : ℕ
max_pairs = 15

-- n and m.
abbrev pub vertex_count : List ℕ → ℕ
vertex_count s = field_at s 0 4

abbrev pub edge_count : List ℕ → ℕ
edge_count s = field_at s 4 5

-- Where vertex w begins, with its label and then its first and its last day.
abbrev pub vertex_start : ℕ → ℕ
vertex_start w = 9 + 48 * w

abbrev pub label_in : List ℕ → ℕ → ℕ
label_in s w = field_at s (vertex_start w) 16

abbrev pub first_in : List ℕ → ℕ → ℕ
first_in s w = field_at s (vertex_start w + 16) 16

abbrev pub last_in : List ℕ → ℕ → ℕ
last_in s w = field_at s (vertex_start w + 32) 16

-- Where edge i begins.
abbrev pub edge_start : List ℕ → ℕ → ℕ
edge_start s i = 9 + 48 * vertex_count s + 14 * i

abbrev pub edge_in : List ℕ → ℕ → Edge
edge_in s i =
    record {
      source = field_at s (edge_start s i) 3;
      target = field_at s (edge_start s i + 3) 3;
      label = field_at s (edge_start s i + 6) 8;
    }

-- Where the edges end: how many pairs there are, where pair i begins, and the pair.
abbrev pub pair_count : List ℕ → ℕ
pair_count s = field_at s (edge_start s (edge_count s)) 4

abbrev pub pair_start : List ℕ → ℕ → ℕ
pair_start s i = edge_start s (edge_count s) + 4 + 6 * i

abbrev pub pair_in : List ℕ → ℕ → Pair
pair_in s i = record { low = field_at s (pair_start s i) 3; high = field_at s (pair_start s i + 3) 3 }

-- The query that a file holds.
unfoldable pub query_of : List ℕ → Query
query_of s =
    record {
      vertices = vertex_count s;
      labels = map (label_in s) (range (vertex_count s));
      firsts = map (first_in s) (range (vertex_count s));
      lasts = map (last_in s) (range (vertex_count s));
      edges = map (edge_in s) (range (edge_count s));
      pairs = map (pair_in s) (range (pair_count s));
    }

-- '8 n or m outside its limits.'
abbrev pub outside_limits : List ℕ → Bool
outside_limits s =
    not (leb min_vertices (vertex_count s) && leb (vertex_count s) max_vertices
    && leb min_edges (edge_count s) && leb (edge_count s) max_edges)

-- The bytes up to the pair count, and those of the whole file.
abbrev pub counted_size : List ℕ → ℕ
counted_size s = bytes_for (pair_start s 0)

abbrev pub file_size : List ℕ → ℕ
file_size s = bytes_for (pair_start s (pair_count s))

-- '25, a query vertex whose first day is above its last', of one vertex.
abbrev pub day_fault : List ℕ → ℕ → ℕ
day_fault s w = refuse 25 (ltb (last_in s w) (first_in s w))

-- '9 a vertex not below n, equal ends.' No edge label is turned away.
abbrev pub bad_edge : ℕ → Edge → Bool
bad_edge n e = not (ltb e.source n && ltb e.target n) || eqb e.source e.target

-- (from, to, label) as one number.
abbrev pub key : Edge → ℕ
key e = (e.source * max_vertices + e.target) * suc max_edge_label + e.label

-- Edges i - 1 and i ascend strictly; there is none before the first.
abbrev pub ascends : List ℕ → ℕ → Bool
ascends s zero = true
ascends s (suc i) = ltb (key (edge_in s i)) (key (edge_in s (suc i)))

-- '9 a vertex not below n, equal ends, 10 not ascending', of one edge.
abbrev pub edge_fault : List ℕ → ℕ → ℕ
edge_fault s i = first (refuse 9 (bad_edge (vertex_count s) (edge_in s i)) ∷ refuse 10 (not (ascends s i)) ∷ [])

-- '26, a pair with equal or unknown vertices or not ascending strictly', of one pair.
abbrev pub bad_pair : ℕ → Pair → Bool
bad_pair n p = not (ltb p.low n && ltb p.high n) || eqb p.low p.high

abbrev pub pair_key : Pair → ℕ
pair_key p = p.low * max_vertices + p.high

abbrev pub pair_ascends : List ℕ → ℕ → Bool
pair_ascends s zero = true
pair_ascends s (suc i) = ltb (pair_key (pair_in s i)) (pair_key (pair_in s (suc i)))

abbrev pub pair_fault : List ℕ → ℕ → ℕ
pair_fault s i = refuse 26 (bad_pair (vertex_count s) (pair_in s i) || not (pair_ascends s i))

-- '6 under 2 bytes; 8 n or m outside its limits; 6 shorter than its own size', also where it 'ends before its
-- pair count or pairs do'; '7 longer, or a fill bit set'; 25 'after the lengths and before the edges'; 'then
-- by edge, 9 .., 10 ..'; 26 'after all edges and before 11'; '11 not connected.'
unfoldable pub query_fault : List ℕ → ℕ
query_fault s =
    first
    (refuse 6 (ltb (length s) 2)
    ∷ refuse 8 (outside_limits s)
    ∷ refuse 6 (ltb (length s) (counted_size s))
    ∷ refuse 6 (ltb (length s) (file_size s))
    ∷ refuse 7 (ltb (file_size s) (length s))
    ∷ refuse 7 (fill_set s (pair_start s (pair_count s)))
    ∷ (map (day_fault s) (range (vertex_count s))
    ++ (map (edge_fault s) (range (edge_count s))
    ++ (map (pair_fault s) (range (pair_count s)) ++ (refuse 11 (not (connected (query_of s))) ∷ [])))))
