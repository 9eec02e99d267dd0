-- Parts of the query file and of Read query's refusal, which functions of the code answer one by one. Assumes
-- nothing.
use Rattle.std.specs.Prelude.{◌≡◌, false, not, ◌&&◌, ◌||◌, List, [], ◌∷◌, map, ℕ, ◌+◌, ◌*◌, ◌≤◌, leb, ltb, length}
use Rattle.lists.specs.Lists.{range}
use Rattle.lists.specs.Refusal.{refuse, first}
use Rattle.packed.specs.Field.{field_at, bits_in, bytes_for, fill_set}
use Rattle.graph.specs.Graph.{Edge}
use Rattle.query.specs.Query.{Pair}
use Rattle.query.specs.File.{min_vertices, max_vertices, min_edges, max_edges, vertex_count, edge_count, pair_count}
use Rattle.query.specs.File.{vertex_start, pair_start, outside_limits, counted_size, day_fault, key, bad_edge}
use Rattle.query.specs.File.{edge_fault, pair_key, bad_pair, pair_fault}

-- A field of part i of those that begin at a bit position and are `step` bits each: w bits, o bits past the
-- part's start.
abbrev pub part_field : List ℕ → ℕ → ℕ → ℕ → ℕ → ℕ → ℕ
part_field s at step o w i = field_at s (at + step * i + o) w

-- A field of vertex w: 16 bits, o bits past the vertex's start.
abbrev pub vertex_field : List ℕ → ℕ → ℕ → ℕ
vertex_field s o w = field_at s (vertex_start w + o) 16

-- A field of edge i, where the edges begin at a bit position: w bits, o bits past the edge's start.
abbrev pub edge_field : List ℕ → ℕ → ℕ → ℕ → ℕ → ℕ
edge_field s at o w i = field_at s (at + 14 * i + o) w

-- A field of pair i, where the pairs begin at a bit position: 3 bits, o bits past the pair's start.
abbrev pub pair_field : List ℕ → ℕ → ℕ → ℕ → ℕ
pair_field s at o i = field_at s (at + 6 * i + o) 3

-- '8 n or m outside its limits.'
abbrev pub limits_fault : ℕ → ℕ → ℕ
limits_fault n m = refuse 8 (not (leb min_vertices n && leb n max_vertices && leb min_edges m && leb m max_edges))

-- '6 shorter than its own size; 7 longer, or a fill bit set', of a file that is to have b bits.
abbrev pub size_fault : List ℕ → ℕ → ℕ
size_fault s b = first (refuse 6 (ltb (length s) (bytes_for b)) ∷ refuse 7 (ltb (bytes_for b) (length s))
    ∷ refuse 7 (fill_set s b) ∷ [])

-- '6 .. ends before its pair count' does, then the faults of its size.
unfoldable pub sizes_fault : List ℕ → ℕ
sizes_fault s = first (refuse 6 (ltb (length s) (counted_size s)) ∷ size_fault s (pair_start s (pair_count s))
    ∷ [])

-- The edge that begins at a bit position.
abbrev pub edge_from : List ℕ → ℕ → Edge
edge_from s at = record {
  source = field_at s at 3;
  target = field_at s (at + 3) 3;
  label = field_at s (at + 6) 8;
}

-- '9 ..' of an edge, and '10 not ascending' where its key is below the least that ascends.
abbrev pub key_fault : ℕ → ℕ → Edge → ℕ
key_fault n least e = first (refuse 9 (bad_edge n e) ∷ refuse 10 (ltb (key e) least) ∷ [])

-- The pair that begins at a bit position.
abbrev pub pair_from : List ℕ → ℕ → Pair
pair_from s at = record { low = field_at s at 3; high = field_at s (at + 3) 3 }

-- '26 ..' of a pair, which does not ascend where its key is below the least that does.
abbrev pub pair_key_fault : ℕ → ℕ → Pair → ℕ
pair_key_fault n least p = refuse 26 (bad_pair n p || ltb (pair_key p) least)

-- 25 of the first n vertices.
unfoldable pub query_days_fault : List ℕ → ℕ → ℕ
query_days_fault s n = first (map (day_fault s) (range n))

-- 'By edge, 9 .., 10 ..', of the first m edges.
unfoldable pub query_edges_fault : List ℕ → ℕ → ℕ
query_edges_fault s m = first (map (edge_fault s) (range m))

-- 26 of the first k pairs.
unfoldable pub query_pairs_fault : List ℕ → ℕ → ℕ
query_pairs_fault s k = first (map (pair_fault s) (range k))

-- The first fault but 11.
unfoldable pub query_file_fault : List ℕ → ℕ
query_file_fault s =
    first
    (refuse 6 (ltb (length s) 2)
    ∷ refuse 8 (outside_limits s)
    ∷ sizes_fault s
    ∷ query_days_fault s (vertex_count s)
    ∷ query_edges_fault s (edge_count s)
    ∷ query_pairs_fault s (pair_count s)
    ∷ [])

-- A file from which the code may read a query: n and m are within their limits, and the bits of all that it
-- counts are there.
pub record Readable (s : List ℕ) : Type 0 where
  pub limits : outside_limits s ≡ false
  pub bits : pair_start s (pair_count s) ≤ bits_in s
