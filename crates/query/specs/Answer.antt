-- What Read query answers, as the structs of the code. Assumes nothing.
use Rattle.std.specs.Prelude.{cond, List, [], ◌++◌, map, ℕ, ◌-◌, eqb, length, replicate}
use Rattle.graph.specs.Graph.{Edge}
use Rattle.query.specs.Query.{Pair, Query}
use Rattle.query.specs.File.{max_vertices, max_edges, max_pairs, query_of, query_fault}
use Rattle.query.specs.declared.Query.{Query as QueryStruct}
use Rattle.query.specs.declared.ReadQuery.{ReadQuery}

-- Numbers in an array of k: 0 past the last.
unfoldable pub padded : ℕ → List ℕ → List ℕ
padded k xs = xs ++ replicate (k - length xs) 0

-- A query as the code has it: counts, and an array for each field of its vertices, edges and pairs.
unfoldable pub struct_of : Query → QueryStruct
struct_of q =
    record {
      vertices = q.vertices;
      edges = length q.edges;
      labels = padded max_vertices q.labels;
      firsts = padded max_vertices q.firsts;
      lasts = padded max_vertices q.lasts;
      sources = padded max_edges (map (λ (e : Edge). e.source) q.edges);
      targets = padded max_edges (map (λ (e : Edge). e.target) q.edges);
      edge_labels = padded max_edges (map (λ (e : Edge). e.label) q.edges);
      pairs = length q.pairs;
      lows = padded max_pairs (map (λ (p : Pair). p.low) q.pairs);
      highs = padded max_pairs (map (λ (p : Pair). p.high) q.pairs);
    }

-- The query of a refused file: 'every other number 0'.
abbrev pub no_query : Query
no_query = record { vertices = 0; labels = []; firsts = []; lasts = []; edges = []; pairs = [] }

-- 'Accepted, .. Read query' gives 'the query', refused 'its number, with every other number 0'.
unfoldable pub read_answer : List ℕ → ReadQuery
read_answer s =
    record { refusal = query_fault s; query = struct_of (cond (eqb (query_fault s) 0) (query_of s) no_query) }
