-- The query in the structs of the code. Assumes nothing.
use Rattle.std.specs.Prelude.{Bool, ◌&&◌, List, map, ℕ, suc, ◌≤◌, ◌<◌, eqb, ltb, get_or, take}
use Rattle.lists.specs.Lists.{range}
use Rattle.graph.specs.Graph.{Edge, max_day, max_edge_label}
use Rattle.query.specs.Query.{Pair, Query}
use Rattle.query.specs.File.{max_vertices, max_edges, max_pairs}
use Rattle.query.specs.declared.Edge.{Edge as EdgeStruct}
use Rattle.query.specs.declared.Filter.{Filter as FilterStruct}
use Rattle.query.specs.declared.Query.{Query as QueryStruct}

-- A query edge as the code has it, and back.
abbrev pub edge_struct : Edge → EdgeStruct
edge_struct e = record { source = e.source; target = e.target; label = e.label }

abbrev pub as_edge : EdgeStruct → Edge
as_edge e = record { source = e.source; target = e.target; label = e.label }

-- The edge of an index in a struct.
abbrev pub edge_of : QueryStruct → ℕ → Edge
edge_of d i =
    record {
      source = get_or d.sources i 0;
      target = get_or d.targets i 0;
      label = get_or d.edge_labels i 0;
    }

-- The pair of an index in a struct.
abbrev pub pair_of : QueryStruct → ℕ → Pair
pair_of d i = record { low = get_or d.lows i 0; high = get_or d.highs i 0 }

-- The pair of an index where one end of each stands in a list, and the other in another.
abbrev pub pair_with : List ℕ → List ℕ → ℕ → Pair
pair_with ones others i = record { low = get_or ones i 0; high = get_or others i 0 }

-- The query that a struct holds.
unfoldable pub query_in : QueryStruct → Query
query_in d =
    record {
      vertices = d.vertices;
      labels = take d.vertices d.labels;
      firsts = take d.vertices d.firsts;
      lasts = take d.vertices d.lasts;
      edges = map (edge_of d) (range d.edges);
      pairs = map (pair_of d) (range d.pairs);
    }

-- What the code asks of a struct: counts that its arrays hold, and ends that are vertices of the largest
-- query.
pub record Held (d : QueryStruct) : Type 0 where
  pub vertices : d.vertices ≤ max_vertices
  pub edges : d.edges ≤ max_edges
  pub pairs : d.pairs ≤ max_pairs
  pub source : (i : ℕ) → i < d.edges → (edge_of d i).source < max_vertices
  pub target : (i : ℕ) → i < d.edges → (edge_of d i).target < max_vertices
  pub low : (i : ℕ) → i < d.pairs → (pair_of d i).low < max_vertices
  pub high : (i : ℕ) → i < d.pairs → (pair_of d i).high < max_vertices

-- A query edge's label is of a byte.
abbrev pub byte_label : Edge → Bool
byte_label e = ltb e.label (suc max_edge_label)

-- What a query vertex asks of a data vertex, as the code has it. No day is asked where the range is the
-- whole.
unfoldable pub filter_of : QueryStruct → ℕ → FilterStruct
filter_of d w =
    record {
      label = get_or d.labels w 0;
      first = get_or d.firsts w 0;
      last = get_or d.lasts w 0;
      any_day = eqb (get_or d.firsts w 0) 0 && eqb (get_or d.lasts w 0) max_day;
    }
