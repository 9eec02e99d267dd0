-- What the functions of the ordering ask and answer one by one. Assumes nothing.
use Rattle.std.specs.Prelude.{◌≡◌, true, List, map, ℕ, suc, ◌/◌, ◌≤◌, ◌<◌, ltb, length}
use Rattle.lists.specs.Lists.{range, all, count_if}
use Rattle.graph.specs.Graph.{Graph, max_edge_label, max_graph_edges, entry_span, entry_end, covers}
use Rattle.query.specs.File.{min_vertices}
use Rattle.query.specs.Inner.Struct.{query_in, Held, byte_label}
use Rattle.query.specs.declared.Query.{Query as QueryStruct}
use Rattle.plan_order.specs.Order.{edges_of}

-- What a label counts in a list of entries, for every label.
unfoldable pub label_counts : List ℕ → List ℕ
label_counts entries = map (λ (l : ℕ). count_if (λ (k : ℕ). covers l (k / entry_span)) entries)
    (range (suc max_edge_label))

-- The data edges of every label.
unfoldable pub edge_counts : Graph → List ℕ
edge_counts g = map (edges_of g) (range (suc max_edge_label))

-- Entries of a store: their labels are bytes, and they are few.
pub record Entries (s : List ℕ) : Type 0 where
  pub few : length s ≤ max_graph_edges
  pub fit : all (λ (k : ℕ). ltb k entry_end) s ≡ true

-- A query of a file that was read.
pub record Drawable (d : QueryStruct) : Type 0 where
  pub held : Held d
  pub vertices : min_vertices ≤ d.vertices
  pub edges : 0 < d.edges
  pub labels : all byte_label (query_in d).edges ≡ true
