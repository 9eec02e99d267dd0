-- A labelled graph: 'items are vertices, connections labelled edges'. Assumes nothing.
use Rattle.std.specs.Prelude.{Bool, ◌&&◌, ◌||◌, List, ℕ, ◌+◌, ◌*◌, eqb, get_or}
use Rattle.lists.specs.Lists.{any, count_if}

-- An edge of a label, of a graph or of a query.
pub record Edge : Type 0 where
  pub source : ℕ
  pub label : ℕ
  pub target : ℕ

-- Vertices 0 to N-1 with a label and an inspection day each, and edges in the file's order.
pub record Graph : Type 0 where
  pub vertices : ℕ
  pub labels : List ℕ
  pub days : List ℕ
  pub edges : List Edge

-- The limits of a graph: 'N vertices (16 bits), M edges (20 bits)', labels and days of '16 bits each'; 'edge
-- labels are 1 to 255'.
abbrev pub max_graph_vertices : ℕ
max_graph_vertices = 65535

-- The number of no vertex: vertices are 0 to N−1.
abbrev pub no_vertex : ℕ
no_vertex = max_graph_vertices

abbrev pub max_graph_edges : ℕ
max_graph_edges = 1048575

abbrev pub max_vertex_label : ℕ
max_vertex_label = 65535

abbrev pub max_day : ℕ
max_day = 65535

abbrev pub max_edge_label : ℕ
max_edge_label = 255

-- An entry is 'label × 65,536 + neighbour', so every entry is below the label after the last one times as
-- much.
abbrev pub entry_span : ℕ
entry_span = 65536

abbrev pub entry_end : ℕ
entry_end = 16777216

-- The two ways along an edge. The near end is where the way starts.
pub data Direction : Type 0 where
  forward backward : Direction

abbrev pub near : Direction → Edge → ℕ
near forward e = e.source
near backward e = e.target

abbrev pub far : Direction → Edge → ℕ
far forward e = e.target
far backward e = e.source

-- An entry: 'label × 65,536 + neighbour'.
abbrev pub entry : Direction → Edge → ℕ
entry d e = e.label * entry_span + far d e

-- (near end, label, far end) as one number: edges ascend 'by (source, label, target)' where their forward
-- keys do.
abbrev pub key : Direction → Edge → ℕ
key d e = near d e * entry_end + entry d e

-- Which edge labels a query's label covers: label 0 'means any label', another its equal.
unfoldable pub covers : ℕ → ℕ → Bool
covers l k = eqb l 0 || eqb k l

-- 'The file has an edge of its label', or of any where that is 0, 'from the number of its first end to that
-- of its second'.
unfoldable pub linked : Graph → ℕ → ℕ → ℕ → Bool
linked g l x y = any (λ (e : Edge). eqb e.source x && covers l e.label && eqb e.target y) g.edges

-- The length of a vertex's portion for a label, in one direction.
unfoldable pub portion_length : Graph → Direction → ℕ → ℕ → ℕ
portion_length g d l x = count_if (λ (e : Edge). eqb (near d e) x && covers l e.label) g.edges

-- A vertex's label in the graph file, and its inspection day: 'days since 1 January 2000, 0 for none'.
abbrev pub label_of : Graph → ℕ → ℕ
label_of g x = get_or g.labels x 0

abbrev pub day_of : Graph → ℕ → ℕ
day_of g x = get_or g.days x 0
