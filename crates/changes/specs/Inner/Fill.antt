-- What the functions that write the new store ask and leave. Assumes nothing.
use Rattle.std.specs.Prelude.{◌≡◌, List, ◌++◌, ℕ, suc, ◌+◌, ◌*◌, ◌≤◌, ◌<◌, length}
use Rattle.graph.specs.Graph.{Graph, max_graph_edges, Direction, forward, backward}
use Rattle.graph.specs.Store.{graph_in, store_fault, offsets, entries}
use Rattle.adjacency.specs.Inner.Side.{vertices_in}
use Rattle.change_file.specs.File.{change_count, changes_of, change_fault}
use Rattle.changes.specs.Edit.{edit_fault, edited_graph}

-- A store of n vertices and a change file of k changes, none of them refused.
pub record Accepted (old : List ℕ) (n : ℕ) (s : List ℕ) (k : ℕ) : Type 0 where
  pub store : store_fault old ≡ 0
  pub vertices : n ≡ vertices_in old
  pub file : change_fault n s ≡ 0
  pub changes : k ≡ change_count s
  pub edits : edit_fault (graph_in old) (changes_of s) ≡ 0
  pub few : length (edited_graph old s).edges < suc max_graph_edges

-- The side of a graph in a direction, and both sides.
abbrev pub words_on : Direction → Graph → List ℕ
words_on d g = offsets d g ++ entries d g

abbrev pub sides_of : Graph → List ℕ
sides_of g = offsets forward g ++ entries forward g ++ offsets backward g ++ entries backward g

-- Few changes are fewer than this.
abbrev pub many_changes : ℕ
many_changes = 1024

-- The labels and the days of n vertices are there, and room for them after two counts.
pub record HeadKept (old : List ℕ) (n m room : ℕ) : Type 0 where
  pub few : n < 65536
  pub edges : m < suc max_graph_edges
  pub there : 2 + 2 * n ≤ length old
  pub room_there : 2 + 2 * n ≤ room
