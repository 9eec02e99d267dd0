-- What the test of the changes against the old store asks. Assumes nothing.
use Rattle.std.specs.Prelude.{◌≡◌, List, ℕ}
use Rattle.graph.specs.Graph.{forward}
use Rattle.graph.specs.Store.{store_fault}
use Rattle.adjacency.specs.Inner.Side.{vertices_in, side_in}
use Rattle.change_file.specs.File.{change_count, change_fault}

-- A store that is not refused, of n vertices, whose forward side begins at a word, and a change file of k
-- changes that is not refused.
pub record Editable (old : List ℕ) (n at : ℕ) (s : List ℕ) (k : ℕ) : Type 0 where
  pub accepted : store_fault old ≡ 0
  pub vertices : n ≡ vertices_in old
  pub begins : at ≡ side_in forward old
  pub fits : change_fault n s ≡ 0
  pub changes : k ≡ change_count s
