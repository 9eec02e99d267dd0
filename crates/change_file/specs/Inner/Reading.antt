-- What is read of a change file, and the parts of its fault. Assumes nothing.
use Rattle.std.specs.Prelude.{not, ◌&&◌, List, ℕ, suc, ◌≤◌, ◌<◌, eqb, length}
use Rattle.lists.specs.Refusal.{refuse}
use Rattle.packed.specs.Field.{fill_set}
use Rattle.graph.specs.Graph.{max_graph_edges}
use Rattle.change_file.specs.File.{change_count, change_start, change_size}

-- A file that is not shorter than its own size. Its count fits 20 bits, as that of every file does.
pub record Sized (s : List ℕ) : Type 0 where
  pub there : change_size s ≤ length s
  pub few : change_count s < suc max_graph_edges

-- The fault of a file's length and fill bits.
unfoldable pub change_length_fault : List ℕ → ℕ
change_length_fault s = refuse 27 (not (eqb (length s) (change_size s)
    && not (fill_set s (change_start (change_count s)))))
