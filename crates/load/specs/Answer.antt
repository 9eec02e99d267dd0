-- What Load answers. Assumes nothing.
use Rattle.std.specs.Prelude.{List, ℕ, length}
use Rattle.lists.specs.Refusal.{answered}
use Rattle.graph.specs.File.{graph_of}
use Rattle.graph.specs.Store.{load_fault}
use Rattle.load.specs.declared.Loaded.{Loaded}

-- 'N and M', or its refusal 'with every other number 0'.
unfoldable pub load_answer : List ℕ → ℕ → Loaded
load_answer s room =
    record {
      refusal = load_fault s room;
      vertices = answered (load_fault s room) (graph_of s).vertices;
      edges = answered (load_fault s room) (length (graph_of s).edges);
    }
