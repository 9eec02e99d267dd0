-- `graph::Graph::of_store` meets its contract: a word of 32 bits fits an index. Assumes nothing.
use native.Mathlib.Omega.{arith}
use Rattle.graph.proofs.Graph.of_store.Goals as goal

pub overflow_cast-result : goal.overflow_cast-result
overflow_cast-result c = omega (arith, c.shared_slice_known-1.given 0)

pub overflow_cast-result-2 : goal.overflow_cast-result-2
overflow_cast-result-2 c = omega (arith, c.shared_slice_known-2-1.given 1)
