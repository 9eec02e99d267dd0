-- Where the sides of a store begin. Assumes nothing.
use Rattle.std.specs.Prelude.{ℕ, ◌+◌, ◌*◌}
use Rattle.graph.specs.Graph.{Direction, forward, backward}

-- Where the offsets of a direction begin in a store of n vertices and m edges.
abbrev pub side_at : Direction → ℕ → ℕ → ℕ
side_at forward n m = 2 + 2 * n
side_at backward n m = 3 + 3 * n + m
