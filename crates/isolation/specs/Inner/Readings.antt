-- What answers read of a graph's edges, each for a label that the query names. Assumes nothing.
use Rattle.std.specs.Prelude.{◌≡◌, true, ℕ}
use Rattle.graph.specs.Graph.{Graph, Direction, linked, portion_length}
use Rattle.query.specs.Query.{Query}
use Rattle.plan_order.specs.Order.{edges_of}
use Rattle.plan_bounds.specs.Bounds.{longest_portion}
use Rattle.isolation.specs.Others.{names}

-- Two graphs give a query the same: which vertices an edge of a label joins (scans, candidates, and so the
-- longest sets), how long a portion is (cost), how many edges a label has (the scan that is drawn, the bound
-- of a scan), and how long a label's longest portion is (the bounds of extends).
pub record SameReadings (q : Query) (g h : Graph) : Type 0 where
  pub joins : (l x y : ℕ) → names q l ≡ true → linked g l x y ≡ linked h l x y
  pub portions : (d : Direction) (l x : ℕ) → names q l ≡ true → portion_length g d l x ≡ portion_length h d l x
  pub counts : (l : ℕ) → names q l ≡ true → edges_of g l ≡ edges_of h l
  pub longest : (d : Direction) (l : ℕ) → names q l ≡ true → longest_portion g d l ≡ longest_portion h d l
