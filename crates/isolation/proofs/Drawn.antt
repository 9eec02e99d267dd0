-- The plan that is drawn over two graphs with the same named edges is one. Assumes nothing.
use mathlib.Core.Path.{◌≡◌, ap, ap₂}
use Prim.Native.Nat.{ℕ, ◌-◌, ◌<◌}
use lib.Dec.{ltb}
use lib.ListN.{length}
use Rattle.lists.proofs.All.{all_get_d}
use Rattle.packed.specs.Encode.{bytes_of}
use Rattle.graph.specs.Graph.{Edge, Graph}
use Rattle.query.specs.Query.{Query, edge_at}
use Rattle.plan.specs.Plan.{ends}
use Rattle.plan_order.specs.Order.{scan_size, scan_edge, extends_from}
use Rattle.plan_order.proofs.Choosing.{chosen-ext}
use Rattle.planner.specs.Draw.{plan_bits, drawn_plan}
use Rattle.isolation.specs.Others.{names}
use Rattle.isolation.specs.Inner.Readings.{SameReadings}
use Rattle.isolation.proofs.Own.{each-named}

module _ (q : Query) (g h : Graph) (same : SameReadings q g h) where
  -- The query edge of an index has a named label, and so as many data edges in both.
  same_size : (i : ℕ) → i < length q.edges → scan_size g q i ≡ scan_size h q i
  same_size i l =
      same.counts (edge_at q i).label
      (all_get_d (λ (e : Edge). names q e.label) q.edges i (record { source = 0; label = 0; target = 0 }) l (each-named q))

  same-edge : scan_edge g q ≡ scan_edge h q
  unfolding scan_edge
  same-edge = chosen-ext _ _ (length q.edges) (λ i j k l. ap₂ ltb (same_size i k) (same_size j l))

  pub same-drawn : drawn_plan g q ≡ drawn_plan h q
  unfolding drawn_plan
  same-drawn = ap (λ (i : ℕ). bytes_of (plan_bits i (extends_from q (ends (edge_at q i)) (q.vertices - 2)))) same-edge
