-- An edge's last 24 bits are its forward entry. Assumes nothing.
use mathlib.Core.Path.{◌≡◌, refl}
use mathlib.Core.List.{List}
use Prim.Native.Nat.{ℕ, ◌+◌, ◌-◌, ◌/◌, ◌%◌, ◌<◌}
use native.Mathlib.Omega.{arith}
use Rattle.packed.specs.Field.{field_at}
use Rattle.packed.proofs.Laws.{field-add, field_lt}
use Rattle.graph.specs.Graph.{forward, backward, entry}
use Rattle.graph.specs.File.{edge_start, edge_in}
use Rattle.graph_file.specs.Inner.Reading.{edge_with}

module _ (s : List ℕ) (i : ℕ) where
  pub entry-field : field_at s (edge_start s i + 16) 24 ≡ entry forward (edge_in s i)
  entry-field =
      let next : edge_start s i + 16 + 8 ≡ edge_start s i + 24 = omega arith in
      rw next at (field-add s (edge_start s i + 16) 8 16)

  target-low : (edge_in s i).target < 65536
  target-low = field_lt s (edge_start s i + 24) 16

  module _ {e : ℕ} (f : e ≡ entry forward (edge_in s i)) where
    pub entry-label : e / 65536 ≡ (edge_in s i).label
    entry-label = omega (arith, target-low)

    pub entry-target : e % 65536 ≡ (edge_in s i).target
    entry-target = omega (arith, target-low)

    -- The backward entry has the source in place of the target.
    pub entry-turned : {a : ℕ} → a ≡ (edge_in s i).source → e - e % 65536 + a ≡ entry backward (edge_in s i)
    entry-turned h = omega (arith, target-low)

  pub entry-edge : edge_with (edge_in s i).source (entry forward (edge_in s i)) ≡ edge_in s i
  entry-edge = rw (entry-label refl, entry-target refl)
