-- `plan_bounds::longest::covered` meets its contract: the loop's invariant: those of the entries before the index are counted. Assumes nothing.
use mathlib.Core.Path.{◌≡◌}
use mathlib.Core.List.{List}
use Prim.Native.Nat.{ℕ, ◌/◌, ◌≤◌}
use lib.ListN.{length, take}
use Rattle.lists.specs.Lists.{count_if}
use Rattle.graph.specs.Graph.{covers}
use Rattle.plan_bounds.proofs.longest.covered.Given as goal

-- Of the first i entries, those that a query edge's label covers.
abbrev pub counted : ℕ → List ℕ → ℕ → ℕ
counted l s i = count_if (λ (k : ℕ). covers l (k / 65536)) (take i s)

abbrev pub invariant-loop-entry : goal.invariant-loop-entry
invariant-loop-entry l = (l.entry-index ≤ length l.list) × (l.count ≤ l.entry-index) × (l.count ≡ counted l.label l.list l.entry-index)
