-- `plan_file::rules::check_rules` meets its contract: what is left of the rules is over the pile that the first i operators leave.
-- Assumes nothing.
use mathlib.Core.Path.{◌≡◌}
use mathlib.Core.List.{[]}
use Prim.Native.Nat.{◌≤◌}
use lib.ListN.{drop}
use Rattle.query.specs.Inner.Struct.{query_in}
use Rattle.plan.specs.Check.{rules_fault}
use Rattle.plan.specs.Inner.Struct.{operators_in}
use Rattle.plan_file.specs.Inner.Pile.{sets_in}
use Rattle.plan_file.proofs.rules.check_rules.Given as goal

abbrev pub invariant-loop-i : goal.invariant-loop-i
invariant-loop-i l = (l.i ≤ l.plan.operators) × (l.pile.depth ≤ l.i)
    × (rules_fault (query_in l.q) [] (operators_in l.plan) ≡ rules_fault (query_in l.q) (sets_in l.pile) (drop l.i (operators_in l.plan)))
