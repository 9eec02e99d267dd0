-- Laws of the rules operator by operator, over the operators of a struct. Assumes nothing.
use mathlib.Core.Path.{◌≡◌, sym, ◌∙◌, ap}
use mathlib.Core.Bool.{true}
use mathlib.Core.List.{List, [], ◌∷◌}
use Prim.Native.Nat.{ℕ, ◌+◌, ◌≤◌, ◌<◌}
use native.Mathlib.Numerals.{add-one}
use lib.ListN.{length, drop, drop_of_length-le}
use lib.Seq.{drop-cons}
use Rattle.lists.specs.Lists.{all}
use Rattle.lists.specs.Refusal.{first}
use Rattle.lists.proofs.Faults.{first_head, first_tail, first-cons, first_some, first_one}
use Rattle.lists.proofs.Maps.{length-image}
use Rattle.lists.proofs.All.{all_get_d}
use Rattle.query.specs.Query.{Query, VertexSet}
use Rattle.plan.specs.Plan.{Operator, join}
use Rattle.plan.specs.Check.{rule_fault, covered, end_fault, rules_fault}
use Rattle.plan.specs.Inner.Struct.{operator_in, operators_in}
use Rattle.plan.specs.Inner.Pile.{named}
use Rattle.plan.specs.declared.Plan.{Plan as PlanStruct}
use Rattle.plan_file.proofs.Structs.{operator-in}

module _ (q : Query) (p : PlanStruct) where
  count-is : length (operators_in p) ≡ p.operators
  unfolding operators_in
  count-is = length-image (operator_in p) p.operators

  -- Each operator of a plan whose operators are named is named.
  pub named-at : (i : ℕ) (o : Operator) → all (named q) (operators_in p) ≡ true → i < p.operators → o ≡ operator_in p i → named q o ≡ true
  named-at i o a h e =
      ap (named q) (e ∙ sym (operator-in p i join h)) ∙ all_get_d (named q) (operators_in p) i join (rw count-is h) a

  -- The faults from operator i on: its own, then those of the rest over the pile that it leaves.
  turn : (sets : List VertexSet) (i : ℕ) (o : Operator) → i < p.operators → o ≡ operator_in p i
      → rules_fault q sets (drop i (operators_in p)) ≡ first (rule_fault q o sets ∷ rules_fault q (covered q o sets) (drop (i + 1) (operators_in p)) ∷ [])
  unfolding rules_fault
  turn sets i o h e =
      rw (drop-cons (operators_in p) i join (rw count-is h), operator-in p i join h, ← e, add-one i)

  -- Where no fault is left, the operator has none, and none is left after it.
  pub rules-each : (sets : List VertexSet) (i : ℕ) (o : Operator) → i < p.operators → o ≡ operator_in p i
      → rules_fault q sets (drop i (operators_in p)) ≡ 0
      → (rule_fault q o sets ≡ 0) × (rules_fault q (covered q o sets) (drop (i + 1) (operators_in p)) ≡ 0)
  rules-each sets i o h e z =
      let both = sym (turn sets i o h e) ∙ z in (first_head _ _ both, sym (first_one _) ∙ first_tail _ _ both)

  pub rules-stop : (sets : List VertexSet) (i : ℕ) (o : Operator) → i < p.operators → o ≡ operator_in p i → (rule_fault q o sets ≡ 0 → ⊥)
      → rules_fault q sets (drop i (operators_in p)) ≡ rule_fault q o sets
  rules-stop sets i o h e bad = turn sets i o h e ∙ first_some _ _ bad

  pub rules-pass : (sets : List VertexSet) (i : ℕ) (o : Operator) → i < p.operators → o ≡ operator_in p i → rule_fault q o sets ≡ 0
      → rules_fault q sets (drop i (operators_in p)) ≡ rules_fault q (covered q o sets) (drop (i + 1) (operators_in p))
  rules-pass sets i o h e good = turn sets i o h e ∙ first-cons _ _ good ∙ first_one _

  pub rules-done : (sets : List VertexSet) (i : ℕ) → p.operators ≤ i → rules_fault q sets (drop i (operators_in p)) ≡ end_fault q sets
  unfolding rules_fault
  rules-done sets i h = rw (drop_of_length-le (operators_in p) {i = i} (rw count-is h))
