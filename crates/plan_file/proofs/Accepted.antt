-- Laws of a plan without fault: its file's bits are there, and the query has what its operators name. Assumes nothing.
use mathlib.Core.Path.{◌≡◌, refl, sym, ◌∙◌}
use mathlib.Core.Bool.{Bool, true, false, cond, not, ◌&&◌}
use mathlib.Core.List.{List, [], ◌∷◌, map, append_assoc}
use Prim.Native.Nat.{ℕ, zero, suc, ◌≤◌, ◌<◌}
use native.Mathlib.Nat.{lt-suc_self}
use native.Mathlib.Omega.{arith}
use lib.Dec.{eqb, ltb}
use lib.ListN.{length, length-replicate}
use borrow.Author.Tests.{ltb-false, eqb-false}
use Rattle.lists.specs.Lists.{range, all}
use Rattle.lists.specs.Refusal.{refuse, first}
use Rattle.lists.proofs.Tests.{not-false}
use Rattle.lists.proofs.All.{all-range}
use Rattle.lists.proofs.Count.{all_map}
use Rattle.lists.proofs.Faults.{first_head, first_tail, first-cons, first-append-l, first-each, refuse-zero, first_some, first_one, first_group}
use Rattle.packed.specs.Field.{bits_in}
use Rattle.packed.proofs.Laws.{field_lt}
use Rattle.query.specs.Query.{Query}
use Rattle.query.specs.File.{query_of, query_fault}
use Rattle.query_file.specs.Inner.Parts.{Readable}
use Rattle.query.specs.Answer.{struct_of}
use Rattle.query.specs.Inner.Struct.{Held}
use Rattle.query_file.proofs.FileLaws.{query_readable as readable, query_held as holds}
use Rattle.plan.specs.Plan.{scan, extend, join}
use Rattle.plan.specs.Check.{rules_fault}
use Rattle.plan.specs.File.{operator_count, kind_at, operand_at, operator_at, place, operators_of, operator_fault, plan_fault, check_fault}
use Rattle.plan_file.specs.Inner.Parts.{of_size, end_faults, operators_faults, plan_file_fault}
use Rattle.plan.specs.Plan.{max_operators}
use Rattle.plan.specs.Inner.Pile.{named}
use Rattle.plan_file.proofs.Places.{operator-there}

-- The faults of a plan are those of its file, then those of its rules.
pub plan-fault : (q : Query) (s : List ℕ) → plan_fault q s ≡ first (plan_file_fault q s ∷ rules_fault q [] (operators_of s) ∷ [])
unfolding plan_fault plan_file_fault
plan-fault q s =
    rw (← append_assoc (map (λ (i : ℕ). operator_fault q s (place s i)) (range (operator_count s))) (end_faults s (place s (operator_count s))) rules)
    (first_group (refuse 12 (ltb (bits_in s) 5) ∷ refuse 14 (eqb (operator_count s) 0) ∷ operators_faults q s (operator_count s)) rules)
  where
    rules : List ℕ
    rules = rules_fault q [] (operators_of s) ∷ []

-- The faults of a plan's file look at the size of the query alone, which its struct has.
pub file-fault-size : (q : Query) (s : List ℕ) → plan_file_fault (of_size (struct_of q).vertices (struct_of q).edges) s ≡ plan_file_fault q s
unfolding plan_file_fault struct_of
file-fault-size q s = rw (length-replicate (length q.edges))

-- An operator without fault names what the query has.
pub operator-named : (q : Query) (s : List ℕ) (at : ℕ) → operator_fault q s at ≡ 0 → named q (operator_at s at) ≡ true
operator-named q s at e =
    go (eqb (kind_at s at) 0) (eqb (kind_at s at) 1) (operand_at s at) (refuse-zero 13 _ (first_head _ _ rest)) (refuse-zero 13 _ (first_head _ _ (first_tail _ _ rest)))
  where
    rest : first
        (refuse 14 (eqb (kind_at s at) 0 && not (ltb (operand_at s at) (length q.edges)))
        ∷ refuse 14 (eqb (kind_at s at) 1 && not (ltb (operand_at s at) q.vertices)) ∷ []) ≡ 0
    rest = first_tail _ _ (first_tail _ _ (first_tail _ _ e))

    go : (a b : Bool) (x : ℕ) → (a && not (ltb x (length q.edges))) ≡ false → (b && not (ltb x q.vertices)) ≡ false
        → named q (cond a (scan x) (cond b (extend x) join)) ≡ true
    go true b x h k = not-false _ h
    go false true x h k = not-false _ k
    go false false x h k = refl

module _ (q : Query) (s : List ℕ) (ok : plan_file_fault q s ≡ 0) where
  operators-ok : (i : ℕ) → i < operator_count s → operator_fault q s (place s i) ≡ 0
  unfolding plan_file_fault
  operators-ok =
      first-each (λ (i : ℕ). operator_fault q s (place s i)) (operator_count s) (first-append-l _ _ (first_tail _ _ (first_tail _ _ ok)))

  pub some-operator : 0 < operator_count s
  unfolding plan_file_fault
  some-operator =
      let some : (operator_count s ≡ 0 → ⊥) = eqb-false _ 0 (refuse-zero 13 _ (first_head _ _ (first_tail _ _ ok))) in omega arith

  pub all_named : all (named q) (operators_of s) ≡ true
  unfolding operators_of
  all_named =
      all_map (named q) (λ (i : ℕ). operator_at s (place s i)) (range (operator_count s))
      ∙ all-range (λ (i : ℕ). named q (operator_at s (place s i))) (operator_count s) (λ i h. operator-named q s (place s i) (operators-ok i h))

  pub bits-all : place s (operator_count s) ≤ bits_in s
  unfolding plan_file_fault place
  bits-all = go (operator_count s) operators-ok
    where
      go : (k : ℕ) → ((i : ℕ) → i < k → operator_fault q s (place s i) ≡ 0) → place s k ≤ bits_in s
      go zero h = ltb-false (bits_in s) 5 (refuse-zero 11 _ (first_head _ _ ok))
      go (suc k) h = operator-there q s (place s k) (h k (lt-suc_self k))

-- ---- Check plan: the query's faults, then the file's, then the rules'

module _ (query plan : List ℕ) where
  pub check-query : (query_fault query ≡ 0 → ⊥) → check_fault query plan ≡ query_fault query
  unfolding check_fault
  check-query bad = first_some _ _ bad

  parts : query_fault query ≡ 0 → check_fault query plan ≡ first (plan_file_fault (query_of query) plan ∷ rules_fault (query_of query) [] (operators_of plan) ∷ [])
  unfolding check_fault
  parts e = first-cons _ _ e ∙ first_one _ ∙ plan-fault (query_of query) plan

  pub check-file : query_fault query ≡ 0 → (plan_file_fault (query_of query) plan ≡ 0 → ⊥) → check_fault query plan ≡ plan_file_fault (query_of query) plan
  check-file e bad = parts e ∙ first_some _ _ bad

  pub check-rules : query_fault query ≡ 0 → plan_file_fault (query_of query) plan ≡ 0 → check_fault query plan ≡ rules_fault (query_of query) [] (operators_of plan)
  check-rules e f = parts e ∙ first-cons _ _ f ∙ first_one _

-- What an accepted query and plan have: the code's structs of both can be read, and hold the query and the plan (`file-struct`,
-- `file-operators`); the query has what the operators name; and no rule is broken.
pub record Accepted (query plan : List ℕ) : Type 0 where
  pub query_readable : Readable query
  pub query_held : Held (struct_of (query_of query))
  pub plan-bits : place plan (operator_count plan) ≤ bits_in plan
  pub plan_some : 0 < operator_count plan
  pub plan_count : operator_count plan ≤ max_operators
  pub plan_named : all (named (query_of query)) (operators_of plan) ≡ true
  pub plan_rules : rules_fault (query_of query) [] (operators_of plan) ≡ 0

pub count-le : (plan : List ℕ) → operator_count plan ≤ max_operators
count-le plan = omega (arith, field_lt plan 0 5)

pub accepted : (query plan : List ℕ) → check_fault query plan ≡ 0 → Accepted query plan
unfolding check_fault
accepted query plan e =
    let q : query_fault query ≡ 0 = first_head _ _ e in
    let both = sym (parts query plan q) ∙ e in
    let f : plan_file_fault (query_of query) plan ≡ 0 = first_head _ _ both in
    record {
      query_readable = readable query q;
      query_held = holds query q;
      plan-bits = bits-all (query_of query) plan f;
      plan_some = some-operator (query_of query) plan f;
      plan_count = count-le plan;
      plan_named = all_named (query_of query) plan f;
      plan_rules = sym (first_one _) ∙ first_tail _ _ both;
    }
