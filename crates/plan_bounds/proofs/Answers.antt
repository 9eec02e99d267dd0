-- What is answered, refused or not, is what the definition says. Assumes nothing.
use mathlib.Core.Path.{◌≡◌, sym, ◌∙◌}
use mathlib.Core.Bool.{true}
use mathlib.Core.List.{List}
use Prim.Native.Nat.{ℕ, ◌≤◌}
use borrow.Author.Tests.{ne_eqb}
use Rattle.lists.specs.Lists.{all}
use Rattle.lists.proofs.Maps.{length-image}
use Rattle.lists.proofs.Faults.{first-cons, first_head, first_one, first_some, first-nil}
use Rattle.graph.specs.Store.{graph_in, store_fault}
use Rattle.query.specs.File.{query_of}
use Rattle.query.specs.Answer.{struct_of}
use Rattle.query.specs.Inner.Struct.{query_in}
use Rattle.query_file.proofs.Structs.{at-least-vertices, at-least-edges, file-struct, file-labels}
use Rattle.plan.specs.Plan.{max_operators}
use Rattle.plan.specs.File.{operators_of, check_fault}
use Rattle.plan.specs.Inner.Pile.{named}
use Rattle.plan.specs.Inner.Struct.{plan_struct, operators_in}
use Rattle.plan_file.proofs.Structs.{file-operators}
use Rattle.plan_file.proofs.Accepted.{accepted}
use Rattle.plan_order.specs.Inner.Counts.{Drawable}
use Rattle.plan_bounds.specs.Answer.{bounds_fault, bounds_answer}
use Rattle.plan_bounds.specs.Inner.Held.{Numbers}
use Rattle.plan_bounds.specs.declared.BoundsAnswer.{BoundsAnswer}

abbrev refused_with : ℕ → BoundsAnswer
refused_with k = record { refusal = k; list_words = 0; scratch_words = 0; cost = 0; largest = 0 }

-- The struct of a query that was read.
pub read-drawable : (query plan : List ℕ) → check_fault query plan ≡ 0 → Drawable (struct_of (query_of query))
unfolding struct_of query_of
read-drawable query plan e =
    let has = accepted query plan e in
    record {
      held = has.query_held;
      vertices = at-least-vertices query has.query_readable.limits;
      edges = rw length-image (at-least-edges query has.query_readable.limits);
      labels = rw (file-struct query) (file-labels query);
    }

module _ (store query plan : List ℕ) where
  pub refused : (k : ℕ) → bounds_fault store query plan ≡ k → (k ≡ 0 → ⊥) → refused_with k ≡ bounds_answer store query plan
  unfolding bounds_answer
  refused k e bad = rw (e, ne_eqb k 0 bad)

  -- The plan's fault counts, and the store's where it has none.
  pub fault-plan : (k : ℕ) → k ≡ check_fault query plan → (k ≡ 0 → ⊥) → k ≡ bounds_fault store query plan
  unfolding bounds_fault
  fault-plan k e bad = e ∙ sym (first_some _ _ (λ z. bad (e ∙ z)))

  pub fault-store : check_fault query plan ≡ 0 → bounds_fault store query plan ≡ store_fault store
  unfolding bounds_fault
  fault-store checked = first-cons _ _ checked ∙ first_one _

  -- Neither has one where nothing is refused.
  pub plan_accepted : bounds_fault store query plan ≡ 0 → check_fault query plan ≡ 0
  unfolding bounds_fault
  plan_accepted e = first_head _ _ e

  pub store_accepted : bounds_fault store query plan ≡ 0 → store_fault store ≡ 0
  store_accepted e = sym (fault-store (plan_accepted e)) ∙ e

  module _ (checked : check_fault query plan ≡ 0) where
    pub all_named : all (named (query_in (struct_of (query_of query)))) (operators_in (plan_struct plan)) ≡ true
    all_named = rw (file-struct query, file-operators plan) (accepted query plan checked).plan_named

    pub few-operators : (plan_struct plan).operators ≤ max_operators
    unfolding plan_struct
    few-operators = (accepted query plan checked).plan_count

    fault-none : store_fault store ≡ 0 → bounds_fault store query plan ≡ 0
    unfolding bounds_fault
    fault-none good = first-cons _ _ checked ∙ first-cons _ _ good ∙ first-nil

    pub answered-bounds : store_fault store ≡ 0 → (r : BoundsAnswer) → Numbers (graph_in store) (query_in (struct_of (query_of query))) (operators_in (plan_struct plan)) r
        → r ≡ bounds_answer store query plan
    unfolding bounds_answer
    answered-bounds good r h =
        rw (fault-none good)
        (λ i. record { refusal = n.refusal i; list_words = n.list i; scratch_words = n.scratch i; cost = n.cost i; largest = n.largest_is i })
      where
        n : Numbers (graph_in store) (query_of query) (operators_of plan) r
        n = rw (file-struct query, file-operators plan) at h
