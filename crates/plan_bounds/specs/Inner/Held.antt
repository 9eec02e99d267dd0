-- What the functions of this crate hold and answer one by one. Assumes nothing.
use Rattle.std.specs.Prelude.{◌≡◌, Bool, List, [], ◌∷◌, ◌++◌, map, ℕ, ◌+◌, ◌-◌, ◌/◌, max, length, drop, get_or}
use Rattle.lists.specs.Lists.{total, largest}
use Rattle.graph.specs.Graph.{Graph, Direction, entry_span, covers}
use Rattle.graph.specs.Store.{store_fault}
use Rattle.graph.specs.declared.Graph.{Graph as GraphStruct}
use Rattle.adjacency.specs.Inner.Side.{vertices_in, edges_in, side_in}
use Rattle.query.specs.Query.{Query}
use Rattle.query.specs.Inner.Mask.{in_mask}
use Rattle.plan.specs.Plan.{Operator}
use Rattle.plan.specs.Inner.Pile.{stack}
use Rattle.plan_bounds.specs.declared.BoundsAnswer.{BoundsAnswer}
use Rattle.plan_bounds.specs.declared.longest.Portions.{Portions}
use Rattle.plan_bounds.specs.declared.pile.Bounded.{Bounded}
use Rattle.plan_bounds.specs.declared.pile.Pile.{Pile}
use Rattle.plan_bounds.specs.Bounds.{least, Bound, StepBound, apply_bound, step_bound, list_bound}
use Rattle.plan_bounds.specs.Bounds.{need_bound, costs_bound, largest_bound}
use Rattle.plan_bounds.specs.Answer.{given}

-- ---- portions

-- A side of an accepted store of n vertices.
pub record Sided (store : List ℕ) (n side : ℕ) : Type 0 where
  pub accepted : store_fault store ≡ 0
  pub vertices : n ≡ vertices_in store
  pub direction : Direction
  pub begins : side ≡ side_in direction store

-- The counts of an accepted store.
pub record Counts (store : List ℕ) (g : GraphStruct) : Type 0 where
  pub accepted : store_fault store ≡ 0
  pub vertices : g.vertices ≡ vertices_in store
  pub edges : g.edges ≡ edges_in store

-- Portions of these lengths were seen: how many, the least and the sum of them.
pub record Seen (lengths : List ℕ) (p : Portions) : Type 0 where
  pub count : p.count ≡ length lengths
  pub least_is : p.least ≡ least (λ (n : ℕ). n) lengths
  pub sum_is : p.sum ≡ total (λ (n : ℕ). n) lengths

-- An entry whose label a query's label covers.
abbrev pub covering : ℕ → ℕ → Bool
covering l k = covers l (k / entry_span)

-- ---- the pile

abbrev pub sets_in : Pile → List ℕ
sets_in p = stack p.depth (map (λ (b : Bounded). b.set) p.bounds)

abbrev pub rows_in : Pile → List ℕ
rows_in p = stack p.depth (map (λ (b : Bounded). b.rows) p.bounds)

abbrev pub needs_in : Pile → List ℕ
needs_in p = stack p.depth (map (λ (b : Bounded). b.need) p.bounds)

-- The bounds that lie under others in a pile.
pub record Under (p : Pile) (under : ℕ) (b : Bounded) : Type 0 where
  pub set : b.set ≡ get_or (sets_in p) under 0
  pub rows : b.rows ≡ get_or (rows_in p) under 0
  pub need : b.need ≡ get_or (needs_in p) under 0

-- A pile with bounds in place of those taken, with a cost more.
pub record Put (p : Pile) (taken : ℕ) (b : Bounded) (cost : ℕ) (r : Pile) : Type 0 where
  pub depth : r.depth ≡ p.depth - taken + 1
  pub sets : sets_in r ≡ b.set ∷ drop taken (sets_in p)
  pub rows : rows_in r ≡ b.rows ∷ drop taken (rows_in p)
  pub needs : needs_in r ≡ b.need ∷ drop taken (needs_in p)
  pub costs : r.cost ≡ given (p.cost + cost)
  pub largest_is : r.largest ≡ max p.largest b.rows

-- The pile of bounds and the bounds of the steps so far, each number given as one of 64 bits.
pub record Piled (pile : List Bound) (steps : List StepBound) (p : Pile) : Type 0 where
  pub depth : p.depth ≡ length pile
  pub sets : map in_mask (sets_in p) ≡ map (λ (b : Bound). b.vertices) pile
  pub rows : rows_in p ≡ map (λ (b : Bound). given b.rows) pile
  pub needs : needs_in p ≡ map (λ (b : Bound). given b.need) pile
  pub costs : p.cost ≡ given (total (λ (s : StepBound). s.cost) steps)
  pub largest_is : p.largest ≡ given (largest (λ (s : StepBound). s.rows) steps)

-- After an operator it is the pile of bounds after it, with the bounds of its step.
abbrev pub After : Graph → Query → Operator → Pile → Pile → Type 0
After g q o p r = (pile : List Bound) (steps : List StepBound) → Piled pile steps p
    → Piled (apply_bound g q o pile) (steps ++ (step_bound g q o pile ∷ [])) r

-- The four numbers of operators over a graph.
pub record Numbers (g : Graph) (q : Query) (os : List Operator) (a : BoundsAnswer) : Type 0 where
  pub refusal : a.refusal ≡ 0
  pub list : a.list_words ≡ given (list_bound g q os)
  pub scratch : a.scratch_words ≡ given (need_bound g q os)
  pub cost : a.cost ≡ given (costs_bound g q os)
  pub largest_is : a.largest ≡ given (largest_bound g q os)
