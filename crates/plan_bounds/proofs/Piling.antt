-- Laws of the pile of bounds as the code holds it. Assumes nothing.
use mathlib.Core.Path.{◌≡◌, sym, ◌∙◌, ap, ap₂}
use mathlib.Core.List.{List, [], ◌∷◌, ◌++◌, map}
use Prim.Native.Nat.{ℕ, ◌+◌, max, ◌≤◌, ◌<◌}
use native.Mathlib.Omega.{arith}
use lib.ListN.{length, drop, get_or, length-drop}
use Rattle.lists.specs.Lists.{total, largest}
use Rattle.lists.proofs.Count.{total-append, largest-snoc}
use Rattle.lists.proofs.Maps.{get_d_map, drop-map}
use Rattle.query.specs.Query.{VertexSet}
use Rattle.query.specs.Inner.Mask.{in_mask}
use Rattle.plan.proofs.Stacks.{length-stack}
use Rattle.plan_bounds.specs.Bounds.{Bound, StepBound}
use Rattle.plan_bounds.specs.Answer.{given}
use Rattle.plan_bounds.specs.Inner.Held.{sets_in, Under, Put, Piled}
use Rattle.plan_bounds.specs.declared.pile.Bounded.{Bounded}
use Rattle.plan_bounds.specs.declared.pile.Pile.{Pile}
use Rattle.plan_bounds.proofs.Capping.{cap-add, cap-max}

-- Bounds of the code that are those of a definition.
pub record Is (c : Bound) (b : Bounded) : Type 0 where
  pub set : in_mask b.set ≡ c.vertices
  pub rows : b.rows ≡ given c.rows
  pub need : b.need ≡ given c.need

abbrev costs_of : List StepBound → ℕ
costs_of steps = total (λ (s : StepBound). s.cost) steps

abbrev most_of : List StepBound → ℕ
most_of steps = largest (λ (s : StepBound). s.rows) steps

costs-snoc : (steps : List StepBound) (s : StepBound) → costs_of (steps ++ (s ∷ [])) ≡ costs_of steps + s.cost
unfolding total
costs-snoc steps s = omega (arith, total-append (λ (s : StepBound). s.cost) steps (s ∷ []))

most-snoc : (steps : List StepBound) (s : StepBound) → most_of (steps ++ (s ∷ [])) ≡ max (most_of steps) s.rows
most-snoc steps s = largest-snoc (λ (s : StepBound). s.rows) steps s

-- A step of nothing changes nothing.
pub piled-still : (pile : List Bound) (steps : List StepBound) (p : Pile) (s : StepBound) → s.rows ≡ 0 → s.cost ≡ 0 → Piled pile steps p → Piled pile (steps ++ (s ∷ [])) p
piled-still pile steps p s r c h =
    record {
      depth = h.depth;
      sets = h.sets;
      rows = h.rows;
      needs = h.needs;
      costs = h.costs ∙ ap given (let e : costs_of steps ≡ costs_of (steps ++ (s ∷ [])) = omega (arith, costs-snoc steps s) in e);
      largest_is = h.largest_is ∙ ap given (let e : most_of steps ≡ most_of (steps ++ (s ∷ [])) = omega (arith, most-snoc steps s) in e);
    }

-- A result put in place of those taken.
module _ (p r : Pile) (taken : ℕ) (b : Bounded) (cost : ℕ) (put : Put p taken b cost r) where
  pub piled-put : (pile : List Bound) (steps : List StepBound) → taken ≤ p.depth → Piled pile steps p → (c : Bound) (k : ℕ) → Is c b → cost ≡ given k
      → Piled (c ∷ drop taken pile) (steps ++ (record { rows = c.rows; cost = k } ∷ [])) r
  piled-put pile steps enough h c k is e =
      record {
        depth = omega (arith, put.depth, h.depth, length-drop taken pile);
        sets =
            ap (map in_mask) put.sets
            ∙ ap₂ (λ (S : VertexSet) (l : List VertexSet). S ∷ l) is.set (sym (drop-map in_mask taken (sets_in p)) ∙ ap (drop taken) h.sets ∙ drop-map (λ (b : Bound). b.vertices) taken pile);
        rows =
            put.rows
            ∙ ap₂ (λ (n : ℕ) (l : List ℕ). n ∷ l) is.rows (ap (drop taken) h.rows ∙ drop-map (λ (b : Bound). given b.rows) taken pile);
        needs =
            put.needs
            ∙ ap₂ (λ (n : ℕ) (l : List ℕ). n ∷ l) is.need (ap (drop taken) h.needs ∙ drop-map (λ (b : Bound). given b.need) taken pile);
        costs =
            put.costs ∙ ap₂ (λ (m n : ℕ). given (m + n)) h.costs e ∙ cap-add 18446744073709551615 (costs_of steps) k
            ∙ ap given (sym (costs-snoc steps (record { rows = c.rows; cost = k })));
        largest_is =
            put.largest_is ∙ ap₂ max h.largest_is is.rows ∙ cap-max 18446744073709551615 (most_of steps) c.rows
            ∙ ap given (sym (most-snoc steps (record { rows = c.rows; cost = k })));
      }

-- What lies under `under` others.
abbrev pub no_bound : Bound
no_bound = record { vertices = in_mask 0; rows = 0; need = 0 }

pub lies-under : (p : Pile) (steps : List StepBound) (pile : List Bound) (under : ℕ) (b : Bounded) → under < p.depth → Piled pile steps p → Under p under b
    → (c : Bound) → get_or pile under no_bound ≡ c → Is c b
lies-under p steps pile under b l h u c e =
    let deep : under < length pile = rw h.depth at l in
    let masks : length (sets_in p) ≡ length pile = length-stack p.depth (map (λ (b : Bounded). b.set) p.bounds) ∙ h.depth in
    record {
      set =
          ap in_mask u.set ∙ sym (get_d_map in_mask (sets_in p) under 0 (in_mask 0) (rw masks deep)) ∙ ap (λ (l : List VertexSet). get_or l under (in_mask 0)) h.sets
          ∙ get_d_map (λ (b : Bound). b.vertices) pile under no_bound (in_mask 0) deep ∙ ap (λ (b : Bound). b.vertices) e;
      rows =
          u.rows ∙ ap (λ (l : List ℕ). get_or l under 0) h.rows ∙ get_d_map (λ (b : Bound). given b.rows) pile under no_bound 0 deep
          ∙ ap (λ (b : Bound). given b.rows) e;
      need =
          u.need ∙ ap (λ (l : List ℕ). get_or l under 0) h.needs ∙ get_d_map (λ (b : Bound). given b.need) pile under no_bound 0 deep
          ∙ ap (λ (b : Bound). given b.need) e;
    }
