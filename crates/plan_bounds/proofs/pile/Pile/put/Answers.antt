-- `plan_bounds::pile::Pile::put` meets its contract (`stack-put`). Assumes nothing.
use borrow.Author.Rules.{rules}
use mathlib.Core.Path.{◌≡◌, refl, ap, ◌∙◌}
use mathlib.Core.List.{List, ◌∷◌, map}
use Prim.Native.Nat.{ℕ, ◌+◌, ◌-◌, ◌≤◌, ◌<◌}
use lib.ListN.{length, set, drop, length-map}
use lib.Seq.{map-set}
use Rattle.plan.specs.Inner.Pile.{stack}
use Rattle.plan.proofs.Stacks.{stack-put}
use Rattle.plan_bounds.specs.declared.pile.Bounded.{Bounded}
use Rattle.plan_bounds.proofs.pile.Pile.put.Goals as goal

put_at : (f : Bounded → ℕ) (d k : ℕ) (xs : List Bounded) (b : Bounded) → k ≤ d → d - k < length xs
    → stack (d - k + 1) (map f (set xs (d - k) b)) ≡ f b ∷ drop k (stack d (map f xs))
put_at f d k xs b h l = ap (stack (d - k + 1)) (map-set f xs (d - k) b) ∙ stack-put d k (map f xs) (f b) h (rw length-map l)

pub returns : goal.returns
returns c = let p = c.args.self in
    record {
      depth = refl;
      sets = put_at (λ (b : Bounded). b.set) p.depth c.args.taken p.bounds c.args.b c.requires.0 (search rules);
      rows = put_at (λ (b : Bounded). b.rows) p.depth c.args.taken p.bounds c.args.b c.requires.0 (search rules);
      needs = put_at (λ (b : Bounded). b.need) p.depth c.args.taken p.bounds c.args.b c.requires.0 (search rules);
      costs = c.saturating_add.ensures;
      largest_is = c.max.ensures;
    }
