-- `plan_bounds::pile::Pile::under` meets its contract (`get_or-stack`). Assumes nothing.
use mathlib.Core.Path.{◌≡◌, sym, ◌∙◌}
use mathlib.Core.List.{List, map}
use Prim.Native.Nat.{ℕ, ◌-◌, ◌≤◌, ◌<◌}
use native.Mathlib.Omega.{arith}
use borrow.Author.Rules.{rules}
use lib.ListN.{length, get_or}
use Rattle.lists.proofs.Maps.{get_d_map}
use Rattle.plan.specs.Plan.{max_operators}
use Rattle.plan.specs.Inner.Pile.{stack}
use Rattle.plan.proofs.Stacks.{get_or-stack}
use Rattle.plan_bounds.specs.declared.pile.Bounded.{Bounded}
use Rattle.plan_bounds.proofs.pile.Pile.under.Goals as goal

lies : (f : Bounded → ℕ) (k d : ℕ) (xs : List Bounded) (e : Bounded) → k < d → d ≤ length xs
    → f (get_or xs (d - 1 - k) e) ≡ get_or (stack d (map f xs)) k 0
lies f k d xs e h l = sym (get_or-stack k d (map f xs) h ∙ get_d_map f xs (d - 1 - k) e 0 (omega arith))

pub returns : goal.returns
returns c = let p = c.args.self in
    let none : Bounded = record { set = 0; rows = 0; need = 0 } in
    let long : length c.args.self.bounds ≡ max_operators = search rules in
    record {
      set = lies (λ (b : Bounded). b.set) c.args.under p.depth p.bounds none c.requires.0 (omega (arith, long, c.requires.1));
      rows = lies (λ (b : Bounded). b.rows) c.args.under p.depth p.bounds none c.requires.0 (omega (arith, long, c.requires.1));
      need = lies (λ (b : Bounded). b.need) c.args.under p.depth p.bounds none c.requires.0 (omega (arith, long, c.requires.1));
    }
