-- `plan_bounds::longest::Portions::with` meets its contract (`seen_more`). Assumes nothing.
use mathlib.Core.Path.{◌≡◌, refl, ◌∙◌}
use Prim.Native.Nat.{min}
use Rattle.plan_bounds.proofs.Seeing.{seen_more}
use Rattle.plan_bounds.proofs.longest.Portions.with.Goals as goal
use Rattle.plan_bounds.proofs.longest.Portions.with.Goals.{then-self-eq0, else-self-eq0}

pub returns : goal.returns
returns c =
    let first : c.args.self.count ≡ 0 → c.if-self-eq0.result ≡ c.args.length = λ z.
    elim c.if-self-eq0.branch [
      | then-self-eq0 w ↦ w.result-is
      | else-self-eq0 w ↦ absurd (w.if-self-eq0.false z)
    ] in
    let later : (c.args.self.count ≡ 0 → ⊥) → c.if-self-eq0.result ≡ min c.args.self.least c.args.length = λ n.
    elim c.if-self-eq0.branch [
      | then-self-eq0 w ↦ absurd (n w.if-self-eq0.true)
      | else-self-eq0 w ↦ w.result-is ∙ w.min.ensures
    ] in
    (seen_more _ _ _ refl refl first later, refl, refl)
