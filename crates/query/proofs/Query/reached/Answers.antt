-- `query::Query::reached` meets its contract: after k steps, the vertices that k edges lead to. Assumes nothing.
use mathlib.Core.Path.{◌≡◌, ◌∙◌, ap}
use Prim.Native.Nat.{ℕ}
use native.Mathlib.Omega.{arith}
use Rattle.query.specs.Query.{among, reached}
use Rattle.query.specs.Inner.Struct.{query_in}
use Rattle.query.proofs.Steps.{reached-none, reached-more}
use Rattle.query.proofs.Query.reached.Goals as goal

pub loop-step-init : goal.loop-step-init
loop-step-init c = (omega arith, reached-none (query_in c.args.self) c.only-seen.result c.only-seen.ensures)

pub reach-seen-requires : goal.reach-seen-requires
reach-seen-requires c = c.requires

pub loop-step-preserved : goal.loop-step-preserved
unfolding query_in
loop-step-preserved c = (
  omega arith,
  reached-more (query_in c.args.self) c.loop-step._step _ _ (omega arith)
      c.loop-step.invariant.1 c.reach-seen.ensures,
)

pub returns : goal.returns
returns c w = let self = c.args.self in
    let all : c.loop-step._step ≡ self.vertices = omega arith in
    c.loop-step.invariant.1 w ∙ ap (λ (k : ℕ). among (reached (query_in self) k) w) all
