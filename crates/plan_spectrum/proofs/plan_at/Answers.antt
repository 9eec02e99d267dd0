-- `plan_spectrum::plan_at` meets its contract. Assumes nothing.
use mathlib.Core.Path.{ap, ◌∙◌}
use Rattle.plan.specs.declared.Plan.{Plan as PlanStruct}
use Prim.Native.Nat.{ℕ}
use mathlib.Core.List.{List, ◌++◌}
use lib.ListN.{take, drop, replicate}
use Rattle.lists.proofs.Parts.{rest_at}
use Rattle.plan_spectrum.proofs.Planned.{plan-read}
use Rattle.plan_spectrum.proofs.plan_at.Goals as goal

pub returns : goal.returns
returns c = (
  ap (λ (p : PlanStruct). p.operators) c.new.ensures,
  plan-read c.new.result c.args.list.now c.args.at c.args.width (ap (λ (p : PlanStruct). p.operators) c.new.ensures) c.requires.0 c.requires.1
      (ap (λ (p : PlanStruct). p.kinds) c.new.ensures) (ap (λ (p : PlanStruct). p.operands) c.new.ensures ∙ c.copy.ensures ∙ ap (λ (l : List ℕ). take c.args.width l ++ drop c.args.width (replicate 31 0)) (rest_at c.args.list.now c.args.at)),
)
