-- `plan_bounds::pile::whole` meets its contract: the loop's invariant: the pile is that of the first i operators. Assumes nothing.
use mathlib.Core.Path.{◌≡◌}
use native.Mathlib.Omega.{arith}
use Rattle.graph.specs.Store.{graph_in}
use Rattle.query.specs.Inner.Struct.{query_in}
use Rattle.plan_file.proofs.Turns.{named-at}
use Rattle.plan_bounds.proofs.Turning.{turned_none, turned-next, turned-deep, turned-all}
use Rattle.plan_bounds.proofs.pile.whole.Goals as goal

pub none-pile-requires : goal.none-pile-requires
none-pile-requires c = tt

pub loop-i-init : goal.loop-i-init
loop-i-init c = let a = c.args in turned_none (graph_in a.store.now) (query_in a.q) a.plan _ c.none-pile.ensures

pub operator-requires : goal.operator-requires
operator-requires c = omega (arith, c.requires.2)

pub after-pile-requires : goal.after-pile-requires
after-pile-requires c = (
  c.requires.0,
  c.requires.1,
  named-at (query_in c.args.q) _ c.loop-i.i _ c.requires.3 (omega arith) c.operator.ensures,
  omega (arith, turned-deep _ _ _ _ _ c.loop-i.invariant, c.requires.2),
)

pub loop-i-preserved : goal.loop-i-preserved
loop-i-preserved c = turned-next _ _ _ c.loop-i.i _ _ _ c.operator.ensures c.loop-i.invariant c.after-pile.ensures

pub returns : goal.returns
returns c = let all : c.loop-i.i ≡ c.args.plan.operators = omega arith in
    (turned-all _ _ _ _ _ all c.loop-i.invariant, omega (arith, turned-deep _ _ _ _ _ c.loop-i.invariant, c.requires.2))
