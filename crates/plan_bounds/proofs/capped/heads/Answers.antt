-- `plan_bounds::capped::heads` meets its contract: every smaller power of two is below b, and where the last one is, the heads pass 64 bits. Assumes nothing.
use native.Mathlib.Omega.{arith}
use Rattle.join_key.proofs.Doubled.{doubled-last}
use Rattle.plan_bounds.proofs.Capping.{least-power, last-power, heads-over}
use Rattle.plan_bounds.proofs.capped.heads.Goals as goal

pub returns-then-b-gt-LAST_POWER : goal.returns-then-b-gt-LAST_POWER
returns-then-b-gt-LAST_POWER c = heads-over _ _ (last-power c.args.b (omega arith)) (omega arith) (omega arith)

pub returns : goal.returns
returns c =
    let n = c.next_power_of_two in
    let e = doubled-last _ _ (least-power c.args.b n.result n.ensures.power n.ensures.upper_bound) n.ensures.lower_bound in
    omega (arith, e)
