-- `plan_bounds::pile::after` meets its contract, by the operator. Assumes nothing.
use native.Mathlib.Omega.{arith}
use Rattle.plan.proofs.Sets.{named-vertex, named-edge}
use Rattle.plan_bounds.proofs.pile.after.Goals as goal

pub after_scan-requires : goal.after_scan-requires
after_scan-requires c = (c.requires.0, c.requires.1, named-edge _ _ (rw c.in-Scan.is at c.requires.2), c.requires.3)

pub after_extend-requires : goal.after_extend-requires
after_extend-requires c = (c.requires.0, c.requires.1, named-vertex _ c.requires.0.held _ (rw c.in-Extend.is at c.requires.2), omega (arith, c.requires.3))

pub after_join-requires : goal.after_join-requires
after_join-requires c = (c.requires.0, omega (arith, c.requires.3))

pub returns-in-Scan : goal.returns-in-Scan
returns-in-Scan c = rw c.in-Scan.is c.after_scan.ensures

pub returns-in-Extend : goal.returns-in-Extend
returns-in-Extend c = rw c.in-Extend.is c.after_extend.ensures

pub returns-in-Join : goal.returns-in-Join
returns-in-Join c = rw c.in-Join.is (c.after_join.ensures _)
