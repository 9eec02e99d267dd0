-- `sheet::number::put_number` meets its contract: the digits after those that are left are written. Assumes nothing.
use Prim.Native.Nat.{◌-◌}
use native.Mathlib.Omega.{arith}
use Rattle.sheet.proofs.Numbers.{start, next, last}
use Rattle.sheet.proofs.number.put_number.Goals as goal

pub loop-i-init : goal.loop-i-init
loop-i-init c = start _ _ c.requires.0 c.requires.1 c.requires.2

pub returns-then-rest-eq0 : goal.returns-then-rest-eq0
returns-then-rest-eq0 c = let l = c.loop-i in last _ _ _ l.i (l.i - 1) _ (omega arith) l.invariant c.if-rest-eq0.true

pub loop-i-preserved : goal.loop-i-preserved
loop-i-preserved c = let l = c.loop-i in next _ _ _ l.i (l.i - 1) _ (omega arith) l.invariant c.if-rest-eq0.false

pub returns : goal.returns
returns c = absurd (omega (arith, c.loop-i.invariant.left))
