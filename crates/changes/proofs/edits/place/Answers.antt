-- `changes::edits::place` meets its contract. Assumes nothing.
use native.Mathlib.Omega.{arith}
use mathlib.Core.Path.{◌∙◌}
use Prim.Native.Nat.{◌-◌}
use Rattle.search.proofs.Laws.{first_on, below-first}
use Rattle.changes.proofs.edits.place.Goals as goal

pub returns : goal.returns
returns c = let a = c.args in
    c.walk_up.ensures
    ∙ first_on a.list.now c.requires 0 a.hint a.x (omega arith)
    (omega (arith, below-first a.list.now c.requires 0 a.x (a.hint - 1) (omega arith) (omega arith) (omega arith))) (omega arith)
