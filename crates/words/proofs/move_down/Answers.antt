-- `words::move_down` meets its contract: the first i words are those from `from` on, which are read before they are written over.
-- Assumes nothing.
use mathlib.Core.Path.{sym, ◌∙◌, ap}
use Prim.Native.Nat.{ℕ, ◌<◌}
use native.Mathlib.Nat.{add_comm}
use native.Mathlib.Omega.{arith}
use lib.ListN.{length, get_or, drop, length-drop}
use lib.Seq.{get_or-drop}
use Rattle.words.proofs.Copying.{start, next, still, done}
use Rattle.words.proofs.move_down.Goals as goal

pub loop-i-init : goal.loop-i-init
loop-i-init c = start _ _

pub bounds-part-from : goal.bounds-part-from
bounds-part-from c = omega (arith, c.loop-i.invariant.kept)

pub bounds-part-i : goal.bounds-part-i
bounds-part-i c = omega (arith, c.loop-i.invariant.kept)

pub loop-i-preserved : goal.loop-i-preserved
loop-i-preserved c = let p = c.args.part.now in
    let from = c.args.from in
    let i = c.loop-i.i in
    let inside : i < length (drop from p) = rw length-drop (omega arith) in
    next _ p _ i _ inside (omega arith)
    (ap (λ (n : ℕ). get_or c.loop-i.part n 0) (add_comm from i)
    ∙ still _ p _ i from (omega arith) c.loop-i.invariant
    ∙ ap (λ (n : ℕ). get_or p n 0) (add_comm i from) ∙ sym (get_or-drop from p i 0))
    c.loop-i.invariant

pub returns : goal.returns
returns c = done _ c.args.part.now _ c.loop-i.i c.args.count (omega arith) (omega arith)
    c.loop-i.invariant
