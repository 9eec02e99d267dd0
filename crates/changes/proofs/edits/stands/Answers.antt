-- `changes::edits::stands` meets its contract. Assumes nothing.
use mathlib.Core.Path.{sym, ◌∙◌}
use Prim.Native.Nat.{zero-le}
use native.Mathlib.Omega.{arith}
use lib.ListN.{length}
use borrow.Author.Tests.{lt-ltb, le-ltb}
use Rattle.search.proofs.Laws.{first_any}
use Rattle.changes.proofs.edits.stands.Goals as goal

pub returns-then-place-list : goal.returns-then-place-list
returns-then-place-list c = let a = c.args in
    sym (first_any a.list.now c.requires.0 0 a.x zero-le ∙ rw (← c.requires.1, lt-ltb a.place (length a.list.now) (omega arith)))

pub returns-else-place-list : goal.returns-else-place-list
returns-else-place-list c = let a = c.args in
    sym (first_any a.list.now c.requires.0 0 a.x zero-le ∙ rw (← c.requires.1, le-ltb a.place (length a.list.now) (omega arith)))
