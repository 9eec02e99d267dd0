-- `changes::fill::fill_head` meets its contract. Assumes nothing.
use native.Mathlib.Omega.{arith}
use lib.ListN.{length-drop, length-set}
use Rattle.lists.proofs.Parts.{rest_at}
use Rattle.changes.proofs.Filled.{head-made}
use Rattle.changes.proofs.fill.fill_head.Goals as goal

pub copy-requires : goal.copy-requires
copy-requires c = let a = c.args in
    (rw (rest_at a.old.now 2, length-drop) (omega (arith, c.requires.there)), rw (rest_at a.store.now 2, length-drop) (omega (arith, c.requires.room_there)))

pub bounds-store-1 : goal.bounds-store-1
bounds-store-1 c = rw length-set (omega arith)

pub returns : goal.returns
returns c = head-made c.args.old.now c.args.store.now c.requires c.copy.ensures
