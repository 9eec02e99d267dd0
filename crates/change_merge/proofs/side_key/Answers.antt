-- `change_merge::side_key` meets its contract. Assumes nothing.
use Rattle.change_merge.proofs.Nexts.{key-filed, key-there, key-given}
use Rattle.change_merge.proofs.side_key.Goals as goal

pub returns-then-keys-eq0 : goal.returns-then-keys-eq0
returns-then-keys-eq0 c = key-filed _ _ c.requires.0 _ c.requires.1 c.if-keys-eq0.true c.change_key.ensures

pub bounds-keys-j : goal.bounds-keys-j
bounds-keys-j c = key-there _ _ c.requires.0 _ c.requires.1 c.if-keys-eq0.false

pub returns : goal.returns
returns c = key-given _ _ c.requires.0 _ c.requires.1 c.if-keys-eq0.false
