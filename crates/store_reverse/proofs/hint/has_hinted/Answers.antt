-- `store_reverse::hint::has_hinted` meets its contract: whatever the hint, the place found is the word's. Assumes nothing.
-- A place is an index, and the word is there.
use native.Mathlib.Omega.{arith}
use Rattle.search.proofs.Places.{place-some}
use Rattle.store_reverse.proofs.Loops.{unplaced, placed}
use Rattle.store_reverse.proofs.hint.has_hinted.Goals as goal

pub returns-in_default : goal.returns-in_default
returns-in_default c = unplaced _ _ c.requires.0 c.in_default.ensures

pub returns-then-hint-place : goal.returns-then-hint-place
returns-then-hint-place c = placed _ _ c.requires.0 c.in-Some.ensures

pub overflow_add-hints : goal.overflow_add-hints
overflow_add-hints c = omega (arith, (place-some _ _ c.requires.0 c.in-Some.ensures).1)

pub returns : goal.returns
returns c = placed _ _ c.requires.0 c.in-Some.ensures
