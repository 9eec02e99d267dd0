-- `sheet::large::any_large` meets its contract: the bits of the first i words are gathered. Assumes nothing.
use Prim.Native.Nat.{◌≤◌}
use lib.ListN.{length}
use Rattle.sheet.proofs.Gathered.{Gathered}
use Rattle.sheet.proofs.large.any_large.Given as goal

abbrev pub invariant-loop-word : goal.invariant-loop-word
invariant-loop-word l = (l.word-index ≤ length l.words) × Gathered l.words l.seen l.word-index
