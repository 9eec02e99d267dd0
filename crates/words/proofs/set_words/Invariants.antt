-- `words::set_words` meets its contract: where none of the words so far is set, they are 0. Assumes nothing.
use mathlib.Core.Path.{◌≡◌}
use Prim.Native.Nat.{◌≤◌}
use Rattle.words.proofs.Zeros.{ZerosIn}
use Rattle.words.proofs.set_words.Given as goal

abbrev pub invariant-loop-word : goal.invariant-loop-word
invariant-loop-word l = (l.sum ≤ l.word-index) × (l.sum ≡ 0 → ZerosIn l.part 0 l.word-index)
