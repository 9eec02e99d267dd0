-- `packed::word` meets its contract: both ways join the bytes at i to i + 3, which are 0 past the end. Assumes nothing.
use native.Mathlib.Omega.{arith}
use Rattle.packed.proofs.Laws.{field-word}
use Rattle.packed.proofs.word.Goals as goal

pub returns-then-s-i-ge4 : goal.returns-then-s-i-ge4
returns-then-s-i-ge4 c = c.inner_word.ensures

pub returns : goal.returns
returns c = omega (
  arith,
  field-word c.args.s.now c.args.i
      (λ j. (c.shared_slice_known-1.given j).fits),
)
