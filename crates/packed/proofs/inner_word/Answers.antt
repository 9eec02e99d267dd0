-- `packed::inner_word` meets its contract: it joins the bytes at i to i + 3. Assumes nothing.
use native.Mathlib.Omega.{arith}
use Rattle.packed.proofs.Laws.{field-word}
use Rattle.packed.proofs.inner_word.Goals as goal

pub returns : goal.returns
returns c = omega (arith, field-word c.args.s.now c.args.i (λ j. (c.shared_slice_known-1.given j).fits))
