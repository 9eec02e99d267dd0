-- `words::clear_used` meets its contract: zeros are written before those that are there. Assumes nothing.
use mathlib.Core.Path.{sym, ◌∙◌, ap}
use mathlib.Core.List.{List, ◌++◌}
use Prim.Native.Nat.{ℕ}
use lib.ListN.{drop}
use lib.Seq.{length-take-le}
use Rattle.words.proofs.Zeros.{zeros-before}
use Rattle.words.proofs.clear_used.Goals as goal

pub slice_bounds-clear-end-2 : goal.slice_bounds-clear-end-2
slice_bounds-clear-end-2 c = sym (length-take-le c.used-end.result c.args.part.now c.used-end.ensures.0)

pub returns : goal.returns
returns c = let part = c.args.part.now in
    ap (λ (l : List ℕ). l ++ drop c.used-end.result part) c.clear.ensures
    ∙ zeros-before part c.used-end.result c.used-end.ensures.0 c.used-end.ensures.1
