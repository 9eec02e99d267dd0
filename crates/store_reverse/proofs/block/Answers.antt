-- `store_reverse::block` meets its contract: fewer entries than a block are all taken. Assumes nothing.
use mathlib.Core.Path.{◌≡◌, refl, sym, ◌∙◌, ap}
use mathlib.Core.Bool.{Bool, true, false}
use mathlib.Core.List.{List}
use Prim.Native.Nat.{ℕ, min}
use native.Mathlib.Omega.{arith}
use lib.Dec.{ltb}
use lib.ListN.{length, take, drop, length-drop}
use lib.Seq.{take_all}
use borrow.Author.Tests.{ltb-true, ltb-false}
use Rattle.store_reverse.proofs.block.Goals as goal

as_far : (xs : List ℕ) (n k : ℕ) → k ≡ min (length xs) n → take k xs ≡ take n xs
as_far xs n k e = go (ltb (length xs) n) refl
  where
    go : (b : Bool) → ltb (length xs) n ≡ b → take k xs ≡ take n xs
    go true t = let h = ltb-true (length xs) n t in take_all k xs (omega arith) ∙ sym (take_all n xs (omega arith))
    go false t = let h = ltb-false (length xs) n t in ap (λ (j : ℕ). take j xs) (omega arith)

pub returns : goal.returns
returns c = as_far (drop c.args.base c.args.entries.now) 1024 _ (rw length-drop (omega (arith, c.min.ensures)))
