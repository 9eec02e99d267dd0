-- The bits of a word are taken in ascending order. Assumes nothing.
use mathlib.Core.Path.{◌≡◌, refl, ◌∙◌, ap, subst}
use mathlib.Core.Bool.{Bool, true, false}
use mathlib.Core.List.{List, ◌∷◌}
use Prim.Native.Nat.{ℕ, ◌^◌, ◌≤◌, ◌<◌}
use native.Mathlib.Omega.{arith}
use lib.Count.{trailing_of_zero, trailing_le}
use lib.Dec.{ltb}
use borrow.Author.Tests.{ltb-true, ltb-false}
use Rattle.lists.specs.Lists.{range, ascends_from, ascending}
use Rattle.lists.proofs.Tests.{and_l}
use Rattle.lists.proofs.Sort.{ascending-keep}
use Rattle.lists.proofs.Ascending.{ascending-range}
use Rattle.bitset.specs.Inner.Set.{in_word, bits_from, lowest_bit, without_lowest}
use Rattle.bitset.proofs.Drain.{bits-next}

pub lowest-most : (w : ℕ) → lowest_bit w ≤ 64
unfolding lowest_bit
lowest-most w = trailing_le 64 w

bits-ascend : (w : ℕ) → ascending (bits_from w) ≡ true
unfolding bits_from
bits-ascend w = ascending-keep (in_word w) (range 64) (ascending-range 64)

without-less : (w : ℕ) → without_lowest w ≤ w
unfolding without_lowest
without-less w = omega arith

-- The next one is above it, or there is none.
pub lowest-rises : (w : ℕ) → 0 < w → w < 2 ^ 64 → lowest_bit w < 64 → lowest_bit w < lowest_bit (without_lowest w)
unfolding ascending ascends_from lowest_bit
lowest-rises w h k few = go (ltb 0 (without_lowest w)) refl
  where
    go : (b : Bool) → ltb 0 (without_lowest w) ≡ b → lowest_bit w < lowest_bit (without_lowest w)
    go true e =
        let some : 0 < without_lowest w = ltb-true 0 (without_lowest w) e in
        let fits : without_lowest w < 2 ^ 64 = omega (arith, without-less w) in
        let both : bits_from w ≡ lowest_bit w ∷ lowest_bit (without_lowest w) ∷ bits_from (without_lowest (without_lowest w)) =
        bits-next w h k ∙ ap (λ (l : List ℕ). lowest_bit w ∷ l) (bits-next (without_lowest w) some fits) in
        ltb-true (lowest_bit w) (lowest_bit (without_lowest w))
        (and_l (ltb (lowest_bit w) (lowest_bit (without_lowest w))) (ascends_from (lowest_bit (without_lowest w)) (bits_from (without_lowest (without_lowest w))))
        (subst (λ (l : List ℕ). ascending l ≡ true) both (bits-ascend w)))
    go false e =
        let none : without_lowest w ≡ 0 = omega (arith, ltb-false 0 (without_lowest w) e) in
        omega (arith, ap lowest_bit none, trailing_of_zero 64)
