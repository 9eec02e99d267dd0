-- Laws of the pairs of a vertex, as the code gathers them from the first pairs. Assumes nothing.
use mathlib.Core.Path.{◌≡◌, refl, sym, ◌∙◌, ap₂}
use mathlib.Core.Bool.{Bool, true, false, ◌&&◌, ◌||◌, and-true, and-false}
use mathlib.Core.List.{List, map}
use Prim.Native.Nat.{ℕ, zero, suc, ◌+◌}
use native.Mathlib.Numerals.{add-one}
use lib.Dec.{eqb}
use lib.Bits.{bit_or}
use Rattle.lists.specs.Lists.{range, any}
use Rattle.lists.proofs.Any.{any-suc}
use Rattle.query.specs.Query.{Pair, VertexSet, paired}
use Rattle.query.specs.Inner.Mask.{MaskOf}
use Rattle.query.specs.Inner.Struct.{pair_of, pair_with, query_in}
use Rattle.query.specs.declared.Query.{Query as QueryStruct}
use Rattle.query.proofs.Masks.{in-or, in-none}

-- The low vertex of a pair whose high one is v.
abbrev pub low_of : ℕ → ℕ → Pair → Bool
low_of v w p = eqb p.low w && eqb p.high v

-- The vertices w that are one end of one of the first i pairs, v being the other.
module _ (v : ℕ) (ones others : List ℕ) where
  abbrev pub by_pairs : ℕ → VertexSet
  by_pairs i w = any (low_of v w) (map (pair_with ones others) (range i))

  pub pairs-none : MaskOf 0 (by_pairs 0)
  unfolding any range
  pairs-none w = in-none w

  pub pairs-more : (i m n : ℕ) → MaskOf m (by_pairs i) → MaskOf n (λ (w : ℕ). low_of v w (pair_with ones others i)) → MaskOf (bit_or m n) (by_pairs (i + 1))
  pairs-more i m n hm hn w =
      in-or m n w ∙ ap₂ (λ (a b : Bool). a || b) (hm w) (hn w) ∙ rw add-one (sym (any-suc (low_of v w) (pair_with ones others) i))

pub and-swap : (a b : Bool) → (a && b) ≡ (b && a)
and-swap true b = sym (and-true b)
and-swap false b = sym (and-false b)

-- Where the low ones are the one end, or the high ones.
pub all-lows : (d : QueryStruct) (v w : ℕ) → by_pairs v d.lows d.highs d.pairs w ≡ paired (query_in d) w v
unfolding query_in paired
all-lows d v w = refl

turned : (d : QueryStruct) (v w n : ℕ) → by_pairs v d.highs d.lows n w ≡ any (λ (p : Pair). eqb p.low v && eqb p.high w) (map (pair_of d) (range n))
unfolding any range
turned d v w zero = refl
turned d v w (suc n) =
    any-suc (low_of v w) (pair_with d.highs d.lows) n
    ∙ ap₂ (λ (a b : Bool). a || b) (turned d v w n) (and-swap (eqb (pair_of d n).high w) (eqb (pair_of d n).low v))
    ∙ sym (any-suc (λ (p : Pair). eqb p.low v && eqb p.high w) (pair_of d) n)

pub all-highs : (d : QueryStruct) (v w : ℕ) → by_pairs v d.highs d.lows d.pairs w ≡ paired (query_in d) v w
unfolding query_in paired
all-highs d v w = turned d v w d.pairs
