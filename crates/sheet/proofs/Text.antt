-- Laws of blank text and of lines: what a part of them is, and what stands after a part was written. Assumes
-- nothing.
use mathlib.Core.Path.{◌≡◌, refl, sym, ◌∙◌, ap, ap₂}
use mathlib.Core.List.{List, [], ◌∷◌, ◌++◌, flat_map}
use Prim.Native.Nat.{ℕ, zero, suc, ◌+◌, ◌-◌, ◌*◌, ◌^◌, ◌≤◌, ◌<◌}
use native.Mathlib.Omega.{arith}
use borrow.Rule.Slice.PartMut.{put_mid}
use lib.ListN.{length, get_or, take, drop, replicate, length-append, length-replicate, get_or-replicate, replicate-append-replicate, get_or-append}
use lib.Seq.{take_at, drop_at}
use Rattle.lists.proofs.Maps.{flat_map-snoc}
use Rattle.sheet.specs.Decimal.{blank, line_feed, decimal, aligned}
use Rattle.sheet.specs.Page.{columns, number_columns, field, line}
use Rattle.sheet.specs.Inner.Lines.{blanks, blank_lines}
use Rattle.sheet.proofs.Digits.{decimal-width}

-- The k bytes of a text from `at` on, lent and given back as another part.
module _ (text done rest : List ℕ) (at k : ℕ) (is : text ≡ done ++ rest) (long : length done ≡ at) where
  pub lent : take k (drop at text) ≡ take k rest
  lent = ap (take k) (ap (drop at) is ∙ drop_at done rest at long)

  pub given_back : (part : List ℕ) → put_mid at k text part ≡ done ++ (part ++ drop k rest)
  given_back part =
      ap₂ (λ (a b : List ℕ). a ++ (part ++ drop k b)) (ap (take at) is ∙ take_at done rest at long) (ap (drop at) is ∙ drop_at done rest at long)

-- A part of blanks.
pub take-blanks : (m k : ℕ) → m ≤ k → take m (blanks k) ≡ blanks m
take-blanks zero zero h = refl
take-blanks zero (suc k) h = refl
take-blanks (suc m) zero h = absurd (omega arith)
take-blanks (suc m) (suc k) h = ap (λ (l : List ℕ). blank ∷ l) (take-blanks m k (omega arith))

pub drop-blanks : (m k j : ℕ) → k ≡ m + j → drop m (blanks k) ≡ blanks j
drop-blanks zero k j e = ap blanks (let s : k ≡ j = omega arith in s)
drop-blanks (suc m) zero j e = absurd (omega arith)
drop-blanks (suc m) (suc k) j e = drop-blanks m k j (omega arith)

-- A number in its columns.
pub length-field : (x : ℕ) → x < 10 ^ number_columns → length (field x) ≡ number_columns
unfolding aligned
length-field x h =
    length-append (blanks (number_columns - length (decimal x))) (decimal x)
    ∙ (let e : length (blanks (number_columns - length (decimal x))) ≡ number_columns - length (decimal x) = length-replicate (number_columns - length (decimal x)) blank in
    omega (arith, decimal-width 7 x h))

-- The blank line, byte by byte.
pub blank-line : line [] ≡ blanks columns ++ (line_feed ∷ [])
unfolding line flat_map
blank-line = refl

pub length-blank-line : length (line []) ≡ columns + 1
unfolding line flat_map
length-blank-line = refl

pub blank-at : (i : ℕ) → i < columns → get_or (line []) i 0 ≡ blank
unfolding line flat_map
blank-at i h =
    get_or-append (blanks columns) (line_feed ∷ []) 0 i (rw length-replicate h) ∙ get_or-replicate columns i blank 0 h

pub feed-at : get_or (line []) columns 0 ≡ line_feed
unfolding line flat_map
feed-at = refl

-- Blank lines.
pub length-blank-lines : (i : ℕ) → length (blank_lines i) ≡ 81 * i
unfolding flat_map
length-blank-lines zero = refl
length-blank-lines (suc i) =
    length-append (line []) (blank_lines i)
    ∙ (let e : length (blank_lines i) ≡ 81 * i = length-blank-lines i in
    omega (arith, length-blank-line))

pub blank-lines-next : (i : ℕ) → blank_lines (i + 1) ≡ blank_lines i ++ line []
blank-lines-next i =
    ap (flat_map line) (sym (replicate-append-replicate i 1 []))
    ∙ flat_map-snoc line (replicate i []) []
