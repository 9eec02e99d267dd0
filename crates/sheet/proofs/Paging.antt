-- The rows of a page in the list, and the page's bytes as they are written: blank lines, the heading, the
-- rows. Assumes nothing.
use mathlib.Core.Path.{◌≡◌, refl, sym, ◌∙◌, ap, ap₂, subst}
use mathlib.Core.Bool.{Bool, true, false, not}
use mathlib.Core.List.{List, [], ◌∷◌, ◌++◌, flat_map, append_assoc}
use Prim.Native.Nat.{ℕ, zero, suc, ◌+◌, ◌-◌, ◌*◌, ◌^◌, ◌≤◌, ◌<◌, min}
use native.Mathlib.Nat.{mul-le-mul_left}
use native.Mathlib.Omega.{arith}
use borrow.Author.Tests.{ltb-false, lt-ltb, leb-true, leb-false}
use borrow.Rule.Slice.PartMut.{put_mid}
use lib.Dec.{ltb, leb}
use lib.ListN.{length, take, drop, replicate, length-drop}
use lib.Seq.{take_all, take-take, take_at, drop_at, drop-drop}
use Rattle.lists.specs.Lists.{any, all}
use Rattle.lists.proofs.Tests.{not-true, not-false}
use Rattle.lists.proofs.All.{all-follows}
use Rattle.lists.proofs.Any.{any-all}
use Rattle.lists.proofs.Parts.{drop-take}
use Rattle.matching.specs.Row.{rows_of}
use Rattle.matching.proofs.Words.{length-rows, rows_take}
use Rattle.sheet.specs.Page.{max_rows, max_word, page_count, line}
use Rattle.sheet.specs.Inner.Lines.{blank_lines, Fitting}
use Rattle.sheet.proofs.Text.{lent, given_back, length-blank-line, length-blank-lines}
use Rattle.sheet.proofs.Numbered.{fitting-take, fitting-drop}
use Rattle.sheet.proofs.Refusals.{RowsRight}

-- A page that there is begins within the rows, and its number fits its columns.
pub first-inside : (page rows : ℕ) → 1 ≤ page → page ≤ page_count rows → 59 * (page - 1) ≤ rows
unfolding page_count
first-inside page rows h l = omega arith

pub count_small : (rows : ℕ) → rows ≤ max_rows → page_count rows < 10 ^ 8
unfolding page_count
count_small rows h = omega arith

-- Rows from f on, and the first c of them.
pub drop-rows : (n f r : ℕ) (l : List ℕ) → f ≤ r → drop f (rows_of n r l) ≡ rows_of n (r - f) (drop (n * f) l)
unfolding rows_of
drop-rows n zero r l h = ap₂ (λ (a b : ℕ). rows_of n a (drop b l)) (let s : r ≡ r - 0 = omega arith in s) (let s : 0 ≡ n * 0 = omega arith in s)
drop-rows n (suc f) zero l h = absurd (omega arith)
drop-rows n (suc f) (suc r) l h =
    drop-rows n f r (drop n l) (omega arith)
    ∙ ap₂ (λ (a : ℕ) (b : List ℕ). rows_of n a b) (let s : r - f ≡ suc r - suc f = omega arith in s)
    (drop-drop (n * f) n l ∙ ap (λ (k : ℕ). drop k l) (let s : n + n * f ≡ n * suc f = omega arith in s))

pub take-rows : (n c r : ℕ) (l : List ℕ) → c ≤ r → take c (rows_of n r l) ≡ rows_of n c l
unfolding rows_of
take-rows n zero r l h = none (rows_of n r l)
  where
    none : (xs : List (List ℕ)) → take 0 xs ≡ []
    none [] = refl
    none (x ∷ xs) = refl
take-rows n (suc c) zero l h = absurd (omega arith)
take-rows n (suc c) (suc r) l h = ap (λ (xs : List (List ℕ)). take n l ∷ xs) (take-rows n c r (drop n l) (omega arith))

-- As many as there are of 59.
take-most : (n r : ℕ) (l : List ℕ) → take 59 (rows_of n r l) ≡ rows_of n (min 59 r) l
take-most n r l = go (leb 59 r) refl
  where
    go : (b : Bool) → leb 59 r ≡ b → take 59 (rows_of n r l) ≡ rows_of n (min 59 r) l
    go true e =
        let h : 59 ≤ r = leb-true 59 r e in
        take-rows n 59 r l h ∙ ap (λ (k : ℕ). rows_of n k l) (let s : 59 ≡ min 59 r = omega arith in s)
    go false e =
        let h : r < 59 = leb-false 59 r e in
        take_all 59 (rows_of n r l) (rw length-rows (omega arith)) ∙ ap (λ (k : ℕ). rows_of n k l) (let s : r ≡ min 59 r = omega arith in s)

-- Words that are not large fit their columns.
pub small-fits : (words : List ℕ) → any (λ (w : ℕ). ltb max_word w) words ≡ false → Fitting words
small-fits words e =
    all-follows (λ (w : ℕ). not (ltb max_word w)) (λ (w : ℕ). ltb w (10 ^ 8)) words
    (not-false (all (λ (w : ℕ). not (ltb max_word w)) words) (sym (any-all (λ (w : ℕ). ltb max_word w) words) ∙ e))
    (λ w t. let l : w ≤ max_word = ltb-false max_word w (not-true (ltb max_word w) t) in lt-ltb w (10 ^ 8) (omega arith))

-- The rows from f on that stand on one page, as words of the list.
module _ (list : List ℕ) (n rows f c w : ℕ) (right : RowsRight list n rows) (inside : f ≤ rows) (is : c ≡ min 59 (rows - f)) (wide : w ≡ n * c) where
  abbrev words : List ℕ
  words = take w (drop (n * f) list)

  -- They end within the rows.
  pub part-ends : n * f + n * c ≤ n * rows
  part-ends =
      let m : n * (f + c) ≤ n * rows = mul-le-mul_left n (let s : f + c ≤ rows = omega arith in s) in
      omega (arith, native.Mathlib.Nat.mul-add n f c)

  pub part-rows : take 59 (drop f (rows_of n rows list)) ≡ rows_of n c words
  part-rows =
      ap (take 59) (drop-rows n f rows list inside)
      ∙ take-most n (rows - f) (drop (n * f) list)
      ∙ ap (λ (k : ℕ). rows_of n k (drop (n * f) list)) (sym is)
      ∙ sym (rows_take n c (drop (n * f) list) w (omega arith))

  pub part-fits : Fitting words
  part-fits =
      subst Fitting
      (ap (take w) (drop-take (n * f) (n * rows) list) ∙ take-take w (n * rows - n * f) (drop (n * f) list) (omega (arith, part-ends)))
      (fitting-take w (drop (n * f) (take (n * rows) list)) (fitting-drop (n * f) (take (n * rows) list) (small-fits (take (n * rows) list) right.small)))

  pub part_length : length words ≡ n * c
  part_length = lib.Seq.length-take-le w (drop (n * f) list) (rw length-drop (omega (arith, part-ends, right.long))) ∙ wide

-- The bytes of a page, in the three steps that write it.
module _ (old blanked headed : List ℕ) (heading : List ℕ) (long : length (line heading) ≡ 81)
    (made : blanked ≡ blank_lines 60 ++ drop 4860 old) (put : headed ≡ line heading ++ drop 81 blanked) where
  abbrev rest : List ℕ
  rest = blank_lines 59 ++ drop 4860 old

  cut : blanked ≡ line [] ++ rest
  unfolding flat_map
  cut = made ∙ append_assoc (line []) (blank_lines 59) (drop 4860 old)

  pub first-blank : take 81 blanked ≡ line []
  first-blank = ap (take 81) cut ∙ take_at (line []) rest 81 length-blank-line

  headed-is : headed ≡ line heading ++ rest
  headed-is = put ∙ ap (λ (l : List ℕ). line heading ++ l) (ap (drop 81) cut ∙ drop_at (line []) rest 81 length-blank-line)

  pub lines-blank : take 4779 (drop 81 headed) ≡ blank_lines 59
  lines-blank = lent headed (line heading) rest 81 4779 headed-is long ∙ take_at (blank_lines 59) (drop 4860 old) 4779 (length-blank-lines 59)

  pub page-put : (on : List (List ℕ)) (c : ℕ) (part : List ℕ) → part ≡ flat_map line (on ++ replicate (59 - c) []) → length on ≡ c
      → put_mid 81 4779 headed part ≡ flat_map line (heading ∷ (on ++ replicate (59 - length on) [])) ++ drop 4860 old
  unfolding flat_map
  page-put on c part p e =
      given_back headed (line heading) rest 81 4779 headed-is long part
      ∙ ap₂ (λ (l m : List ℕ). line heading ++ (l ++ m))
      (p ∙ ap (λ (k : ℕ). flat_map line (on ++ replicate (59 - k) [])) (sym e))
      (drop_at (blank_lines 59) (drop 4860 old) 4779 (length-blank-lines 59))
      ∙ sym (append_assoc (line heading) (flat_map line (on ++ replicate (59 - length on) [])) (drop 4860 old))
