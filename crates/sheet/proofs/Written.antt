-- What the functions that write an accepted page ask, and that the page is whole in the end. Assumes nothing.
use mathlib.Core.Path.{◌≡◌, refl, sym, ◌∙◌, ap₂, subst}
use mathlib.Core.List.{List, [], ◌∷◌, ◌++◌, flat_map}
use Prim.Native.Nat.{ℕ, ◌+◌, ◌-◌, ◌*◌, ◌^◌, ◌≤◌, ◌<◌, min}
use native.Mathlib.Omega.{arith}
use borrow.Rule.Slice.PartMut.{put_mid}
use lib.ListN.{length, take, drop, replicate}
use Rattle.matching.specs.Row.{rows_of}
use Rattle.matching.proofs.Words.{length-rows}
use Rattle.sheet.specs.Page.{max_rows, line, page_text}
use Rattle.sheet.specs.Inner.Lines.{blank_lines, Fitting, Accepted}
use Rattle.sheet.proofs.Rowed.{length-line}
use Rattle.sheet.proofs.Heading.{fitting-two}
use Rattle.sheet.proofs.Refusals.{RowsRight, rows_right, product_small}
use Rattle.sheet.proofs.Paging.{first-inside, count_small, part-ends, part-rows, part-fits, part_length, first-blank, lines-blank, page-put}

module _ {list : List ℕ} {n rows page pages : ℕ} (bytes : List ℕ) (a : Accepted list n rows page pages (length bytes)) where
  right : RowsRight list n rows
  right = rows_right list n rows a.rows_right

  abbrev first : ℕ
  first = 59 * (page - 1)

  pub begins : 59 * (page - 1) ≤ rows
  begins = first-inside page rows a.low (subst (λ (k : ℕ). page ≤ k) a.counted a.high)

  pub begins-small : 59 * (page - 1) ≤ max_rows
  begins-small = omega (arith, begins, right.few)

  pages-small : pages < 10 ^ 8
  pages-small = subst (λ (k : ℕ). k < 10 ^ 8) (sym a.counted) (count_small rows right.few)

  page-small : page < 10 ^ 8
  page-small = omega (arith, pages-small, a.high)

  long : length (line (page ∷ pages ∷ [])) ≡ 81
  long = length-line (page ∷ pages ∷ []) (omega arith) (fitting-two page pages page-small pages-small)

  -- The words of the page's rows, c of them.
  module _ (c : ℕ) (is : c ≡ min 59 (rows - 59 * (page - 1))) where
    abbrev w : ℕ
    w = n * first + n * c - n * first

    abbrev words : List ℕ
    words = take w (drop (n * first) list)

    wide : w ≡ n * c
    wide = omega arith

    ends : n * first + n * c ≤ n * rows
    ends = part-ends list n rows first c w right begins is wide

    pub rows_end : n * (59 * (page - 1)) + n * c ≤ length list
    rows_end = omega (arith, ends, right.long)

    pub rows-small : n * (59 * (page - 1)) + n * c ≤ 4294967296
    rows-small = omega (arith, ends, product_small n rows right.below right.few)

    words_long : length words ≡ n * c
    words_long = part_length list n rows first c w right begins is wide

    words_fit : Fitting words
    words_fit = part-fits list n rows first c w right begins is wide

    words-rows : rows_of n c words ≡ take 59 (drop first (rows_of n rows list))
    words-rows = sym (part-rows list n rows first c w right begins is wide)

  module _ (blanked : List ℕ) (made : blanked ≡ blank_lines 60 ++ drop 4860 bytes) where
    pub heading-asked : (page < 10 ^ 8) × (pages < 10 ^ 8) × (take 81 blanked ≡ line [])
    heading-asked = (
      page-small,
      pages-small,
      first-blank bytes blanked (line (page ∷ pages ∷ []) ++ drop 81 blanked) (page ∷ pages ∷ []) long made refl,
    )

    module _ (headed : List ℕ) (put : headed ≡ line (page ∷ pages ∷ []) ++ drop 81 blanked)
        (c : ℕ) (is : c ≡ min 59 (rows - 59 * (page - 1))) where
      pub rows-asked : (8 * n ≤ 80) × (c ≤ 59) × (length (words c is) ≡ n * c) × Fitting (words c is)
          × (take 4779 (drop 81 headed) ≡ blank_lines 59)
      rows-asked = (
        omega (arith, right.below),
        omega arith,
        words_long c is,
        words_fit c is,
        lines-blank bytes blanked headed (page ∷ pages ∷ []) long made put,
      )

      pub page-whole : (part : List ℕ) → part ≡ flat_map line (rows_of n c (words c is) ++ replicate (59 - c) [])
          → put_mid 81 4779 headed part ≡ page_text list n rows page ++ drop 4860 bytes
      unfolding page_text
      page-whole part p =
          let on = rows_of n c (words c is) in
          page-put bytes blanked headed (page ∷ pages ∷ []) long made put on c part p (length-rows n c (words c is))
          ∙ ap₂
          (λ (l : List (List ℕ)) (k : ℕ).
          flat_map line ((page ∷ k ∷ []) ∷ (l ++ replicate (59 - length l) [])) ++ drop 4860 bytes)
          (words-rows c is) a.counted
