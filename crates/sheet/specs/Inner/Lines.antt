-- What the functions that write a page ask of their words, and the blank text that they write over. Assumes
-- nothing.
use Rattle.std.specs.Prelude.{◌≡◌, true, false, ℕ, ◌^◌, ◌≤◌, ltb, replicate}
use mathlib.Core.List.{List, [], flat_map}
use Rattle.lists.specs.Lists.{all}
use Rattle.sheet.specs.Decimal.{blank}
use Rattle.sheet.specs.Page.{number_columns, page_size, line, page_count, bad_rows}

abbrev pub blanks : ℕ → List ℕ
blanks k = replicate k blank

abbrev pub blank_lines : ℕ → List ℕ
blank_lines k = flat_map line (replicate k [])

-- The numbers fit their columns.
abbrev pub Fitting : List ℕ → Type 0
Fitting words = all (λ (w : ℕ). ltb w (10 ^ number_columns)) words ≡ true

-- What is asked before a page is written: nothing is refused.
pub record Accepted (list : List ℕ) (n rows page pages room : ℕ) : Type 0 where
  pub rows_right : bad_rows list n rows ≡ false
  pub counted : pages ≡ page_count rows
  pub low : 1 ≤ page
  pub high : page ≤ pages
  pub fits : page_size ≤ room
