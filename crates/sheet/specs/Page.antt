-- The sheet, document 02, paper 13: every byte of a page, the page count, and when a page is refused. Assumes
-- nothing.
use Rattle.std.specs.Prelude.{Bool, cond, ◌||◌, ℕ, ◌+◌, ◌-◌, ◌*◌, ◌/◌, max, eqb, ltb, length, take, drop, replicate}
use mathlib.Core.List.{List, [], ◌∷◌, ◌++◌, flat_map}
use Rattle.lists.specs.Lists.{any}
use Rattle.lists.specs.Refusal.{refuse, first, answered}
use Rattle.query.specs.File.{min_vertices, max_vertices}
use Rattle.matching.specs.Row.{rows_of}
use Rattle.run_spec.specs.Run.{counted}
use Rattle.sheet.specs.declared.PageAnswer.{PageAnswer}
use Rattle.sheet.specs.Decimal.{blank, line_feed, decimal, aligned}

-- '80 columns wide'; 'each item number .. in 8 columns'; '59 rows follow' the first line; 'each line ends in
-- a line feed, so a page is 4,860 bytes'.
abbrev pub columns : ℕ
columns = 80

abbrev pub number_columns : ℕ
number_columns = 8

abbrev pub page_rows : ℕ
page_rows = 59

abbrev pub page_size : ℕ
page_size = 4860

-- 'More than 536,870,912 rows'; 'a row word above 65,535'.
abbrev pub max_rows : ℕ
max_rows = 536870912

abbrev pub max_word : ℕ
max_word = 65535

-- A number, 'in decimal, .. right-aligned in 8 columns'.
abbrev pub field : ℕ → List ℕ
field x = aligned number_columns (decimal x)

-- A line of numbers, 'blanks filling the line', and its line feed. No numbers give a blank line.
unfoldable pub line : List ℕ → List ℕ
line numbers =
    let text = flat_map field numbers in
    text ++ (replicate (columns - length text) blank ++ (line_feed ∷ []))

-- 'The page count equals rows divided by 59, rounded up, and at least 1.'
unfoldable pub page_count : ℕ → ℕ
page_count rows = max 1 ((rows + (page_rows - 1)) / page_rows)

-- The rows of a page, 59 a page 'in list order'.
abbrev pub rows_on : List (List ℕ) → ℕ → List (List ℕ)
rows_on rows page = take page_rows (drop (page_rows * (page - 1)) rows)

-- The lines of a page: 'the first line holds the page number and page count; 59 rows follow, and the last
-- page is filled with blank lines'.
abbrev pub page_lines : List (List ℕ) → ℕ → ℕ → List (List ℕ)
page_lines on page count = (page ∷ count ∷ []) ∷ (on ++ replicate (page_rows - length on) [])

unfoldable pub page_text : List ℕ → ℕ → ℕ → ℕ → List ℕ
page_text list n rows page = flat_map line (page_lines (rows_on (rows_of n rows list) page) page (page_count rows))

-- 'N outside 2 to 8, more than 536,870,912 rows, a list whose counted length is too short for its rows, or a
-- row word above 65,535': a word of any row, on whatever page.
unfoldable pub bad_rows : List ℕ → ℕ → ℕ → Bool
bad_rows list n rows =
    ltb n min_vertices || ltb max_vertices n || ltb max_rows rows || ltb (counted (length list)) (n * rows)
    || any (λ (w : ℕ). ltb max_word w) (take (n * rows) list)

-- 'First with 33 ..; then with 34 a page outside 1 to the count; then with 35 a page buffer too short.'
unfoldable pub page_fault : List ℕ → ℕ → ℕ → ℕ → ℕ → ℕ
page_fault list n rows page room =
    first
    (refuse 33 (bad_rows list n rows)
    ∷ refuse 34 (ltb page 1 || ltb (page_count rows) page)
    ∷ refuse 35 (ltb room page_size)
    ∷ [])

-- It 'answers the page count'.
unfoldable pub page_answer : List ℕ → ℕ → ℕ → ℕ → ℕ → PageAnswer
page_answer list n rows page room =
    let k = page_fault list n rows page room in record { refusal = k; pages = answered k (page_count rows) }

-- The lent bytes afterwards: the page, 'and bytes past it stay untouched'; refused, 'the page untouched'.
unfoldable pub page_bytes : List ℕ → ℕ → ℕ → ℕ → List ℕ → List ℕ
page_bytes list n rows page bytes =
    cond (eqb (page_fault list n rows page (length bytes)) 0)
    (page_text list n rows page ++ drop page_size bytes)
    bytes
