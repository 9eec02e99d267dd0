-- What is claimed of the pages: 'the sheets hold every row in list order'. It is said by a reader of text
-- that knows nothing of how a page is written: lines of 81 bytes, and in each the numbers that its digits
-- spell. Assumes nothing.
use Rattle.std.specs.Prelude.{◌≡◌, Bool, true, false, cond, not, ◌&&◌, ℕ, suc, ◌+◌, ◌-◌, ◌*◌, ◌/◌, ◌%◌, ◌^◌, ◌≤◌, ◌<◌, eqb, leb, length, get_or, take, drop}
use mathlib.Core.List.{List, [], ◌∷◌, map, flat_map}
use Rattle.std.proofs.Math.Option.{Option, none, some}
use Rattle.lists.specs.Lists.{range, all, keep}
use Rattle.matching.specs.Row.{rows_of}
use Rattle.sheet.specs.Decimal.{digit, decimal}
use Rattle.sheet.specs.Page.{page_size, bad_rows, page_count, page_answer, page_bytes}

abbrev pub is_digit : ℕ → Bool
is_digit b = leb (digit 0) b && leb b (digit 9)

-- The number that a text of digits spells, after the number x.
unfoldable pub spelled : ℕ → List ℕ → ℕ
spelled x [] = x
spelled x (b ∷ bs) = spelled (10 * x + (b - digit 0)) bs

-- Decimal numbers: digits that spell the number, the first of them no zero but in 0 itself; so many as its
-- size asks, and no other text is one.
pub record Decimal (n : ℕ) (text : List ℕ) : Type 0 where
  pub digits : all is_digit text ≡ true
  pub spells : spelled 0 text ≡ n
  pub some_digit : 0 < length text
  pub leading : 1 < length text → digit 0 < get_or text 0 0

pub record DecimalOf (n : ℕ) : Type 0 where
  pub is : Decimal n (decimal n)
  pub only : (text : List ℕ) → Decimal n text → text ≡ decimal n
  pub width : (w : ℕ) → n < 10 ^ suc w → length (decimal n) ≤ suc w

-- The numbers of a text, of which one may have begun before it.
unfoldable pub numbers_from : Option ℕ → List ℕ → List ℕ
numbers_from none [] = []
numbers_from (some x) [] = x ∷ []
numbers_from none (b ∷ bs) = cond (is_digit b) (numbers_from (some (b - digit 0)) bs) (numbers_from none bs)
numbers_from (some x) (b ∷ bs) =
    cond (is_digit b) (numbers_from (some (10 * x + (b - digit 0))) bs) (x ∷ numbers_from none bs)

-- The numbers on line k of a page, the first line being 1.
abbrev pub numbers_on : List ℕ → ℕ → List ℕ
numbers_on page k = numbers_from none (take 81 (drop (81 * (k - 1)) page))

-- The rows of a page: the numbers on each of lines 2 to 60 that has any.
abbrev pub rows_read : List ℕ → List (List ℕ)
rows_read page =
    keep (λ (row : List ℕ). not (eqb (length row) 0))
    (map (λ (k : ℕ). numbers_on page (k + 2)) (range 59))

-- The pages 1 to the count of a list, each written into lent bytes: none is refused, each says its number and
-- the count, row i stands on line i mod 59 + 2 of page i div 59 + 1, and the rows that are read from all
-- pages in turn are those of the list, each once and in its order.
pub record EveryRow (list : List ℕ) (n rows : ℕ) (bytes : List ℕ) : Type 0 where
  pub accepted : (page : ℕ) → 1 ≤ page → page ≤ page_count rows
      → page_answer list n rows page (length bytes) ≡ record { refusal = 0; pages = page_count rows }
  pub heading : (page : ℕ) → 1 ≤ page → page ≤ page_count rows
      → numbers_on (page_bytes list n rows page bytes) 1 ≡ page ∷ page_count rows ∷ []
  pub has_page : (i : ℕ) → i < rows → i / 59 + 1 ≤ page_count rows
  pub placed : (i : ℕ) → i < rows
      → numbers_on (page_bytes list n rows (i / 59 + 1) bytes) (i % 59 + 2) ≡ take n (drop (i * n) list)
  pub each_once :
      flat_map (λ (k : ℕ). rows_read (page_bytes list n rows (k + 1) bytes)) (range (page_count rows))
      ≡ rows_of n rows list

-- So it is of every list that 33 does not turn away, in bytes that hold a page.
abbrev pub SheetsHoldEveryRow : List ℕ → ℕ → ℕ → List ℕ → Type 0
SheetsHoldEveryRow list n rows bytes =
    bad_rows list n rows ≡ false → page_size ≤ length bytes → EveryRow list n rows bytes
