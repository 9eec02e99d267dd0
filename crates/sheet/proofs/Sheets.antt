-- The pages of a list hold every row, once and in the list's order. Assumes nothing.
use mathlib.Core.Path.{◌≡◌, refl, sym, ◌∙◌, ap, ap₂}
use mathlib.Core.Bool.{Bool, true, not, ◌&&◌}
use mathlib.Core.List.{List, [], ◌∷◌, ◌++◌, map, flat_map, append_assoc, append-nil}
use mathlib.Core.Option.{none}
use Prim.Native.Nat.{ℕ, zero, suc, ◌+◌, ◌-◌, ◌*◌, ◌/◌, ◌%◌, ◌^◌, ◌≤◌, ◌<◌}
use native.Mathlib.Omega.{arith}
use lib.Dec.{eqb, leb, ltb}
use lib.ListN.{length, get_or, take, drop, replicate, length-append, length-take, length-drop, length-replicate, get_or-append}
use lib.Seq.{take_at, drop_at, drop-drop, take-add, take_all, get_or-take, get_or-drop}
use borrow.Author.Tests.{ltb-false, lt-ltb, le-leb, leb-true, ne_eqb}
use Rattle.lists.specs.Lists.{range, all, keep}
use Rattle.lists.proofs.Tests.{and_l, and_r, and_both, not-true, not-false}
use Rattle.lists.proofs.All.{all_append, all-follows, all_get_d, keep_append, keep_all}
use Rattle.lists.proofs.Any.{any-all}
use Rattle.lists.proofs.Maps.{map-indices, flat_map-suc, flat_map-range-ext}
use Rattle.matching.specs.Row.{rows_of}
use Rattle.matching.proofs.Words.{length-rows, rows_at, rows_take}
use Rattle.sheet.specs.declared.PageAnswer.{PageAnswer}
use Rattle.sheet.specs.Page.{max_rows, max_word, page_size, page_count, rows_on, page_lines, line, page_text, page_answer, page_bytes}
use Rattle.sheet.specs.Claims.{numbers_from, numbers_on, rows_read, SheetsHoldEveryRow}
use Rattle.sheet.proofs.Numbered.{all_first, all-later}
use Rattle.sheet.proofs.Rowed.{length-line}
use Rattle.sheet.proofs.Refusals.{RowsRight, rows_right}
use Rattle.sheet.proofs.Answers.{fault-none, accepted-left}
use Rattle.sheet.proofs.Reading.{apart, reads-line}

-- A row of at most ten numbers of at most seven digits each: its line is 81 bytes long, and the row is read
-- from it.
abbrev proper : List ℕ → Bool
proper row = leb (length row) 10 && all apart row

proper-long : (row : List ℕ) → proper row ≡ true → length (line row) ≡ 81
proper-long row e =
    let few : length row ≤ 10 = leb-true (length row) 10 (and_l (leb (length row) 10) (all apart row) e) in
    length-line row (omega arith)
    (all-follows apart (λ (w : ℕ). ltb w (10 ^ 8)) row (and_r (leb (length row) 10) (all apart row) e)
    (λ w t. let l : w < 10 ^ 7 = borrow.Author.Tests.ltb-true w (10 ^ 7) t in lt-ltb w (10 ^ 8) (omega arith)))

-- Line k of such lines.
line_at : (rows : List (List ℕ)) (rest : List ℕ) (k : ℕ) → all proper rows ≡ true → k < length rows
    → take 81 (drop (81 * k) (flat_map line rows ++ rest)) ≡ line (get_or rows k [])
unfolding flat_map all
line_at [] rest k e h = absurd (omega arith)
line_at (row ∷ rows) rest zero e h =
    ap (take 81) (append_assoc (line row) (flat_map line rows) rest)
    ∙ take_at (line row) (flat_map line rows ++ rest) 81 (proper-long row (and_l (proper row) (all proper rows) e))
line_at (row ∷ rows) rest (suc k) e h =
    ap (take 81)
    (ap (drop (81 * suc k)) (append_assoc (line row) (flat_map line rows) rest)
    ∙ ap (λ (j : ℕ). drop j (line row ++ (flat_map line rows ++ rest))) (let s : 81 * suc k ≡ 81 + 81 * k = omega arith in s)
    ∙ sym (drop-drop (81 * k) 81 (line row ++ (flat_map line rows ++ rest)))
    ∙ ap (drop (81 * k)) (drop_at (line row) (flat_map line rows ++ rest) 81 (proper-long row (and_l (proper row) (all proper rows) e))))
    ∙ line_at rows rest k (and_r (proper row) (all proper rows) e) (omega arith)

read_at : (rows : List (List ℕ)) (rest : List ℕ) (k : ℕ) → all proper rows ≡ true → k < length rows
    → numbers_on (flat_map line rows ++ rest) (k + 1) ≡ get_or rows k []
read_at rows rest k e h =
    ap (λ (j : ℕ). numbers_from none (take 81 (drop (81 * j) (flat_map line rows ++ rest)))) (let s : k + 1 - 1 ≡ k = omega arith in s)
    ∙ ap (numbers_from none) (line_at rows rest k e h)
    ∙ reads-line (get_or rows k [])
    (and_r (leb (length (get_or rows k [])) 10) (all apart (get_or rows k [])) (all_get_d proper rows k [] h e))

-- Rows of words that stand apart.
rows-proper : (n r : ℕ) (words : List ℕ) → n ≤ 10 → all apart words ≡ true → all proper (rows_of n r words) ≡ true
unfolding rows_of all
rows-proper n zero words h e = refl
rows-proper n (suc r) words h e =
    let few : length (take n words) ≤ 10 = rw length-take (omega arith) in
    and_both (proper (take n words)) (all proper (rows_of n r (drop n words)))
    (and_both (leb (length (take n words)) 10) (all apart (take n words)) (le-leb (length (take n words)) 10 few) (all_first apart n words e))
    (rows-proper n r (drop n words) h (all-later apart n words e))

-- A row that is no blank line.
abbrev filled : List ℕ → Bool
filled row = not (eqb (length row) 0)

rows-filled : (n r : ℕ) (words : List ℕ) → 0 < n → n * r ≤ length words → all filled (rows_of n r words) ≡ true
unfolding rows_of all
rows-filled n zero words h l = refl
rows-filled n (suc r) words h l =
    let room : n + n * r ≤ length words = omega arith in
    let long : length (take n words) ≡ n = lib.Seq.length-take-le n words (omega arith) in
    and_both (filled (take n words)) (all filled (rows_of n r (drop n words)))
    (ap not (ne_eqb (length (take n words)) 0 (λ z. omega arith)))
    (rows-filled n r (drop n words) h (rw length-drop (omega arith)))

none-proper : (k : ℕ) → all proper (replicate k []) ≡ true
unfolding all
none-proper zero = refl
none-proper (suc k) = none-proper k

none_filled : (k : ℕ) → keep filled (replicate k []) ≡ []
unfolding keep
none_filled zero = refl
none_filled (suc k) = none_filled k

-- Parts of 59 in turn are the list.
parts-in-turn : {A : Type 0} (xs : List A) (c : ℕ) → flat_map (λ (k : ℕ). take 59 (drop (59 * k) xs)) (range c) ≡ take (59 * c) xs
unfolding range flat_map
parts-in-turn xs zero = nothing xs
  where
    nothing : {A : Type 0} (xs : List A) → [] ≡ take 0 xs
    nothing [] = refl
    nothing (x ∷ xs) = refl
parts-in-turn xs (suc c) =
    flat_map-suc (λ (k : ℕ). take 59 (drop (59 * k) xs)) c
    ∙ ap (λ (l : List _). l ++ take 59 (drop (59 * c) xs)) (parts-in-turn xs c)
    ∙ sym (take-add (59 * c) 59 xs)
    ∙ ap (λ (k : ℕ). take k xs) (let s : 59 * c + 59 ≡ 59 * suc c = omega arith in s)

count-below : (rows : ℕ) → rows ≤ max_rows → page_count rows < 10 ^ 7
unfolding page_count
count-below rows h = omega arith

has-page-of : (i rows : ℕ) → i < rows → i / 59 + 1 ≤ page_count rows
unfolding page_count
has-page-of i rows h = omega arith

count-reaches : (rows : ℕ) → rows ≤ 59 * page_count rows
unfolding page_count
count-reaches rows = omega arith

module _ (list : List ℕ) (n rows : ℕ) (right : RowsRight list n rows) where
  abbrev rs : List (List ℕ)
  rs = rows_of n rows list

  words-apart : all apart (take (n * rows) list) ≡ true
  words-apart =
      all-follows (λ (w : ℕ). not (ltb max_word w)) apart (take (n * rows) list)
      (not-false (all (λ (w : ℕ). not (ltb max_word w)) (take (n * rows) list)) (sym (any-all (λ (w : ℕ). ltb max_word w) (take (n * rows) list)) ∙ right.small))
      (λ w t. let l : w ≤ max_word = ltb-false max_word w (not-true (ltb max_word w) t) in lt-ltb w (10 ^ 7) (omega arith))

  all-proper : all proper rs ≡ true
  all-proper =
      ap (all proper) (sym (rows_take n rows list (n * rows) (native.Mathlib.Nat.le_refl (n * rows))))
      ∙ rows-proper n rows (take (n * rows) list) (omega (arith, right.below)) words-apart

  all-filled : all filled rs ≡ true
  all-filled = rows-filled n rows list (omega (arith, right.above)) right.long

  -- One page of them.
  module _ (page : ℕ) (low : 1 ≤ page) (high : page ≤ page_count rows) (rest : List ℕ) where
    abbrev on : List (List ℕ)
    on = rows_on rs page

    abbrev below : List (List ℕ)
    below = on ++ replicate (59 - length on) []

    abbrev text : List ℕ
    text = flat_map line (page_lines on page (page_count rows)) ++ rest

    few : length on ≤ 59
    few = rw length-take (omega arith)

    below-long : length below ≡ 59
    below-long =
        length-append on (replicate (59 - length on) [])
        ∙ (let e : length (replicate {A = List ℕ} (59 - length on) []) ≡ 59 - length on = length-replicate (59 - length on) [] in omega (arith, few))

    lines-proper : all proper (page_lines on page (page_count rows)) ≡ true
    unfolding all
    lines-proper =
        let c : page_count rows < 10 ^ 7 = count-below rows right.few in
        and_both (proper (page ∷ page_count rows ∷ [])) (all proper below)
        (and_both (apart page) (apart (page_count rows) && true) (lt-ltb page (10 ^ 7) (omega arith))
        (and_both (apart (page_count rows)) true (lt-ltb (page_count rows) (10 ^ 7) c) refl))
        (all_append proper on (replicate (59 - length on) [])
        ∙ and_both (all proper on) (all proper (replicate (59 - length on) []))
        (all_first proper 59 (drop (59 * (page - 1)) rs) (all-later proper (59 * (page - 1)) rs all-proper)) (none-proper (59 - length on)))

    pub heading-read : numbers_on text 1 ≡ page ∷ page_count rows ∷ []
    heading-read = read_at (page_lines on page (page_count rows)) rest 0 lines-proper (omega arith)

    pub line_read : (k : ℕ) → k < 59 → numbers_on text (k + 2) ≡ get_or below k []
    line_read k h =
        ap (numbers_on text) (let s : k + 2 ≡ suc k + 1 = omega arith in s)
        ∙ read_at (page_lines on page (page_count rows)) rest (suc k) lines-proper (omega (arith, below-long))

    pub page-read : rows_read text ≡ on
    page-read =
        ap (keep filled)
        (ap (λ (c : ℕ). map (λ (k : ℕ). numbers_on text (k + 2)) (range c)) (sym below-long)
        ∙ map-indices (λ (k : ℕ). numbers_on text (k + 2)) below [] (λ k l. line_read k (omega (arith, below-long))))
        ∙ keep_append filled on (replicate (59 - length on) [])
        ∙ ap₂ (λ (a b : List (List ℕ)). a ++ b)
        (keep_all filled on (all_first filled 59 (drop (59 * (page - 1)) rs) (all-later filled (59 * (page - 1)) rs all-filled)))
        (none_filled (59 - length on))
        ∙ append-nil on

  -- Row i among the rows of its page.
  row_on : (i : ℕ) → i < rows → get_or (rows_on rs (i / 59 + 1)) (i % 59) [] ≡ get_or rs i []
  row_on i h =
      get_or-take 59 (drop (59 * (i / 59 + 1 - 1)) rs) (i % 59) [] (omega arith)
      ∙ get_or-drop (59 * (i / 59 + 1 - 1)) rs (i % 59) []
      ∙ ap (λ (k : ℕ). get_or rs k []) (let s : 59 * (i / 59 + 1 - 1) + i % 59 ≡ i = omega arith in s)

  row-stands : (i : ℕ) → i < rows → i % 59 < length (rows_on rs (i / 59 + 1))
  row-stands i h =
      rw (length-take 59 (drop (59 * (i / 59 + 1 - 1)) rs), length-drop (59 * (i / 59 + 1 - 1)) rs, length-rows n rows list) (omega arith)

-- The claim: what the page operation leaves in the lent bytes, page by page.
pub sheets-hold-every-row : (list : List ℕ) (n rows : ℕ) (bytes : List ℕ) → SheetsHoldEveryRow list n rows bytes
unfolding page_text
sheets-hold-every-row list n rows bytes good room =
    record {
      accepted = λ page low high. sym (left page low high).0;
      heading = λ page low high.
          ap (λ (t : List ℕ). numbers_on t 1) (is page low high) ∙ heading-read list n rows right page low high (drop 4860 bytes);
      has_page = λ i h. has-page-of i rows h;
      placed = λ i h.
          let low : 1 ≤ i / 59 + 1 = omega arith in
          let high : i / 59 + 1 ≤ page_count rows = has-page-of i rows h in
          ap (λ (t : List ℕ). numbers_on t (i % 59 + 2)) (is (i / 59 + 1) low high)
          ∙ line_read list n rows right (i / 59 + 1) low high (drop 4860 bytes) (i % 59) (omega arith)
          ∙ get_or-append (rows_on (rows_of n rows list) (i / 59 + 1)) (replicate (59 - length (rows_on (rows_of n rows list) (i / 59 + 1))) []) [] (i % 59)
          (row-stands list n rows right i h)
          ∙ row_on list n rows right i h
          ∙ rows_at n rows list i h;
      each_once =
          flat_map-range-ext (λ (k : ℕ). rows_read (page_bytes list n rows (k + 1) bytes)) (λ (k : ℕ). take 59 (drop (59 * k) (rows_of n rows list)))
          (page_count rows)
          (λ k h.
          let low : 1 ≤ k + 1 = omega arith in
          let high : k + 1 ≤ page_count rows = omega arith in
          ap rows_read (is (k + 1) low high) ∙ page-read list n rows right (k + 1) low high (drop 4860 bytes)
          ∙ ap (λ (j : ℕ). take 59 (drop (59 * j) (rows_of n rows list))) (let s : k + 1 - 1 ≡ k = omega arith in s))
          ∙ parts-in-turn (rows_of n rows list) (page_count rows)
          ∙ take_all (59 * page_count rows) (rows_of n rows list) (rw length-rows (count-reaches rows));
    }
  where
    right : RowsRight list n rows
    right = rows_right list n rows good

    left : (page : ℕ) → 1 ≤ page → page ≤ page_count rows
        → (◌≡◌ {A = PageAnswer} (record { refusal = 0; pages = page_count rows }) (page_answer list n rows page (length bytes)))
        × (page_text list n rows page ++ drop page_size bytes ≡ page_bytes list n rows page bytes)
    left page low high =
        accepted-left list n rows page bytes (page_count rows) (page_text list n rows page ++ drop page_size bytes)
        (fault-none list n rows page (length bytes) good low high room) refl refl

    is : (page : ℕ) → 1 ≤ page → page ≤ page_count rows
        → page_bytes list n rows page bytes ≡ flat_map line (page_lines (rows_on (rows_of n rows list) page) page (page_count rows)) ++ drop 4860 bytes
    is page low high = sym (left page low high).1
