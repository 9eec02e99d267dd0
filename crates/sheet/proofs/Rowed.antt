-- Blank lines on which the first i rows are written. Assumes nothing.
use mathlib.Core.Path.{◌≡◌, refl, sym, ◌∙◌, ap, ap₂, subst}
use mathlib.Core.List.{List, [], ◌∷◌, ◌++◌, flat_map, append_assoc}
use Prim.Native.Nat.{ℕ, zero, suc, ◌+◌, ◌-◌, ◌*◌, ◌≤◌, ◌<◌}
use native.Mathlib.Nat.{mul_comm}
use native.Mathlib.Numerals.{add-one}
use native.Mathlib.Omega.{arith}
use borrow.Rule.Slice.PartMut.{put_mid}
use lib.ListN.{length, take, drop, replicate, length-append, length-take, length-replicate}
use lib.Seq.{take_at, drop_at, drop-drop}
use Rattle.matching.specs.Row.{rows_of}
use Rattle.matching.proofs.Words.{row_ends, part_length}
use Rattle.lists.proofs.Maps.{flat_map-append, flat_map-snoc}
use Rattle.sheet.specs.Decimal.{blank, line_feed}
use Rattle.sheet.specs.Page.{field, line}
use Rattle.sheet.specs.Inner.Lines.{blanks, blank_lines, Fitting}
use Rattle.sheet.proofs.Text.{lent, given_back, blank-line, length-blank-lines}
use Rattle.sheet.proofs.Numbered.{fitting-take, fitting-drop, length_fields}

rows-suc : (n i : ℕ) (words : List ℕ) → rows_of n (suc i) words ≡ rows_of n i words ++ (take n (drop (n * i) words) ∷ [])
unfolding rows_of
rows-suc n zero words = ap (λ (k : ℕ). take n (drop k words) ∷ []) (let s : 0 ≡ n * 0 = omega arith in s)
rows-suc n (suc i) words =
    ap (λ (l : List (List ℕ)). take n words ∷ l)
    (rows-suc n i (drop n words)
    ∙ ap (λ (l : List ℕ). rows_of n i (drop n words) ++ (take n l ∷ []))
    (drop-drop (n * i) n words ∙ ap (λ (k : ℕ). drop k words) (let s : n + n * i ≡ n * suc i = omega arith in s)))

-- One row more: it is the words from n × i on.
pub rows_next : (n i : ℕ) (words : List ℕ) → rows_of n (i + 1) words ≡ rows_of n i words ++ (take n (drop (n * i) words) ∷ [])
rows_next n i words = ap (λ (k : ℕ). rows_of n k words) (add-one i) ∙ rows-suc n i words

pub row_inside : (n i rows : ℕ) → i < rows → n * i + n ≤ n * rows
row_inside n i rows h = rw (mul_comm n i, mul_comm n rows) (row_ends n rows i h)

-- A line, taken apart.
pub line-parts : (row : List ℕ) → Fitting row → line row ≡ (flat_map field row ++ blanks (80 - 8 * length row)) ++ (line_feed ∷ [])
unfolding line
line-parts row e =
    ap (λ (n : ℕ). flat_map field row ++ (blanks (80 - n) ++ (line_feed ∷ []))) (length_fields row e)
    ∙ sym (append_assoc (flat_map field row) (blanks (80 - 8 * length row)) (line_feed ∷ []))

pub length-line : (row : List ℕ) → 8 * length row ≤ 80 → Fitting row → length (line row) ≡ 81
length-line row h e =
    ap length (line-parts row e) ∙ length-append (flat_map field row ++ blanks (80 - 8 * length row)) (line_feed ∷ [])
    ∙ (let a : length (flat_map field row ++ blanks (80 - 8 * length row)) ≡ length (flat_map field row) + length (blanks (80 - 8 * length row)) =
    length-append (flat_map field row) (blanks (80 - 8 * length row)) in
    let b : length (blanks (80 - 8 * length row)) ≡ 80 - 8 * length row = length-replicate (80 - 8 * length row) blank in
    omega (arith, length_fields row e))

pub length-lines : (n i : ℕ) (words : List ℕ) → 8 * n ≤ 80 → Fitting words → length (flat_map line (rows_of n i words)) ≡ 81 * i
unfolding flat_map rows_of
length-lines n zero words h e = refl
length-lines n (suc i) words h e =
    length-append (line (take n words)) (flat_map line (rows_of n i (drop n words)))
    ∙ (let r : length (flat_map line (rows_of n i (drop n words))) ≡ 81 * i = length-lines n i (drop n words) h (fitting-drop n words e) in
    let s : length (take n words) ≤ n = rw length-take (omega arith) in
    let l : length (line (take n words)) ≡ 81 = length-line (take n words) (omega arith) (fitting-take n words e) in
    omega arith)

-- Blank lines begin with 80 blanks and a line feed.
blank-lines-front : (m : ℕ) → blank_lines (suc m) ≡ blanks 80 ++ ((line_feed ∷ []) ++ blank_lines m)
unfolding flat_map
blank-lines-front m = ap (λ (l : List ℕ). l ++ blank_lines m) blank-line ∙ append_assoc (blanks 80) (line_feed ∷ []) (blank_lines m)

pub record Rowed (words : List ℕ) (n rows : ℕ) (after : List ℕ) (i : ℕ) : Type 0 where
  pub within : i ≤ rows
  pub bytes : after ≡ flat_map line (rows_of n i words) ++ blank_lines (59 - i)

pub rowed-none : (words : List ℕ) (n rows : ℕ) (before : List ℕ) → before ≡ blank_lines 59 → Rowed words n rows before 0
unfolding flat_map rows_of
rowed-none words n rows before e = record { within = omega arith; bytes = e }

module _ (words : List ℕ) (n rows : ℕ) (after : List ℕ) (i : ℕ) (narrow : 8 * n ≤ 80) (few : rows ≤ 59) (long : length words ≡ n * rows)
    (fit : Fitting words) (b : Rowed words n rows after i) where
  size : length (flat_map line (rows_of n i words)) ≡ 81 * i
  size = length-lines n i words narrow fit

  pub rowed-kept : length after ≡ 4779
  rowed-kept =
      ap length b.bytes ∙ length-append (flat_map line (rows_of n i words)) (blank_lines (59 - i))
      ∙ omega (arith, size, length-blank-lines (59 - i), b.within)

  -- The next row and its line, which is blank.
  module _ (k w : ℕ) (is : k ≡ 80) (wide : w ≡ n) (h : i < rows) where
    abbrev row : List ℕ
    row = take n (drop (n * i) words)

    row_long : length row ≡ n
    row_long = part_length (n * i) n words (rw long (row_inside n i rows h))

    front : blank_lines (59 - i) ≡ blanks 80 ++ ((line_feed ∷ []) ++ blank_lines (59 - (i + 1)))
    front = ap blank_lines (let s : 59 - i ≡ suc (59 - (i + 1)) = omega arith in s) ∙ blank-lines-front (59 - (i + 1))

    blank-next : take k (drop (81 * i) after) ≡ blanks 80
    blank-next =
        lent after (flat_map line (rows_of n i words)) (blank_lines (59 - i)) (81 * i) k b.bytes size
        ∙ ap₂ take is front ∙ take_at (blanks 80) ((line_feed ∷ []) ++ blank_lines (59 - (i + 1))) 80 (length-replicate 80 blank)

    pub rowed-asks : (8 * length (take w (drop (n * i) words)) ≤ length (take k (drop (81 * i) after)))
        × (take k (drop (81 * i) after) ≡ blanks (length (take k (drop (81 * i) after)))) × Fitting (take w (drop (n * i) words))
    rowed-asks =
        subst
        (λ (u : ℕ). (8 * length (take u (drop (n * i) words)) ≤ length (take k (drop (81 * i) after)))
        × (take k (drop (81 * i) after) ≡ blanks (length (take k (drop (81 * i) after)))) × Fitting (take u (drop (n * i) words)))
        (sym wide)
        (subst (λ (p : List ℕ). (8 * length row ≤ length p) × (p ≡ blanks (length p)) × Fitting row) (sym blank-next)
        (omega (arith, row_long), refl, fitting-take n (drop (n * i) words) (fitting-drop (n * i) words fit)))

    pub rowed-next : (part : List ℕ)
        → part ≡ flat_map field (take w (drop (n * i) words)) ++ blanks (length (take k (drop (81 * i) after)) - 8 * length (take w (drop (n * i) words)))
        → Rowed words n rows (put_mid (81 * i) k after part) (i + 1)
    rowed-next part p =
        let text : part ≡ flat_map field row ++ blanks (80 - 8 * length row) =
        p ∙ ap₂ (λ (u : ℕ) (v : List ℕ). flat_map field (take u (drop (n * i) words)) ++ blanks (length v - 8 * length (take u (drop (n * i) words)))) wide blank-next in
        record {
          within = omega arith;
          bytes =
              given_back after (flat_map line (rows_of n i words)) (blank_lines (59 - i)) (81 * i) k b.bytes size part
              ∙ ap₂ (λ (l m : List ℕ). flat_map line (rows_of n i words) ++ (l ++ m)) text
              (ap₂ drop is front ∙ drop_at (blanks 80) ((line_feed ∷ []) ++ blank_lines (59 - (i + 1))) 80 (length-replicate 80 blank))
              ∙ ap (λ (l : List ℕ). flat_map line (rows_of n i words) ++ l)
              (sym (append_assoc (flat_map field row ++ blanks (80 - 8 * length row)) (line_feed ∷ []) (blank_lines (59 - (i + 1))))
              ∙ ap (λ (l : List ℕ). l ++ blank_lines (59 - (i + 1))) (sym (line-parts row (fitting-take n (drop (n * i) words) (fitting-drop (n * i) words fit)))))
              ∙ sym (append_assoc (flat_map line (rows_of n i words)) (line row) (blank_lines (59 - (i + 1))))
              ∙ ap (λ (l : List ℕ). l ++ blank_lines (59 - (i + 1)))
              (sym (ap (flat_map line) (rows_next n i words) ∙ flat_map-snoc line (rows_of n i words) row));
        }

  pub rowed-all : rows ≤ i → after ≡ flat_map line (rows_of n rows words ++ replicate (59 - rows) [])
  rowed-all h =
      let e : i ≡ rows = omega (arith, b.within) in
      b.bytes ∙ ap (λ (k : ℕ). flat_map line (rows_of n k words) ++ blank_lines (59 - k)) e
      ∙ sym (flat_map-append line (rows_of n rows words) (replicate (59 - rows) []))
