-- What is read from text: decimal numbers, numbers in columns, a line. Assumes nothing.
use mathlib.Core.Path.{◌≡◌, refl, ◌∙◌, ap}
use mathlib.Core.Bool.{Bool, true}
use mathlib.Core.List.{List, [], ◌∷◌, ◌++◌, flat_map, append_assoc, append-nil}
use mathlib.Core.Option.{none, some}
use Prim.Native.Nat.{ℕ, zero, suc, ◌+◌, ◌-◌, ◌*◌, ◌/◌, ◌%◌, ◌^◌, ◌≤◌, ◌<◌}
use native.Mathlib.Omega.{arith}
use lib.Dec.{leb, ltb}
use lib.ListN.{length}
use borrow.Author.Tests.{le-leb, ltb-true}
use Rattle.lists.specs.Lists.{all}
use Rattle.lists.proofs.Tests.{and_l, and_r, and_both}
use Rattle.sheet.specs.Decimal.{blank, line_feed, digit, decimal, aligned}
use Rattle.sheet.specs.Page.{columns, field, line}
use Rattle.sheet.specs.Claims.{is_digit, numbers_from}
use Rattle.sheet.specs.Inner.Lines.{blanks}
use Rattle.sheet.proofs.Digits.{by-tens, decimal-short, decimal-long, decimal-width}

pub digit-is : (d : ℕ) → d < 10 → is_digit (digit d) ≡ true
digit-is d h = and_both (leb 48 (digit d)) (leb (digit d) 57) (le-leb 48 (digit d) (omega arith)) (le-leb (digit d) 57 (omega arith))

first-digit : (d : ℕ) → d < 10 → (text : List ℕ) → numbers_from none (digit d ∷ text) ≡ numbers_from (some d) text
unfolding numbers_from
first-digit d h text = rw (digit-is d h) (ap (λ (k : ℕ). numbers_from (some k) text) (let s : digit d - digit 0 ≡ d = omega arith in s))

next-digit : (x d : ℕ) → d < 10 → (text : List ℕ) → numbers_from (some x) (digit d ∷ text) ≡ numbers_from (some (10 * x + d)) text
unfolding numbers_from
next-digit x d h text = rw (digit-is d h) (ap (λ (k : ℕ). numbers_from (some (10 * x + k)) text) (let s : digit d - digit 0 ≡ d = omega arith in s))

-- The digits of a number, and what is left of the text.
pub reads-decimal : (n : ℕ) (text : List ℕ) → numbers_from none (decimal n ++ text) ≡ numbers_from (some n) text
reads-decimal n = by-tens (λ (n : ℕ). (text : List ℕ) → numbers_from none (decimal n ++ text) ≡ numbers_from (some n) text) short long n
  where
    short : (n : ℕ) → n < 10 → (text : List ℕ) → numbers_from none (decimal n ++ text) ≡ numbers_from (some n) text
    short n h text = ap (λ (l : List ℕ). numbers_from none (l ++ text)) (decimal-short n h) ∙ first-digit n h text

    long : (n : ℕ) → 10 ≤ n → ((text : List ℕ) → numbers_from none (decimal (n / 10) ++ text) ≡ numbers_from (some (n / 10)) text)
        → (text : List ℕ) → numbers_from none (decimal n ++ text) ≡ numbers_from (some n) text
    long n h f text =
        ap (λ (l : List ℕ). numbers_from none (l ++ text)) (decimal-long n h)
        ∙ ap (numbers_from none) (append_assoc (decimal (n / 10)) (digit (n % 10) ∷ []) text)
        ∙ f (digit (n % 10) ∷ text)
        ∙ next-digit (n / 10) (n % 10) (omega arith) text
        ∙ ap (λ (k : ℕ). numbers_from (some k) text) (let s : 10 * (n / 10) + n % 10 ≡ n = omega arith in s)

-- A text that a number before it does not run into: it begins with no digit.
abbrev pub Apart : List ℕ → Type 0
Apart text = (x : ℕ) → numbers_from (some x) text ≡ x ∷ numbers_from none text

apart-blank : (text : List ℕ) → Apart (blank ∷ text)
unfolding numbers_from
apart-blank text x = refl

apart-feed : (text : List ℕ) → Apart (line_feed ∷ text)
unfolding numbers_from
apart-feed text x = refl

reads-blanks : (k : ℕ) (text : List ℕ) → numbers_from none (blanks k ++ text) ≡ numbers_from none text
unfolding numbers_from
reads-blanks zero text = refl
reads-blanks (suc k) text = reads-blanks k text

-- A number in its columns: it is read, and one of at most seven digits is apart from what stands before it.
reads-field : (x : ℕ) (text : List ℕ) → numbers_from none (field x ++ text) ≡ numbers_from (some x) text
unfolding aligned
reads-field x text =
    ap (numbers_from none) (append_assoc (blanks (8 - length (decimal x))) (decimal x) text)
    ∙ reads-blanks (8 - length (decimal x)) (decimal x ++ text) ∙ reads-decimal x text

apart-field : (x : ℕ) → x < 10 ^ 7 → (text : List ℕ) → Apart (field x ++ text)
unfolding aligned
apart-field x h text =
    let some-blank : 8 - length (decimal x) ≡ suc (7 - length (decimal x)) = omega (arith, decimal-width 6 x h) in
    rw some-blank (apart-blank ((blanks (7 - length (decimal x)) ++ decimal x) ++ text))

-- The numbers of a line are short enough to stand apart.
abbrev pub apart : ℕ → Bool
apart w = ltb w (10 ^ 7)

apart-fields : (row text : List ℕ) → all apart row ≡ true → Apart text → Apart (flat_map field row ++ text)
unfolding flat_map all
apart-fields [] text e a = a
apart-fields (x ∷ row) text e a =
    rw (append_assoc (field x) (flat_map field row) text)
    (apart-field x (ltb-true x (10 ^ 7) (and_l (apart x) (all apart row) e)) (flat_map field row ++ text))

reads-fields : (row text : List ℕ) → all apart row ≡ true → Apart text → numbers_from none (flat_map field row ++ text) ≡ row ++ numbers_from none text
unfolding flat_map all
reads-fields [] text e a = refl
reads-fields (x ∷ row) text e a =
    let r : all apart row ≡ true = and_r (apart x) (all apart row) e in
    ap (numbers_from none) (append_assoc (field x) (flat_map field row) text)
    ∙ reads-field x (flat_map field row ++ text)
    ∙ apart-fields row text r a x
    ∙ ap (λ (l : List ℕ). x ∷ l) (reads-fields row text r a)

-- A line: its numbers, and no others.
pub reads-line : (row : List ℕ) → all apart row ≡ true → numbers_from none (line row) ≡ row
unfolding line numbers_from
reads-line row e =
    let k = columns - length (flat_map field row) in
    reads-fields row (blanks k ++ (line_feed ∷ [])) e (end k)
    ∙ ap (λ (l : List ℕ). row ++ l) (reads-blanks k (line_feed ∷ []))
    ∙ append-nil row
  where
    end : (k : ℕ) → Apart (blanks k ++ (line_feed ∷ []))
    end zero = apart-feed []
    end (suc k) = apart-blank (blanks k ++ (line_feed ∷ []))
