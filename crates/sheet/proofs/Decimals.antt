-- Decimal numbers: their digits spell the number, no zero leads, and no other text does as much. Assumes
-- nothing.
use mathlib.Core.Path.{◌≡◌, refl, sym, ◌∙◌, ap, ap₂, subst}
use mathlib.Core.Bool.{Bool, true, false, ◌&&◌}
use mathlib.Core.List.{List, [], ◌∷◌, ◌++◌}
use Prim.Native.Nat.{ℕ, zero, suc, ◌+◌, ◌-◌, ◌*◌, ◌/◌, ◌%◌, ◌≤◌, ◌<◌}
use native.Mathlib.Nat.{le_trans}
use native.Mathlib.Omega.{arith}
use lib.Dec.{leb, ltb}
use lib.ListN.{length, get_or, take, length-append, get_or-append}
use lib.Seq.{take-suc, take-length, length-take-le, get_or-take}
use borrow.Author.Tests.{leb-true, ltb-true, ltb-false}
use Rattle.lists.specs.Lists.{all}
use Rattle.lists.proofs.Tests.{and_l, and_r, and_both}
use Rattle.lists.proofs.All.{all_append, all_get_d}
use Rattle.sheet.specs.Decimal.{digit, decimal}
use Rattle.sheet.specs.Claims.{is_digit, spelled, Decimal, DecimalOf}
use Rattle.sheet.proofs.Digits.{by-tens, decimal-short, decimal-long, decimal-width}
use Rattle.sheet.proofs.Numbered.{all_first}
use Rattle.sheet.proofs.Reading.{digit-is}

-- One digit more.
spelled-next : (x : ℕ) (text : List ℕ) (b : ℕ) → spelled x (text ++ (b ∷ [])) ≡ 10 * spelled x text + (b - 48)
unfolding spelled
spelled-next x [] b = refl
spelled-next x (a ∷ text) b = spelled-next (10 * x + (a - 48)) text b

spelled-least : (x : ℕ) (text : List ℕ) → x ≤ spelled x text
unfolding spelled
spelled-least x [] = omega arith
spelled-least x (b ∷ text) = le_trans (let s : x ≤ 10 * x + (b - 48) = omega arith in s) (spelled-least (10 * x + (b - 48)) text)

digits_of_lem : (n : ℕ) → all is_digit (decimal n) ≡ true
unfolding all
digits_of_lem =
    by-tens (λ (n : ℕ). all is_digit (decimal n) ≡ true)
    (λ n h. ap (all is_digit) (decimal-short n h) ∙ and_both (is_digit (digit n)) true (digit-is n h) refl)
    (λ n h f.
    ap (all is_digit) (decimal-long n h) ∙ all_append is_digit (decimal (n / 10)) (digit (n % 10) ∷ [])
    ∙ and_both (all is_digit (decimal (n / 10))) (is_digit (digit (n % 10)) && true) f (and_both (is_digit (digit (n % 10))) true (digit-is (n % 10) (omega arith)) refl))

spells-of : (n : ℕ) → spelled 0 (decimal n) ≡ n
unfolding spelled
spells-of =
    by-tens (λ (n : ℕ). spelled 0 (decimal n) ≡ n)
    (λ n h. ap (spelled 0) (decimal-short n h) ∙ omega arith)
    (λ n h f.
    ap (spelled 0) (decimal-long n h) ∙ spelled-next 0 (decimal (n / 10)) (digit (n % 10))
    ∙ ap (λ (k : ℕ). 10 * k + (digit (n % 10) - 48)) f ∙ omega arith)

some_of : (n : ℕ) → 0 < length (decimal n)
some_of =
    by-tens (λ (n : ℕ). 0 < length (decimal n))
    (λ n h. rw (decimal-short n h) (omega arith))
    (λ n h f. rw (decimal-long n h, length-append (decimal (n / 10)) (digit (n % 10) ∷ [])) (omega arith))

leading-of : (n : ℕ) → 0 < n → 48 < get_or (decimal n) 0 0
leading-of =
    by-tens (λ (n : ℕ). 0 < n → 48 < get_or (decimal n) 0 0)
    (λ n h l. rw (decimal-short n h) (omega arith))
    (λ n h f l.
    rw (decimal-long n h, get_or-append (decimal (n / 10)) (digit (n % 10) ∷ []) 0 0 (some_of (n / 10))) (f (omega arith)))

one-digit : (n : ℕ) → 1 < length (decimal n) → 0 < n
one-digit n h = go (ltb n 10) refl
  where
    go : (b : Bool) → ltb n 10 ≡ b → 0 < n
    go true e = absurd (let s : length (decimal n) ≡ 1 = ap length (decimal-short n (ltb-true n 10 e)) in omega arith)
    go false e = let l : 10 ≤ n = ltb-false n 10 e in omega arith

pub decimal-is : (n : ℕ) → Decimal n (decimal n)
decimal-is n =
    record { digits = digits_of_lem n; spells = spells-of n; some_digit = some_of n; leading = λ h. leading-of n (one-digit n h) }

-- A text whose first digit is no zero spells a number above 0.
spelled-some : (text : List ℕ) → 48 < get_or text 0 0 → 0 < spelled 0 text
unfolding spelled
spelled-some [] h = absurd (omega arith)
spelled-some (b ∷ text) h =
    let l : 10 * 0 + (b - 48) ≤ spelled (10 * 0 + (b - 48)) text = spelled-least (10 * 0 + (b - 48)) text in
    omega arith

-- A text of k + 1 digits: the last one is the remainder by 10, those before it spell the tenth.
module _ (k n : ℕ) (text : List ℕ) (is : length text ≡ suc k) (d : Decimal n text) where
  abbrev last : ℕ
  last = get_or text k 0

  abbrev before : List ℕ
  before = take k text

  parts : text ≡ before ++ (last ∷ [])
  parts = sym (take-length text) ∙ ap (λ (j : ℕ). take j text) is ∙ take-suc text k 0 (omega arith)

  one : is_digit last ≡ true
  one = all_get_d is_digit text k 0 (omega arith) d.digits

  low : 48 ≤ last
  low = leb-true 48 last (and_l (leb 48 last) (leb last 57) one)

  high : last ≤ 57
  high = leb-true last 57 (and_r (leb 48 last) (leb last 57) one)

  spell : n ≡ 10 * spelled 0 before + (last - 48)
  spell = sym d.spells ∙ ap (spelled 0) parts ∙ spelled-next 0 before last

  tenth : spelled 0 before ≡ n / 10
  tenth = omega (arith, spell, low, high)

  remainder : last ≡ digit (n % 10)
  remainder = omega (arith, spell, low, high)

  -- One digit.
  pub only_one : k ≡ 0 → text ≡ decimal n
  unfolding spelled
  only_one z =
      let none : before ≡ [] = nothing text k z in
      let short : n < 10 = subst (λ (l : List ℕ). n ≡ 10 * spelled 0 l + (last - 48) → n < 10) (sym none) (λ e. omega (arith, low, high)) spell in
      parts ∙ ap₂ (λ (l : List ℕ) (b : ℕ). l ++ (b ∷ [])) none (remainder ∙ ap digit (let s : n % 10 ≡ n = omega arith in s)) ∙ sym (decimal-short n short)
    where
      nothing : (xs : List ℕ) (j : ℕ) → j ≡ 0 → take j xs ≡ []
      nothing [] zero e = refl
      nothing (x ∷ xs) zero e = refl
      nothing xs (suc j) e = absurd (omega arith)

  -- More: the first is no zero, so those before the last are a decimal number.
  module _ (j : ℕ) (more : k ≡ suc j) where
    size : length before ≡ suc j
    size = length-take-le k text (omega arith) ∙ more

    first : 48 < get_or before 0 0
    first = subst (λ (b : ℕ). 48 < b) (sym (get_or-take k text 0 0 (omega arith))) (d.leading (omega arith))

    pub only-before : Decimal (n / 10) before
    only-before =
        record {
          digits = all_first is_digit k text d.digits;
          spells = tenth;
          some_digit = omega (arith, size);
          leading = λ h. first;
        }

    pub only-more : before ≡ decimal (n / 10) → text ≡ decimal n
    only-more e =
        let big : 10 ≤ n = omega (arith, spelled-some before first, tenth) in
        parts ∙ ap₂ (λ (l : List ℕ) (b : ℕ). l ++ (b ∷ [])) e remainder ∙ sym (decimal-long n big)

only_of : (k n : ℕ) (text : List ℕ) → length text ≡ suc k → Decimal n text → text ≡ decimal n
only_of zero n text is d = only_one zero n text is d refl
only_of (suc k) n text is d =
    only-more (suc k) n text is d k refl
    (only_of k (n / 10) (take (suc k) text) (length-take-le (suc k) text (omega arith)) (only-before (suc k) n text is d k refl))

pub decimal-of : (n : ℕ) → DecimalOf n
decimal-of n =
    record {
      is = decimal-is n;
      only = λ text d. only_of (length text - 1) n text (omega (arith, d.some_digit)) d;
      width = λ w h. decimal-width w n h;
    }
