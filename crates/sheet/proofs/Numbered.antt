-- A blank text on which the first i numbers are written. Assumes nothing.
use mathlib.Core.Path.{◌≡◌, refl, sym, ◌∙◌, ap, ap₂, subst}
use mathlib.Core.Bool.{Bool, true, ◌&&◌}
use mathlib.Core.List.{List, [], ◌∷◌, ◌++◌, flat_map, append_assoc}
use Prim.Native.Nat.{ℕ, ◌+◌, ◌-◌, ◌*◌, ◌^◌, ◌≤◌, ◌<◌}
use native.Mathlib.Numerals.{add-one}
use native.Mathlib.Omega.{arith}
use borrow.Author.Tests.{ltb-true}
use borrow.Rule.Slice.PartMut.{put_mid}
use lib.Dec.{ltb}
use lib.ListN.{length, get_or, take, drop, length-append, length-replicate, take-append-drop}
use lib.Seq.{take-suc, take_all, length-take-le}
use Rattle.lists.specs.Lists.{all}
use Rattle.lists.proofs.Tests.{and_l, and_r}
use Rattle.lists.proofs.All.{all_append, all_get_d}
use Rattle.lists.proofs.Maps.{flat_map-snoc}
use Rattle.sheet.specs.Decimal.{blank, decimal, aligned}
use Rattle.sheet.specs.Page.{field}
use Rattle.sheet.specs.Inner.Lines.{blanks, Fitting}
use Rattle.sheet.proofs.Text.{lent, given_back, take-blanks, drop-blanks, length-field}

abbrev fits : ℕ → Bool
fits w = ltb w (10 ^ 8)

-- What every number passes, the first ones pass and the others.
module _ {A : Type 0} (p : A → Bool) (i : ℕ) (xs : List A) (e : all p xs ≡ true) where
  both : (all p (take i xs) && all p (drop i xs)) ≡ true
  both = sym (all_append p (take i xs) (drop i xs)) ∙ ap (all p) (take-append-drop i xs) ∙ e

  pub all_first : all p (take i xs) ≡ true
  all_first = and_l (all p (take i xs)) (all p (drop i xs)) both

  pub all-later : all p (drop i xs) ≡ true
  all-later = and_r (all p (take i xs)) (all p (drop i xs)) both

pub fitting-take : (i : ℕ) (xs : List ℕ) → Fitting xs → Fitting (take i xs)
fitting-take i xs e = all_first fits i xs e

pub fitting-drop : (i : ℕ) (xs : List ℕ) → Fitting xs → Fitting (drop i xs)
fitting-drop i xs e = all-later fits i xs e

pub fitting-at : (xs : List ℕ) (i : ℕ) → i < length xs → Fitting xs → get_or xs i 0 < 10 ^ 8
fitting-at xs i h e = ltb-true (get_or xs i 0) (10 ^ 8) (all_get_d fits xs i 0 h e)

pub length_fields : (xs : List ℕ) → Fitting xs → length (flat_map field xs) ≡ 8 * length xs
unfolding flat_map all
length_fields [] e = refl
length_fields (x ∷ xs) e =
    length-append (field x) (flat_map field xs)
    ∙ (let f : length (field x) ≡ 8 = length-field x (ltb-true x (10 ^ 8) (and_l (fits x) (all fits xs) e)) in
    let r : length (flat_map field xs) ≡ 8 * length xs = length_fields xs (and_r (fits x) (all fits xs) e) in
    omega arith)

-- What a number's columns are asked to be.
pub asked : (x : ℕ) (part : List ℕ) → part ≡ blanks 8 → x < 10 ^ 8 → (0 < length part) × (x < 10 ^ length part) × (part ≡ blanks (length part))
asked x part e h =
    subst (λ (p : List ℕ). (0 < length p) × (x < 10 ^ length p) × (p ≡ blanks (length p))) (sym e) (omega arith, h, refl)

pub record Numbered (numbers before after : List ℕ) (i : ℕ) : Type 0 where
  pub within : i ≤ length numbers
  pub bytes : after ≡ flat_map field (take i numbers) ++ blanks (length before - 8 * i)

pub numbered-none : (numbers before : List ℕ) → before ≡ blanks (length before) → Numbered numbers before before 0
unfolding flat_map
numbered-none numbers before e = record { within = omega arith; bytes = e ∙ none numbers (length before) }
  where
    none : (xs : List ℕ) (n : ℕ) → blanks n ≡ flat_map field (take 0 xs) ++ blanks (n - 8 * 0)
    none [] n = ap blanks (let s : n ≡ n - 8 * 0 = omega arith in s)
    none (x ∷ xs) n = ap blanks (let s : n ≡ n - 8 * 0 = omega arith in s)

module _ (numbers before after : List ℕ) (i : ℕ) (room : 8 * length numbers ≤ length before) (fit : Fitting numbers)
    (b : Numbered numbers before after i) where
  size : length (flat_map field (take i numbers)) ≡ 8 * i
  size = length_fields (take i numbers) (fitting-take i numbers fit) ∙ ap (λ (n : ℕ). 8 * n) (length-take-le i numbers b.within)

  pub numbered-kept : length after ≡ length before
  numbered-kept =
      ap length b.bytes ∙ length-append (flat_map field (take i numbers)) (blanks (length before - 8 * i))
      ∙ (let e : length (blanks (length before - 8 * i)) ≡ length before - 8 * i = length-replicate (length before - 8 * i) blank in
      omega (arith, size, b.within))

  -- The next number's columns, and the text with it.
  pub numbered-part : (k : ℕ) → k ≡ 8 → i < length numbers → take k (drop (8 * i) after) ≡ blanks 8
  numbered-part k e h =
      lent after (flat_map field (take i numbers)) (blanks (length before - 8 * i)) (8 * i) k b.bytes size
      ∙ take-blanks k (length before - 8 * i) (omega arith) ∙ ap blanks e

  pub numbered_next : (part : List ℕ) (k : ℕ) → k ≡ 8 → i < length numbers
      → part ≡ aligned (length (take k (drop (8 * i) after))) (decimal (get_or numbers i 0)) → Numbered numbers before (put_mid (8 * i) k after part) (i + 1)
  numbered_next part k e h p =
      let x = get_or numbers i 0 in
      let left : length before - 8 * i ≡ k + (length before - 8 * (i + 1)) = omega arith in
      record {
        within = omega arith;
        bytes =
            given_back after (flat_map field (take i numbers)) (blanks (length before - 8 * i)) (8 * i) k b.bytes size part
            ∙ ap₂ (λ (l m : List ℕ). flat_map field (take i numbers) ++ (l ++ m))
            (p ∙ ap (λ (n : ℕ). aligned n (decimal x)) (ap length (numbered-part k e h) ∙ length-replicate 8 blank))
            (drop-blanks k (length before - 8 * i) (length before - 8 * (i + 1)) left)
            ∙ sym (append_assoc (flat_map field (take i numbers)) (field x) (blanks (length before - 8 * (i + 1))))
            ∙ ap (λ (l : List ℕ). l ++ blanks (length before - 8 * (i + 1)))
            (sym (ap (λ (n : ℕ). flat_map field (take n numbers)) (add-one i) ∙ ap (flat_map field) (take-suc numbers i 0 h) ∙ flat_map-snoc field (take i numbers) x));
      }

  pub numbered-all : length numbers ≤ i → after ≡ flat_map field numbers ++ blanks (length before - 8 * length numbers)
  numbered-all h =
      let e : i ≡ length numbers = omega (arith, b.within) in
      b.bytes ∙ ap₂ (λ (l : List ℕ) (n : ℕ). flat_map field l ++ blanks (length before - 8 * n)) (take_all i numbers h) e
