-- A number written over blanks from its last digit to its first. Assumes nothing.
use mathlib.Core.Path.{◌≡◌, refl, sym, ◌∙◌, ap, ap₂, subst}
use mathlib.Core.List.{List, [], ◌∷◌, ◌++◌, append-nil, append_assoc}
use Prim.Native.Nat.{ℕ, zero, suc, ◌-◌, ◌/◌, ◌%◌, ◌^◌, ◌≤◌, ◌<◌}
use native.Mathlib.Omega.{arith}
use lib.ListN.{length, drop, set, length-drop, length-set, length-replicate}
use lib.Seq.{drop-length, drop_at, set_at}
use Rattle.sheet.specs.Decimal.{blank, digit, decimal, aligned}
use Rattle.sheet.specs.Inner.Lines.{blanks}
use Rattle.sheet.proofs.Digits.{decimal-short, decimal-long}

-- The digits of x after those of `rest` are written, from column i on; the columns before it are blank.
pub record Writing (x width : ℕ) (text : List ℕ) (i rest : ℕ) : Type 0 where
  pub left : 0 < i
  pub within : i ≤ width
  pub small : rest < 10 ^ i
  pub kept : length text ≡ width
  pub before : text ≡ blanks i ++ drop i text
  pub whole : decimal x ≡ decimal rest ++ drop i text

pub start : (x : ℕ) (text : List ℕ) → 0 < length text → x < 10 ^ length text → text ≡ blanks (length text)
    → Writing x (length text) text (length text) x
start x text h l e =
    record {
      left = h;
      within = omega arith;
      small = l;
      kept = refl;
      before = e ∙ sym (append-nil (blanks (length text))) ∙ ap (λ (t : List ℕ). blanks (length text) ++ t) (sym (drop-length text));
      whole = sym (append-nil (decimal x)) ∙ ap (λ (t : List ℕ). decimal x ++ t) (sym (drop-length text));
    }

-- One blank more than j.
blanks-suc : (j : ℕ) (t : List ℕ) → blanks (suc j) ++ t ≡ blanks j ++ (blank ∷ t)
blanks-suc zero t = refl
blanks-suc (suc j) t = ap (λ (l : List ℕ). blank ∷ l) (blanks-suc j t)

module _ (x width : ℕ) (text : List ℕ) (i j rest : ℕ) (is : i ≡ suc j) (now : Writing x width text i rest) where
  w : Writing x width text (suc j) rest
  w = subst (λ (k : ℕ). Writing x width text k rest) is now

  abbrev d : ℕ
  d = digit (rest % 10)

  put : set text j d ≡ blanks j ++ (d ∷ drop (suc j) text)
  put =
      ap (λ (l : List ℕ). set l j d) (w.before ∙ blanks-suc j (drop (suc j) text))
      ∙ set_at (blanks j) blank (drop (suc j) text) d j (length-replicate j blank)

  after : drop j (set text j d) ≡ d ∷ drop (suc j) text
  after = ap (drop j) put ∙ drop_at (blanks j) (d ∷ drop (suc j) text) j (length-replicate j blank)

  some : (k : ℕ) → rest / 10 < 10 ^ k → (rest / 10 ≡ 0 → ⊥) → 0 < k
  some zero l n = absurd (omega (arith, n))
  some (suc k) l n = omega arith

  pub next : (rest / 10 ≡ 0 → ⊥) → Writing x width (set text j d) j (rest / 10)
  next n =
      let small : rest / 10 < 10 ^ j = omega (arith, w.small) in
      record {
        left = some j small n;
        within = omega (arith, w.within);
        small = small;
        kept = length-set text j d ∙ w.kept;
        before = put ∙ ap (λ (t : List ℕ). blanks j ++ t) (sym after);
        whole =
            w.whole
            ∙ ap (λ (l : List ℕ). l ++ drop (suc j) text) (decimal-long rest (omega (arith, n)))
            ∙ append_assoc (decimal (rest / 10)) (d ∷ []) (drop (suc j) text)
            ∙ ap (λ (t : List ℕ). decimal (rest / 10) ++ t) (sym after);
      }

  -- The first digit was the last to be written.
  pub last : rest / 10 ≡ 0 → set text j d ≡ aligned width (decimal x)
  unfolding aligned
  last e =
      let one : rest < 10 = omega arith in
      let all : decimal x ≡ d ∷ drop (suc j) text =
      w.whole ∙ ap (λ (l : List ℕ). l ++ drop (suc j) text) (decimal-short rest one ∙ ap (λ (k : ℕ). digit k ∷ []) (let s : rest ≡ rest % 10 = omega arith in s)) in
      let size : width - length (decimal x) ≡ j =
      ap (λ (l : List ℕ). width - length l) all
      ∙ (let z : length (drop (suc j) text) ≡ length text - suc j = length-drop (suc j) text in omega (arith, w.kept, w.within)) in
      put ∙ sym (ap₂ (λ (k : ℕ) (l : List ℕ). blanks k ++ l) size all)
