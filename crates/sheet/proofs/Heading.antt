-- The heading of a page, written over a blank first line. Assumes nothing.
use mathlib.Core.Path.{◌≡◌, refl, sym, ◌∙◌, ap, ap₂, subst}
use mathlib.Core.Bool.{true}
use mathlib.Core.List.{List, [], ◌∷◌, ◌++◌, flat_map, append_assoc}
use Prim.Native.Nat.{ℕ, ◌-◌, ◌^◌, ◌≤◌, ◌<◌}
use native.Mathlib.Omega.{arith}
use lib.Dec.{ltb}
use lib.ListN.{length, get_or, take, drop, length-take, length-replicate}
use lib.Seq.{take-take, take_at, drop-cons, get_or-take}
use borrow.Author.Tests.{lt-ltb}
use Rattle.lists.specs.Lists.{all}
use Rattle.lists.proofs.Tests.{and_both}
use Rattle.sheet.specs.Decimal.{blank, line_feed}
use Rattle.sheet.specs.Page.{field, line}
use Rattle.sheet.specs.Inner.Lines.{blanks, Fitting}
use Rattle.sheet.proofs.Text.{blank-line, length-blank-line, feed-at}
use Rattle.sheet.proofs.Rowed.{line-parts}

pub fitting-two : (a b : ℕ) → a < 10 ^ 8 → b < 10 ^ 8 → Fitting (a ∷ b ∷ [])
unfolding all
fitting-two a b h l = and_both (ltb a (10 ^ 8)) _ (lt-ltb a (10 ^ 8) h) (and_both (ltb b (10 ^ 8)) true (lt-ltb b (10 ^ 8) l) refl)

module _ (page pages : ℕ) (bytes : List ℕ) (small : page < 10 ^ 8) (smalls : pages < 10 ^ 8) (is : take 81 bytes ≡ line []) where
  pub long : 81 ≤ length bytes
  long = omega (arith, sym (length-take 81 bytes) ∙ ap length is ∙ length-blank-line)

  front : take 80 bytes ≡ blanks 80
  front =
      sym (take-take 80 81 bytes (omega arith)) ∙ ap (take 80) (is ∙ blank-line)
      ∙ take_at (blanks 80) (line_feed ∷ []) 80 (length-replicate 80 blank)

  rest : drop 80 bytes ≡ line_feed ∷ drop 81 bytes
  rest =
      drop-cons bytes 80 0 long
      ∙ ap (λ (b : ℕ). b ∷ drop 81 bytes) (sym (get_or-take 81 bytes 80 0 (omega arith)) ∙ ap (λ (l : List ℕ). get_or l 80 0) is ∙ feed-at)

  pub heading-asks : (16 ≤ length (take 80 bytes)) × (take 80 bytes ≡ blanks (length (take 80 bytes))) × Fitting (page ∷ pages ∷ [])
  heading-asks =
      subst (λ (p : List ℕ). (16 ≤ length p) × (p ≡ blanks (length p)) × Fitting (page ∷ pages ∷ [])) (sym front)
      (omega arith, refl, fitting-two page pages small smalls)

  pub heading-put : (part : List ℕ) → part ≡ flat_map field (page ∷ pages ∷ []) ++ blanks (length (take 80 bytes) - 16)
      → part ++ drop 80 bytes ≡ line (page ∷ pages ∷ []) ++ drop 81 bytes
  heading-put part p =
      ap₂ (λ (a b : List ℕ). a ++ b) (p ∙ ap (λ (l : List ℕ). flat_map field (page ∷ pages ∷ []) ++ blanks (length l - 16)) front) rest
      ∙ sym (append_assoc (flat_map field (page ∷ pages ∷ []) ++ blanks 64) (line_feed ∷ []) (drop 81 bytes))
      ∙ ap (λ (l : List ℕ). l ++ drop 81 bytes) (sym (line-parts (page ∷ pages ∷ []) (fitting-two page pages small smalls)))
