-- A page whose first i lines were made blank. Assumes nothing.
use mathlib.Core.Path.{◌≡◌, refl, sym, ◌∙◌, ap, ap₂}
use mathlib.Core.List.{List, [], ◌++◌, flat_map, append_assoc}
use Prim.Native.Nat.{ℕ, ◌+◌, ◌-◌, ◌*◌, ◌≤◌, ◌<◌}
use native.Mathlib.Omega.{arith}
use borrow.Rule.Slice.PartMut.{put_mid}
use lib.ListN.{length, take, drop, length-append, length-drop}
use lib.Seq.{drop-drop, length-take-le}
use Rattle.sheet.specs.Page.{page_size, line}
use Rattle.sheet.specs.Inner.Lines.{blank_lines}
use Rattle.sheet.proofs.Text.{given_back, length-blank-lines, blank-lines-next}

pub record Blanked (before after : List ℕ) (i : ℕ) : Type 0 where
  pub within : i ≤ 60
  pub bytes : after ≡ blank_lines i ++ drop (81 * i) before

pub blanked-none : (before : List ℕ) → Blanked before before 0
unfolding flat_map
blanked-none before = record { within = omega arith; bytes = refl }

module _ (before after : List ℕ) (i : ℕ) (room : page_size ≤ length before) (b : Blanked before after i) where
  pub blanked-kept : length after ≡ length before
  blanked-kept =
      ap length b.bytes ∙ length-append (blank_lines i) (drop (81 * i) before)
      ∙ (let e : length (drop (81 * i) before) ≡ length before - 81 * i = length-drop (81 * i) before in
      omega (arith, length-blank-lines i, b.within))

  -- The next line, and the page with it.
  pub blanked-line : (k : ℕ) → k ≡ 81 → i < 60 → length (take k (drop (81 * i) after)) ≡ 81
  blanked-line k e h =
      length-take-le k (drop (81 * i) after) (rw length-drop (omega (arith, blanked-kept))) ∙ e

  pub blanked-next : (part : List ℕ) (k : ℕ) → k ≡ 81 → i < 60 → part ≡ line [] → Blanked before (put_mid (81 * i) k after part) (i + 1)
  blanked-next part k e h p =
      record {
        within = omega arith;
        bytes =
            given_back after (blank_lines i) (drop (81 * i) before) (81 * i) k b.bytes (length-blank-lines i) part
            ∙ ap₂ (λ (l m : List ℕ). blank_lines i ++ (l ++ m)) p
            (drop-drop k (81 * i) before ∙ ap (λ (n : ℕ). drop n before) (let s : 81 * i + k ≡ 81 * (i + 1) = omega arith in s))
            ∙ sym (append_assoc (blank_lines i) (line []) (drop (81 * (i + 1)) before))
            ∙ ap (λ (l : List ℕ). l ++ drop (81 * (i + 1)) before) (sym (blank-lines-next i));
      }

  pub blanked-page : 60 ≤ i → after ≡ blank_lines 60 ++ drop page_size before
  blanked-page h =
      let e : i ≡ 60 = omega (arith, b.within) in
      b.bytes ∙ ap (λ (n : ℕ). blank_lines n ++ drop (81 * n) before) e
