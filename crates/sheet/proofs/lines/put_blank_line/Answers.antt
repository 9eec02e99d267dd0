-- `sheet::lines::put_blank_line` meets its contract: blanks, and the line feed makes the line whole. Assumes nothing.
use mathlib.Core.Path.{◌≡◌, sym, ◌∙◌, ap}
use mathlib.Core.List.{List, [], ◌∷◌, ◌++◌}
use Prim.Native.Nat.{ℕ, suc}
use native.Mathlib.Omega.{arith}
use lib.ListN.{length, get_or, take, drop, set, replicate, length-replicate, drop_of_length-le}
use lib.Seq.{length-take-le, set_at}
use Rattle.std.proofs.Common.{drop-cons}
use Rattle.sheet.specs.Decimal.{line_feed}
use Rattle.sheet.specs.Inner.Lines.{blanks}
use Rattle.sheet.proofs.Text.{blank-line}
use Rattle.sheet.proofs.lines.put_blank_line.Goals as goal

fed : (text : List ℕ) (n : ℕ) → length text ≡ suc n → set (blanks n ++ drop n text) n line_feed ≡ blanks n ++ (line_feed ∷ [])
fed text n h =
    ap (λ (l : List ℕ). set (blanks n ++ l) n line_feed)
    (drop-cons text n 0 (omega arith) ∙ ap (λ (l : List ℕ). get_or text n 0 ∷ l) (drop_of_length-le text {i = suc n} (omega arith)))
    ∙ set_at (blanks n) (get_or text n 0) [] line_feed n (length-replicate n 32)

pub slice_bounds-fill-end-2 : goal.slice_bounds-fill-end-2
slice_bounds-fill-end-2 c = sym (length-take-le 80 c.args.text.now (omega arith))

pub returns : goal.returns
returns c = let t = c.args.text.now in
    let filled : c.fill.new.self ≡ replicate (length (take 80 t)) 32 = c.fill.ensures.after (λ y e. e) in
    ap (λ (l : List ℕ). set (l ++ drop 80 t) 80 10) (filled ∙ ap (λ (k : ℕ). replicate k 32) (length-take-le 80 t (omega arith)))
    ∙ fed t 80 c.requires ∙ sym blank-line
