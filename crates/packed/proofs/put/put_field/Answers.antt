-- `packed::put::put_field` meets its contract: the word at the field's first byte, with the number in the place of what the field
-- held, is the word of the bits that are asked for (`put_is`). Assumes nothing.
-- What `cut` gives is what the field held.
use mathlib.Core.Path.{◌≡◌, ap, ◌∙◌}
use Prim.Native.Nat.{ℕ, ◌-◌, ◌*◌, ◌/◌, ◌%◌, ◌^◌}
use native.Mathlib.Omega.{arith}
use Rattle.packed.specs.Field.{field_at}
use Rattle.packed.proofs.Laws.{field_lt, field_cut}
use Rattle.packed.proofs.Shifts.{shifted}
use Rattle.packed.proofs.Putting.{put_is, held-part, put-fits}
use Rattle.packed.proofs.put.put_field.Goals as goal

pub overflow_sub-w : goal.overflow_sub-w
overflow_sub-w c = let held : let a = c.args in c.cut-old.result ≡ field_at a.s.now a.at a.width = let a = c.args in
    c.cut-old.ensures ∙ ap (λ (n : ℕ). n / 2 ^ (32 - a.at % 8 - a.width) % 2 ^ a.width) c.word-w.ensures ∙ field_cut a.s.now a.at a.width 32 (omega arith) in
    let a = c.args in
    rw (held, c.word-w.ensures, shifted (field_at a.s.now a.at a.width) a.width (32 - a.at % 8 - a.width) (field_lt a.s.now a.at a.width) (omega arith))
    (held-part a.s.now a.at a.width a.x (omega arith))

pub overflow_add-w : goal.overflow_add-w
overflow_add-w c = let held : let a = c.args in c.cut-old.result ≡ field_at a.s.now a.at a.width = let a = c.args in
    c.cut-old.ensures ∙ ap (λ (n : ℕ). n / 2 ^ (32 - a.at % 8 - a.width) % 2 ^ a.width) c.word-w.ensures ∙ field_cut a.s.now a.at a.width 32 (omega arith) in
    let a = c.args in
    record {
      fits = rw (held, c.word-w.ensures, shifted (field_at a.s.now a.at a.width) a.width (32 - a.at % 8 - a.width) (field_lt a.s.now a.at a.width) (omega arith), shifted a.x a.width (32 - a.at % 8 - a.width) c.requires.2 (omega arith))
          (omega (arith, field_lt a.s.now (8 * (a.at / 8)) 32, put-fits a.s.now a.at a.width a.x c.requires.2 (omega arith)));
    }

pub returns : goal.returns
returns c = let held : let a = c.args in c.cut-old.result ≡ field_at a.s.now a.at a.width = let a = c.args in
    c.cut-old.ensures ∙ ap (λ (n : ℕ). n / 2 ^ (32 - a.at % 8 - a.width) % 2 ^ a.width) c.word-w.ensures ∙ field_cut a.s.now a.at a.width 32 (omega arith) in
    let a = c.args in
    rw (c.put_word.ensures, held, c.word-w.ensures, shifted (field_at a.s.now a.at a.width) a.width (32 - a.at % 8 - a.width) (field_lt a.s.now a.at a.width) (omega arith), shifted a.x a.width (32 - a.at % 8 - a.width) c.requires.2 (omega arith))
    (put_is a.s.now a.at a.width a.x (λ j. (c.slice_known-1.given j).fits) c.requires.2 (omega arith))
