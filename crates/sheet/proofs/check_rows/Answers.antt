-- `sheet::check_rows` meets its contract. Assumes nothing.
use mathlib.Core.Path.{◌≡◌, sym, ◌∙◌, ap}
use mathlib.Core.Bool.{true}
use native.Mathlib.Omega.{arith}
use lib.Seq.{length-take-le}
use Rattle.lists.specs.Refusal.{refuse}
use Rattle.sheet.specs.Page.{bad_rows}
use Rattle.sheet.proofs.Refusals.{product_small, bad-low, bad-high, bad-many, bad-short, bad-word}
use Rattle.sheet.proofs.check_rows.Goals as goal
use Rattle.sheet.proofs.check_rows.Goals.{then-n-lt-MIN_VERTICES-via-then-n-lt-MIN_VERTICES, then-n-lt-MIN_VERTICES-via-else-n-lt-MIN_VERTICES+then-n-gt-MAX_VERTICES, then-n-lt-MIN_VERTICES-via-else-n-lt-MIN_VERTICES+else-n-gt-MAX_VERTICES+then-rows-gt-MAX_ROWS, then-list-count-via-then-list-count, then-list-count-via-else-list-count+then-count-gt-MAX_WORDS, then-list-count-via-else-list-count+else-count-gt-MAX_WORDS+then-any_large}

pub overflow_mul-count : goal.overflow_mul-count
overflow_mul-count c = let a = c.args in omega (arith, product_small a.n a.rows (omega arith) (omega arith))

pub slice_bounds-any_large-end : goal.slice_bounds-any_large-end
slice_bounds-any_large-end c = let a = c.args in sym (length-take-le _ a.list.now (omega arith))

pub returns-then-n-lt-MIN_VERTICES : goal.returns-then-n-lt-MIN_VERTICES
returns-then-n-lt-MIN_VERTICES c = let a = c.args in
    let bad : bad_rows a.list.now a.n a.rows ≡ true =
    elim c.then-n-lt-MIN_VERTICES.branch [
      | then-n-lt-MIN_VERTICES-via-then-n-lt-MIN_VERTICES w ↦ bad-low a.list.now a.n a.rows w.if-n-lt-MIN_VERTICES.true
      | then-n-lt-MIN_VERTICES-via-else-n-lt-MIN_VERTICES+then-n-gt-MAX_VERTICES w ↦ bad-high a.list.now a.n a.rows w.if-n-gt-MAX_VERTICES.true
      | then-n-lt-MIN_VERTICES-via-else-n-lt-MIN_VERTICES+else-n-gt-MAX_VERTICES+then-rows-gt-MAX_ROWS w ↦
          bad-many a.list.now a.n a.rows (omega arith) (omega arith) (omega arith)
    ] in
    sym (ap (refuse 33) bad)

pub returns-then-list-count : goal.returns-then-list-count
returns-then-list-count c = let a = c.args in
    let bad : bad_rows a.list.now a.n a.rows ≡ true =
    elim c.then-list-count.branch [
      | then-list-count-via-then-list-count w ↦ bad-short a.list.now a.n a.rows (omega arith) (omega arith) (omega arith) (omega arith)
      | then-list-count-via-else-list-count+then-count-gt-MAX_WORDS w ↦
          bad-short a.list.now a.n a.rows (omega arith) (omega arith) (omega arith) (omega arith)
      | then-list-count-via-else-list-count+else-count-gt-MAX_WORDS+then-any_large w ↦
          bad-word a.list.now a.n a.rows (omega arith) (omega arith) (omega arith) (omega arith) ∙ sym w.any_large.ensures ∙ w.if-any_large.true
    ] in
    sym (ap (refuse 33) bad)

pub returns : goal.returns
returns c = let a = c.args in
    sym (ap (refuse 33) (bad-word a.list.now a.n a.rows (omega arith) (omega arith) (omega arith) (omega arith) ∙ sym c.any_large.ensures ∙ c.if-any_large.false))
