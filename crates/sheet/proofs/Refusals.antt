-- When the rows of a list are refused, test by test, and the refusals of a page in their order. Assumes
-- nothing.
use mathlib.Core.Path.{◌≡◌, refl}
use mathlib.Core.Bool.{true, false, ◌||◌}
use mathlib.Core.List.{List}
use Prim.Native.Nat.{ℕ, ◌*◌, ◌≤◌, ◌<◌}
use native.Mathlib.Nat.{mul-le-mul_right}
use native.Mathlib.Omega.{arith}
use lib.Dec.{ltb}
use lib.ListN.{length, take}
use borrow.Author.Tests.{ltb-false, lt-ltb, le-ltb}
use Rattle.lists.specs.Lists.{any}
use Rattle.lists.proofs.Tests.{or-false-l, or-false-r}
use Rattle.run_spec.specs.Run.{counted}
use Rattle.sheet.specs.Page.{max_rows, max_word, bad_rows}

-- The product of n and the rows fits a word of 64 bits.
pub product_small : (n rows : ℕ) → n ≤ 8 → rows ≤ max_rows → n * rows ≤ 4294967296
product_small n rows h l = let m : n * rows ≤ 8 * rows = mul-le-mul_right rows h in omega arith

module _ (list : List ℕ) (n rows : ℕ) where
  pub bad-low : n < 2 → bad_rows list n rows ≡ true
  unfolding bad_rows
  bad-low h = rw (lt-ltb n 2 h) refl

  pub bad-high : 8 < n → bad_rows list n rows ≡ true
  unfolding bad_rows
  bad-high h = rw (le-ltb n 2 (omega arith), lt-ltb 8 n h) refl

  module _ (above : 2 ≤ n) (below : n ≤ 8) where
    pub bad-many : max_rows < rows → bad_rows list n rows ≡ true
    unfolding bad_rows
    bad-many h = rw (le-ltb n 2 above, le-ltb 8 n below, lt-ltb max_rows rows h) refl

    module _ (few : rows ≤ max_rows) where
      pub bad-short : counted (length list) < n * rows → bad_rows list n rows ≡ true
      unfolding bad_rows
      bad-short h = rw (le-ltb n 2 above, le-ltb 8 n below, le-ltb max_rows rows few, lt-ltb (counted (length list)) (n * rows) h) refl

      pub bad-word : n * rows ≤ counted (length list) → bad_rows list n rows ≡ any (λ (w : ℕ). ltb max_word w) (take (n * rows) list)
      unfolding bad_rows
      bad-word h = rw (le-ltb n 2 above, le-ltb 8 n below, le-ltb max_rows rows few, le-ltb (counted (length list)) (n * rows) h) refl

-- What is known of rows that are not refused.
pub record RowsRight (list : List ℕ) (n rows : ℕ) : Type 0 where
  pub above : 2 ≤ n
  pub below : n ≤ 8
  pub few : rows ≤ max_rows
  pub long : n * rows ≤ length list
  pub small : any (λ (w : ℕ). ltb max_word w) (take (n * rows) list) ≡ false

pub rows_right : (list : List ℕ) (n rows : ℕ) → bad_rows list n rows ≡ false → RowsRight list n rows
unfolding bad_rows
rows_right list n rows e =
    let low = ltb n 2 in
    let high = ltb 8 n in
    let many = ltb max_rows rows in
    let short = ltb (counted (length list)) (n * rows) in
    let large = any (λ (w : ℕ). ltb max_word w) (take (n * rows) list) in
    let e4 : (low || high || many || short) ≡ false = or-false-l (low || high || many || short) large e in
    let e3 : (low || high || many) ≡ false = or-false-l (low || high || many) short e4 in
    let e2 : (low || high) ≡ false = or-false-l (low || high) many e3 in
    let fits : n * rows ≤ counted (length list) = ltb-false (counted (length list)) (n * rows) (or-false-r (low || high || many) short e4) in
    record {
      above = ltb-false n 2 (or-false-l low high e2);
      below = ltb-false 8 n (or-false-r low high e2);
      few = ltb-false max_rows rows (or-false-r (low || high) many e3);
      long = omega arith;
      small = or-false-r (low || high || many || short) large e;
    }
