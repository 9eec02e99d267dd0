-- What it says of a vertex's list, and of a side, that they fit. Assumes nothing.
use mathlib.Core.Path.{◌≡◌, ◌∙◌}
use mathlib.Core.Bool.{Bool, true, ◌&&◌}
use mathlib.Core.List.{List}
use Prim.Native.Nat.{ℕ, ◌+◌, ◌%◌, ◌≤◌, ◌<◌}
use lib.Dec.{ltb}
use lib.ListN.{length}
use borrow.Author.Tests.{ltb-true}
use Rattle.lists.specs.Lists.{all, ascends_from, ascending}
use Rattle.lists.proofs.Tests.{and_l, and_r, and_both}
use Rattle.lists.proofs.All.{all-at, all-and}
use Rattle.lists.proofs.Sort.{ascends-tail, ascends-above}
use Rattle.adjacency.specs.Inner.Side.{list_on}
use Rattle.store_reverse.specs.Inner.Check.{list_fits, offsets_fit, offsets_on, side_fits, side_good, GoodSide}
use Rattle.store_reverse.proofs.Offsets.{offsets-rising, offsets-within}

ruleset conj = (and_l, and_r)

-- A list that fits: its entries have labels 1 to 255 and neighbours below n.
abbrev pub good_entry : ℕ → ℕ → Bool
good_entry n k = ltb 65535 k && (ltb k 16777216 && ltb (k % 65536) n)

pub fit-entries : (n : ℕ) (s : List ℕ) → list_fits n s ≡ true → all (good_entry n) s ≡ true
unfolding list_fits
fit-entries n s e =
    all-and (λ (k : ℕ). ltb 65535 k) (λ (k : ℕ). ltb k 16777216 && ltb (k % 65536) n) s
    ∙ and_both (all (λ (k : ℕ). ltb 65535 k) s) (all (λ (k : ℕ). ltb k 16777216 && ltb (k % 65536) n) s)
    (ascends-above 65535 s (and_l (ascends_from 65535 s) (all (λ (k : ℕ). ltb k 16777216 && ltb (k % 65536) n) s) e))
    (and_r (ascends_from 65535 s) (all (λ (k : ℕ). ltb k 16777216 && ltb (k % 65536) n) s) e)

pub fit-ascending : (n : ℕ) (s : List ℕ) → list_fits n s ≡ true → ascending s ≡ true
unfolding list_fits ascending
fit-ascending n s e = ascends-tail 65535 s (and_l (ascends_from 65535 s) (all (λ (k : ℕ). ltb k 16777216 && ltb (k % 65536) n) s) e)

pub record Entry (n k : ℕ) : Type 0 where
  pub given : 65535 < k
  pub fits : k < 16777216
  pub inside : k % 65536 < n

pub good-entry : (n k : ℕ) → good_entry n k ≡ true → Entry n k
good-entry n k t =
    record {
      given = ltb-true 65535 k (search conj);
      fits = ltb-true k 16777216 (search conj);
      inside = ltb-true (k % 65536) n (search conj);
    }

-- A side that passes its tests, in a store that has its words.
pub good-side : (store : List ℕ) (n m side : ℕ) → side + n + 1 + m ≤ length store → side_good store n m side ≡ true → GoodSide store n side
good-side store n m side room t =
    record {
      within =
          offsets-within store n m side room
          (offsets-rising store n m side room (and_l (offsets_fit m (offsets_on store n side)) (side_fits store n side) t));
      fits = and_r (offsets_fit m (offsets_on store n side)) (side_fits store n side) t;
    }

-- Its lists.
module _ {store : List ℕ} {n side : ℕ} (good : GoodSide store n side) where
  pub side-list : (v : ℕ) → v < n → list_fits n (list_on store n side v) ≡ true
  unfolding side_fits
  side-list v h = all-at (λ (v : ℕ). list_fits n (list_on store n side v)) n good.fits v h

  pub side-ascends : (v : ℕ) → v < n → ascending (list_on store n side v) ≡ true
  side-ascends v h = fit-ascending n (list_on store n side v) (side-list v h)
