-- A side of a store whose offsets start at 0, never fall and end at m: its lists lie one after the other, and make up its m
-- entries. Assumes nothing.
use mathlib.Core.Path.{◌≡◌, refl, sym, ◌∙◌, ap, ap₂}
use mathlib.Core.Bool.{true}
use mathlib.Core.List.{List, [], ◌∷◌, ◌++◌, flat_map}
use Prim.Native.Nat.{ℕ, zero, suc, ◌+◌, ◌-◌, ◌≤◌, ◌<◌, zero-le}
use native.Mathlib.Nat.{add-sub_of_le, not-suc-le-zero, le_of_suc-le-suc}
use native.Mathlib.Omega.{arith}
use lib.Dec.{eqb, leb}
use lib.ListN.{length, get_or, take, drop, length-drop}
use lib.Seq.{take-add, drop-drop, get_or-take, get_or-drop, length-take-le}
use borrow.Author.Tests.{eqb-true, eq-eqb, leb-true, le-leb}
use Rattle.lists.specs.Lists.{range}
use Rattle.lists.proofs.Tests.{clash, and_l, and_r, and_both}
use Rattle.lists.proofs.Maps.{flat_map-suc}
use Rattle.adjacency.specs.Inner.Side.{list_on, Within}
use Rattle.store_reverse.specs.Inner.Check.{rises_to, offsets_fit, offsets_on}

-- What the test asks, by index.
pub record Rising (m n : ℕ) (at : ℕ → ℕ) : Type 0 where
  pub starts : at 0 ≡ 0
  pub rises : (v : ℕ) → v < n → at v ≤ at (suc v)
  pub ends : at n ≡ m

module _ (m : ℕ) where
  rises-step : (x : ℕ) (ys : List ℕ) → rises_to m x ys ≡ true → (v : ℕ) → v < length ys → get_or (x ∷ ys) v 0 ≤ get_or ys v 0
  unfolding rises_to
  rises-step x [] e v h = absurd (not-suc-le-zero h)
  rises-step x (y ∷ ys) e zero h = leb-true x y (and_l (leb x y) (rises_to m y ys) e)
  rises-step x (y ∷ ys) e (suc v) h = rises-step y ys (and_r (leb x y) (rises_to m y ys) e) v (le_of_suc-le-suc h)

  rises-end : (x : ℕ) (ys : List ℕ) → rises_to m x ys ≡ true → get_or (x ∷ ys) (length ys) 0 ≡ m
  unfolding rises_to
  rises-end x [] e = eqb-true x m e
  rises-end x (y ∷ ys) e = rises-end y ys (and_r (leb x y) (rises_to m y ys) e)

  steps-rise : (x : ℕ) (ys : List ℕ) → ((v : ℕ) → v < length ys → get_or (x ∷ ys) v 0 ≤ get_or ys v 0) → get_or (x ∷ ys) (length ys) 0 ≡ m → rises_to m x ys ≡ true
  unfolding rises_to
  steps-rise x [] h e = eq-eqb x m e
  steps-rise x (y ∷ ys) h e =
      and_both (leb x y) (rises_to m y ys) (le-leb x y (h 0 (omega arith))) (steps-rise y ys (λ v l. h (suc v) (omega arith)) e)

  pub fit-rising : (n : ℕ) (xs : List ℕ) → length xs ≡ suc n → offsets_fit m xs ≡ true → Rising m n (λ (v : ℕ). get_or xs v 0)
  unfolding offsets_fit
  fit-rising n [] l e = clash e refl
  fit-rising n (x ∷ xs) l e =
      record {
        starts = eqb-true x 0 (and_l (eqb x 0) (rises_to m x xs) e);
        rises = λ v h. rises-step x xs (and_r (eqb x 0) (rises_to m x xs) e) v (omega arith);
        ends = ap (λ (k : ℕ). get_or (x ∷ xs) k 0) (let i : n ≡ length xs = omega arith in i) ∙ rises-end x xs (and_r (eqb x 0) (rises_to m x xs) e);
      }

  rising-fit : (n : ℕ) (xs : List ℕ) → length xs ≡ suc n → Rising m n (λ (v : ℕ). get_or xs v 0) → offsets_fit m xs ≡ true
  unfolding offsets_fit
  rising-fit n [] l r = absurd (omega arith)
  rising-fit n (x ∷ xs) l r =
      and_both (eqb x 0) (rises_to m x xs) (eq-eqb x 0 r.starts)
      (steps-rise x xs (λ v h. r.rises v (omega arith))
      (ap (λ (k : ℕ). get_or (x ∷ xs) k 0) (let i : length xs ≡ n = omega arith in i) ∙ r.ends))

-- A side of n vertices and m entries that lies in the store.
module _ (store : List ℕ) (n m side : ℕ) (room : side + n + 1 + m ≤ length store) where
  -- The word of an offset.
  abbrev at : ℕ → ℕ
  at v = get_or store (side + v) 0

  length-offsets : length (offsets_on store n side) ≡ suc n
  length-offsets = length-take-le (suc n) (drop side store) (rw length-drop (omega arith))

  offset_word : (v : ℕ) → v ≤ n → get_or (offsets_on store n side) v 0 ≡ at v
  offset_word v h = get_or-take (suc n) (drop side store) v 0 (omega arith) ∙ get_or-drop side store v 0

  pub offsets-rising : offsets_fit m (offsets_on store n side) ≡ true → Rising m n (λ (v : ℕ). get_or store (side + v) 0)
  offsets-rising e =
      let r : Rising m n (λ (v : ℕ). get_or (offsets_on store n side) v 0) = fit-rising m n (offsets_on store n side) length-offsets e in
      record {
        starts = sym (offset_word 0 zero-le) ∙ r.starts;
        rises = λ v h. omega (arith, r.rises v h, offset_word v (omega arith), offset_word (suc v) h);
        ends = sym (offset_word n (omega arith)) ∙ r.ends;
      }

  pub rising-offsets : Rising m n (λ (v : ℕ). get_or store (side + v) 0) → offsets_fit m (offsets_on store n side) ≡ true
  rising-offsets r = rising-fit m n (offsets_on store n side) length-offsets
      record {
        starts = offset_word 0 zero-le ∙ r.starts;
        rises = λ v h. omega (arith, r.rises v h, offset_word v (omega arith), offset_word (suc v) h);
        ends = offset_word n (omega arith) ∙ r.ends;
      }

  module _ (up : Rising m n (λ (v : ℕ). get_or store (side + v) 0)) where
    reach : (j v : ℕ) → v + j ≡ n → at v ≤ m
    reach zero v e = omega (arith, ap at (let i : v ≡ n = omega arith in i), up.ends)
    reach (suc j) v e = omega (arith, up.rises v (omega arith), reach j (suc v) (omega arith))

    pub offset-le : (v : ℕ) → v ≤ n → at v ≤ m
    offset-le v h = reach (n - v) v (add-sub_of_le h)

    next : (v : ℕ) → get_or store (side + v + 1) 0 ≡ at (suc v)
    next v = ap (λ (k : ℕ). get_or store k 0) (let e : side + v + 1 ≡ side + suc v = omega arith in e)

    pub offsets-within : (v : ℕ) → v < n → Within store n side v
    offsets-within v h =
        record {
          vertex_in = h;
          rises = omega (arith, next v, up.rises v h);
          ends = omega (arith, next v, offset-le (suc v) h);
        }

    -- The lists of the vertices below v are the first entries.
    pub offsets-lists : (v : ℕ) → v ≤ n → flat_map (list_on store n side) (range v) ≡ take (at v) (drop (side + n + 1) store)
    unfolding flat_map range
    offsets-lists zero h = rw up.starts
    offsets-lists (suc v) h =
        flat_map-suc (list_on store n side) v
        ∙ ap₂ (λ (l r : List ℕ). l ++ r) (offsets-lists v (omega arith))
        (ap₂ (λ (k : ℕ) (l : List ℕ). take (k - at v) l) (next v) (sym (drop-drop (at v) (side + n + 1) store)))
        ∙ sym (take-add (at v) (at (suc v) - at v) (drop (side + n + 1) store))
        ∙ ap (λ (k : ℕ). take k (drop (side + n + 1) store)) (add-sub_of_le (up.rises v h))

    pub offsets-length : (v : ℕ) → v ≤ n → length (flat_map (list_on store n side) (range v)) ≡ at v
    offsets-length v h =
        ap length (offsets-lists v h)
        ∙ length-take-le (at v) (drop (side + n + 1) store) (rw length-drop (let l : at v ≤ m = offset-le v h in omega arith))
