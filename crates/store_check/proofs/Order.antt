-- The lists of a side, tested all at once: where the words that are not above the one before them are as many over all entries as at
-- the first words of lists, every list ascends. Assumes nothing.
use mathlib.Core.Path.{◌≡◌, refl, sym, ◌∙◌, ap, ap₂, fun_ext}
use mathlib.Core.Bool.{Bool, true, false, ◌&&◌, and-false}
use mathlib.Core.List.{List, [], ◌∷◌, ◌++◌, flat_map}
use Prim.Native.Nat.{ℕ, zero, suc, ◌+◌, ◌-◌, ◌%◌, ◌≤◌, ◌<◌}
use native.Mathlib.Nat.{eq-or-lt_of_le}
use native.Mathlib.Numerals.{add-one}
use native.Mathlib.Omega.{arith}
use mathlib.Core.Logic.{◌⊎◌, inl, inr}
use lib.Dec.{eqb, leb, ltb}
use lib.ListN.{length, get_or, take, drop, length-drop, drop_of_length-le}
use lib.Seq.{take-suc, drop-cons, get_or-take, get_or-drop, length-take-le}
use borrow.Author.Tests.{eq-eqb, ne_eqb, eqb-true, eqb-false, ltb-false, lt-ltb, le-ltb, leb-true, leb-false, lt-leb}
use Rattle.lists.specs.Lists.{bit, range, all, count_if, total, ascends_from, ascending}
use Rattle.lists.proofs.Tests.{iff, and_l, and_r, and_both}
use Rattle.lists.proofs.All.{all-and, all-follows}
use Rattle.lists.proofs.Count.{count-snoc, total-append, total-suc, all-flat_map}
use Rattle.lists.proofs.Maps.{flat_map-suc}
use Rattle.lists.proofs.Bits.{bit_le}
use Rattle.lists.proofs.Sort.{ascends-from}
use Rattle.adjacency.specs.Inner.Side.{list_on}
use Rattle.store_reverse.specs.Inner.Check.{list_fits, offsets_fit, offsets_on, side_fits}
use Rattle.store_check.specs.Inner.Order.{falls_from, start_falls, faults_of}
use Rattle.store_reverse.proofs.Offsets.{Rising, offsets-rising, offsets-lists, offsets-length, offset-le}
use Rattle.store_reverse.proofs.Fits.{good_entry, Entry, good-entry, fit-entries, fit-ascending}

-- ---- sums that are 0

-- A sum is 0 exactly where each of its terms is.
pub none-all : {A : Type 0} (f : A → ℕ) (xs : List A) → all (λ (x : A). eqb (f x) 0) xs ≡ eqb (total f xs) 0
unfolding all total
none-all f [] = sym (eq-eqb 0 0 refl)
none-all f (x ∷ xs) =
    ap (λ (b : Bool). eqb (f x) 0 && b) (none-all f xs)
    ∙ iff (eqb (f x) 0 && eqb (total f xs) 0) (eqb (f x + total f xs) 0)
    (λ t.
    let a : f x ≡ 0 = eqb-true (f x) 0 (and_l (eqb (f x) 0) (eqb (total f xs) 0) t) in
    let b : total f xs ≡ 0 = eqb-true (total f xs) 0 (and_r (eqb (f x) 0) (eqb (total f xs) 0) t) in
    eq-eqb (f x + total f xs) 0 (omega arith))
    (λ t.
    let s : f x + total f xs ≡ 0 = eqb-true (f x + total f xs) 0 t in
    and_both (eqb (f x) 0) (eqb (total f xs) 0) (eq-eqb (f x) 0 (omega arith)) (eq-eqb (total f xs) 0 (omega arith)))

-- A sum over the words of a list, one after the other.
pub total-next : (f : ℕ → ℕ) (s : List ℕ) (i : ℕ) → i < length s → total f (take (i + 1) s) ≡ total f (take i s) + f (get_or s i 0)
unfolding total
total-next f s i h =
    ap (λ (k : ℕ). total f (take k s)) (add-one i) ∙ ap (total f) (take-suc s i 0 h) ∙ total-append f (take i s) (get_or s i 0 ∷ [])
    ∙ (let e : total f (take i s) + (f (get_or s i 0) + 0) ≡ total f (take i s) + f (get_or s i 0) = omega arith in e)

-- ---- the ranges of entries

-- No range is broken exactly where the entry is good.
good-faultless : (n k : ℕ) → good_entry n k ≡ eqb (faults_of n k) 0
good-faultless n k =
    iff (good_entry n k) (eqb (faults_of n k) 0)
    (λ t.
    let e : Entry n k = good-entry n k t in
    rw (le-ltb k 65536 (omega arith), lt-leb 16777216 k (omega arith), lt-leb n (k % 65536) (omega arith)) (eq-eqb 0 0 refl))
    (λ t. faultless (eqb-true (faults_of n k) 0 t))
  where
    one : (b : Bool) → bit b ≡ 0 → b ≡ false
    one true e = absurd (omega arith)
    one false e = refl

    faultless : faults_of n k ≡ 0 → good_entry n k ≡ true
    faultless z =
        let a : 65536 ≤ k = ltb-false k 65536 (one (ltb k 65536) (omega arith)) in
        let b : k < 16777216 = leb-false 16777216 k (one (leb 16777216 k) (omega arith)) in
        let c : k % 65536 < n = leb-false n (k % 65536) (one (leb n (k % 65536)) (omega arith)) in
        rw (lt-ltb 65535 k (omega arith), lt-ltb k 16777216 b, lt-ltb (k % 65536) n c)

pub faultless-all : (n : ℕ) (s : List ℕ) → all (good_entry n) s ≡ eqb (total (faults_of n) s) 0
faultless-all n s = ap (λ (p : ℕ → Bool). all p s) (fun_ext (good-faultless n)) ∙ none-all (faults_of n) s

-- A list fits where its entries are good and ascend.
list-parted : (n : ℕ) (s : List ℕ) → list_fits n s ≡ (all (good_entry n) s && ascending s)
unfolding list_fits
list-parted n s =
    iff (list_fits n s) (all (good_entry n) s && ascending s)
    (λ t. and_both (all (good_entry n) s) (ascending s) (fit-entries n s t) (fit-ascending n s t))
    (λ t.
    let good : all (good_entry n) s ≡ true = and_l (all (good_entry n) s) (ascending s) t in
    and_both (ascends_from 65535 s) (all (λ (k : ℕ). ltb k 16777216 && ltb (k % 65536) n) s)
    (ascends-from 65535 s (and_r (all (good_entry n) s) (ascending s) t)
    (all-follows (good_entry n) (λ (k : ℕ). ltb 65535 k) s good (λ k g. and_l (ltb 65535 k) (ltb k 16777216 && ltb (k % 65536) n) g)))
    (all-follows (good_entry n) (λ (k : ℕ). ltb k 16777216 && ltb (k % 65536) n) s good
    (λ k g. and_r (ltb 65535 k) (ltb k 16777216 && ltb (k % 65536) n) g)))

-- ---- words that are not above the one before them

-- In a list after another, the word before the first is the other's last.
falls-append : (x : ℕ) (xs ys : List ℕ) → falls_from x (xs ++ ys) ≡ falls_from x xs + falls_from (get_or (x ∷ xs) (length xs) 0) ys
unfolding falls_from
falls-append x [] ys = omega arith
falls-append x (y ∷ xs) ys = omega (arith, falls-append y xs ys)

-- There is none exactly where the list ascends.
falls-none : (x : ℕ) (ys : List ℕ) → ascends_from x ys ≡ eqb (falls_from x ys) 0
unfolding falls_from ascends_from
falls-none x [] = sym (eq-eqb 0 0 refl)
falls-none x (y ∷ ys) = go (falls-none y ys) (leb y x) refl
  where
    go : ascends_from y ys ≡ eqb (falls_from y ys) 0 → (b : Bool) → leb y x ≡ b → (ltb x y && ascends_from y ys) ≡ eqb (bit b + falls_from y ys) 0
    go f true e =
        ap (λ (t : Bool). t && ascends_from y ys) (le-ltb x y (leb-true y x e)) ∙ sym (ne_eqb (1 + falls_from y ys) 0 (λ z. omega arith))
    go f false e =
        ap (λ (t : Bool). t && ascends_from y ys) (lt-ltb x y (leb-false y x e)) ∙ f
        ∙ ap (λ (k : ℕ). eqb k 0) (let z : falls_from y ys ≡ 0 + falls_from y ys = omega arith in z)

-- Those within a list.
within : List ℕ → ℕ
within [] = 0
within (x ∷ xs) = falls_from x xs

within_none : (s : List ℕ) → ascending s ≡ eqb (within s) 0
unfolding ascending within
within_none [] = sym (eq-eqb 0 0 refl)
within_none (x ∷ xs) = falls-none x xs

-- A list has its first word, if that falls, and those within.
falls-list : (x : ℕ) (s : List ℕ) → falls_from x s ≡ bit (ltb 0 (length s) && leb (get_or s 0 0) x) + within s
unfolding falls_from within
falls-list x [] = ap (λ (t : Bool). bit (t && leb (get_or {A = ℕ} [] 0 0) x) + 0) (sym (le-ltb 0 0 (omega arith)))
falls-list x (y ∷ ys) = ap (λ (t : Bool). bit (t && leb y x) + falls_from y ys) (sym (lt-ltb 0 (length (y ∷ ys)) (omega arith)))

-- They are counted one after the other: what is left from index i on.
pub record Falling (s : List ℕ) (sum i : ℕ) : Type 0 where
  pub inside : i < length s
  pub few : sum ≤ i
  pub left : falls_from (get_or s 0 0) (drop 1 s) ≡ sum + falls_from (get_or s i 0) (drop (i + 1) s)

pub falls-next : {s : List ℕ} {sum i r : ℕ} → Falling s sum i → i + 1 < length s → r ≡ bit (leb (get_or s (i + 1) 0) (get_or s i 0)) → Falling s (sum + r) (i + 1)
unfolding falls_from
falls-next {s} {sum} {i} {r} a h e =
    record {
      inside = h;
      few = omega (arith, a.few, bit_le (leb (get_or s (i + 1) 0) (get_or s i 0)));
      left =
          a.left
          ∙ ap (λ (l : List ℕ). sum + falls_from (get_or s i 0) l)
          (drop-cons s (i + 1) 0 h ∙ ap (λ (k : ℕ). get_or s (i + 1) 0 ∷ drop k s) (sym (add-one (i + 1))))
          ∙ (let z : sum + (bit (leb (get_or s (i + 1) 0) (get_or s i 0)) + falls_from (get_or s (i + 1) 0) (drop (i + 1 + 1) s))
          ≡ sum + r + falls_from (get_or s (i + 1) 0) (drop (i + 1 + 1) s) = omega arith in z);
    }

pub falls-end : {s : List ℕ} {sum i : ℕ} → Falling s sum i → length s ≤ i + 1 → sum ≡ falls_from (get_or s 0 0) (drop 1 s)
unfolding falls_from
falls-end {s} {sum} {i} a h =
    sym
    (a.left ∙ ap (λ (l : List ℕ). sum + falls_from (get_or s i 0) l) (drop_of_length-le s h)
    ∙ (let z : sum + 0 ≡ sum = omega arith in z))

-- A list with no word has no first word; of another it is compared.
module _ (store : List ℕ) (n side v : ℕ) where
  pub start_none : get_or store (side + v + 1) 0 ≤ get_or store (side + v) 0 → false ≡ start_falls store n side v
  start_none h =
      ap (λ (t : Bool). t && leb (get_or store (side + n + get_or store (side + v) 0 + 1) 0) (get_or store (side + n + get_or store (side + v) 0) 0))
      (sym (le-ltb (get_or store (side + v) 0) (get_or store (side + v + 1) 0) h))

  pub start-some : get_or store (side + v) 0 < get_or store (side + v + 1) 0
      → leb (get_or store (side + n + get_or store (side + v) 0 + 1) 0) (get_or store (side + n + get_or store (side + v) 0) 0) ≡ start_falls store n side v
  start-some h =
      ap (λ (t : Bool). t && leb (get_or store (side + n + get_or store (side + v) 0 + 1) 0) (get_or store (side + n + get_or store (side + v) 0) 0))
      (sym (lt-ltb (get_or store (side + v) 0) (get_or store (side + v + 1) 0) h))

-- The lists whose first word falls, one after the other.
pub starts-next : (store : List ℕ) (n side v : ℕ) {sum r : ℕ} → sum ≡ count_if (start_falls store n side) (range v) → r ≡ bit (start_falls store n side v)
    → sum + r ≡ count_if (start_falls store n side) (range (v + 1))
unfolding range
starts-next store n side v e f =
    ap₂ (λ (a b : ℕ). a + b) e f ∙ sym (count-snoc (start_falls store n side) (range v) v)
    ∙ ap (λ (k : ℕ). count_if (start_falls store n side) (range k)) (sym (add-one v))

-- ---- the lists of a side

module _ (store : List ℕ) (n m side : ℕ) (room : side + n + 1 + m ≤ length store) (fit : offsets_fit m (offsets_on store n side) ≡ true) where
  abbrev at : ℕ → ℕ
  at v = get_or store (side + v) 0

  abbrev lists : ℕ → List ℕ
  lists v = list_on store n side v

  abbrev first : ℕ
  first = get_or store (side + n) 0

  abbrev entries : List ℕ
  entries = drop (side + n + 1) store

  rising : Rising m n (λ (v : ℕ). get_or store (side + v) 0)
  rising = offsets-rising store n m side room fit

  -- The word before the list of v.
  word-before : (v : ℕ) → v ≤ n → get_or (first ∷ flat_map lists (range v)) (length (flat_map lists (range v))) 0 ≡ get_or store (side + n + at v) 0
  word-before v h =
      ap₂ (λ (l : List ℕ) (k : ℕ). get_or (first ∷ l) k 0) (offsets-lists store n m side room rising v h) (offsets-length store n m side room rising v h)
      ∙ ap (λ (l : List ℕ). get_or (take (suc (at v)) l) (at v) 0)
      (ap (λ (k : ℕ). first ∷ drop k store) (add-one (side + n)) ∙ sym (drop-cons store (side + n) 0 (omega arith)))
      ∙ get_or-take (suc (at v)) (drop (side + n) store) (at v) 0 (omega arith) ∙ get_or-drop (side + n) store (at v) 0

  -- Whether the first word of the list of v falls.
  start_falls_lem : (v : ℕ) → v < n
      → (ltb 0 (length (lists v)) && leb (get_or (lists v) 0 0) (get_or store (side + n + at v) 0)) ≡ start_falls store n side v
  start_falls_lem v h = go (eq-or-lt_of_le (rising.rises v h))
    where
      next : get_or store (side + v + 1) 0 ≡ at (suc v)
      next = ap (λ (k : ℕ). get_or store k 0) (let e : side + v + 1 ≡ side + suc v = omega arith in e)

      ends : at (suc v) ≤ m
      ends = offset-le store n m side room rising (suc v) h

      size : length (lists v) ≡ get_or store (side + v + 1) 0 - at v
      size = length-take-le (get_or store (side + v + 1) 0 - at v) (drop (side + n + 1 + at v) store) (rw length-drop (omega (arith, next, ends)))

      go : (at v ≡ at (suc v)) ⊎ (at v < at (suc v))
          → (ltb 0 (length (lists v)) && leb (get_or (lists v) 0 0) (get_or store (side + n + at v) 0)) ≡ start_falls store n side v
      go (inl e) = rw (le-ltb 0 (length (lists v)) (omega (arith, size, next)), le-ltb (at v) (get_or store (side + v + 1) 0) (omega (arith, next)))
      go (inr l) =
          rw (lt-ltb 0 (length (lists v)) (omega (arith, size, next)), lt-ltb (at v) (get_or store (side + v + 1) 0) (omega (arith, next)))
          (ap (λ (k : ℕ). leb k (get_or store (side + n + at v) 0))
          (get_or-take (get_or store (side + v + 1) 0 - at v) (drop (side + n + 1 + at v) store) 0 0 (omega (arith, next))
          ∙ get_or-drop (side + n + 1 + at v) store 0 0
          ∙ ap (λ (k : ℕ). get_or store k 0) (let e : side + n + 1 + at v + 0 ≡ side + n + at v + 1 = omega arith in e)))

  -- Of all that fall, some are first words, and the others stand within lists.
  falls-parted : (v : ℕ) → v ≤ n
      → falls_from first (flat_map lists (range v)) ≡ count_if (start_falls store n side) (range v) + total (λ (u : ℕ). within (lists u)) (range v)
  unfolding falls_from count_if total range flat_map
  falls-parted zero h = refl
  falls-parted (suc v) h =
      ap (falls_from first) (flat_map-suc lists v) ∙ falls-append first (flat_map lists (range v)) (lists v)
      ∙ ap (λ (x : ℕ). falls_from first (flat_map lists (range v)) + falls_from x (lists v)) (word-before v (omega arith))
      ∙ (let a : falls_from (get_or store (side + n + at v) 0) (lists v) ≡ bit (start_falls store n side v) + within (lists v) =
      falls-list (get_or store (side + n + at v) 0) (lists v) ∙ ap (λ (b : Bool). bit b + within (lists v)) (start_falls_lem v h) in
      omega (arith, a, falls-parted v (omega arith), count-snoc (start_falls store n side) (range v) v, total-suc (λ (u : ℕ). within (lists u)) v))

  -- So the lists fit where no range is broken and none falls within a list.
  abbrev broken : ℕ
  broken = total (faults_of n) (take m entries)

  abbrev falling : ℕ
  falling = total (λ (v : ℕ). within (lists v)) (range n)

  lists-flat : flat_map lists (range n) ≡ take m entries
  lists-flat = offsets-lists store n m side room rising n (omega arith) ∙ ap (λ (k : ℕ). take k entries) rising.ends

  side-parted : side_fits store n side ≡ (eqb broken 0 && eqb falling 0)
  unfolding side_fits
  side-parted =
      ap (λ (p : ℕ → Bool). all p (range n)) (fun_ext (λ v. list-parted n (lists v)))
      ∙ all-and (λ (v : ℕ). all (good_entry n) (lists v)) (λ (v : ℕ). ascending (lists v)) (range n)
      ∙ ap₂ (λ (a b : Bool). a && b)
      (sym (all-flat_map (good_entry n) lists (range n)) ∙ ap (all (good_entry n)) lists-flat ∙ faultless-all n (take m entries))
      (ap (λ (p : ℕ → Bool). all p (range n)) (fun_ext (λ v. within_none (lists v))) ∙ none-all (λ (v : ℕ). within (lists v)) (range n))

  -- The answers of the two counts, and of the ranges.
  module _ {f : ℕ} (e : f ≡ total (faults_of n) (take (side + n + 1 + m - (side + n + 1)) (drop (side + n + 1) store))) where
    is-broken : f ≡ broken
    is-broken = e ∙ ap (λ (k : ℕ). total (faults_of n) (take k entries)) (let i : side + n + 1 + m - (side + n + 1) ≡ m = omega arith in i)

    pub ranges-refuse : (f ≡ 0 → ⊥) → false ≡ side_fits store n side
    ranges-refuse z = sym (side-parted ∙ rw (ne_eqb broken 0 (λ o. z (is-broken ∙ o))))

    module _ {a b : ℕ}
        (d : let p = take (side + n + 1 + m - (side + n)) (drop (side + n) store) in a ≡ falls_from (get_or p 0 0) (drop 1 p))
        (c : b ≡ count_if (start_falls store n side) (range n)) where
      part : take (side + n + 1 + m - (side + n)) (drop (side + n) store) ≡ first ∷ take m entries
      part =
          ap (λ (k : ℕ). take k (drop (side + n) store)) (let i : side + n + 1 + m - (side + n) ≡ suc m = omega arith in i)
          ∙ ap (take (suc m)) (drop-cons store (side + n) 0 (omega arith) ∙ ap (λ (k : ℕ). first ∷ drop k store) (sym (add-one (side + n))))

      parted : a ≡ b + falling
      parted =
          d ∙ ap (λ (p : List ℕ). falls_from (get_or p 0 0) (drop 1 p)) part ∙ ap (falls_from first) (sym lists-flat)
          ∙ falls-parted n (omega arith) ∙ ap (λ (k : ℕ). k + falling) (sym c)

      pub order-decides : f ≡ 0 → eqb a b ≡ side_fits store n side
      order-decides o = go (eqb a b) refl
        where
          go : (t : Bool) → eqb a b ≡ t → eqb a b ≡ side_fits store n side
          go true t =
              t ∙ sym (side-parted ∙ and_both (eqb broken 0) (eqb falling 0) (eq-eqb broken 0 (sym is-broken ∙ o)) (eq-eqb falling 0 (omega (arith, parted, eqb-true a b t))))
          go false t =
              t ∙ sym (side-parted ∙ ap (λ (u : Bool). eqb broken 0 && u) (ne_eqb falling 0 (λ z. eqb-false a b t (omega (arith, parted)))) ∙ and-false (eqb broken 0))
