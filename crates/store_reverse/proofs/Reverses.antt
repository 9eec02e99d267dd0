-- A side whose entries all have their reverses is one whose lists have; and the loop that tests a block of entries after the other.
-- Assumes nothing.
use mathlib.Core.Path.{◌≡◌, refl, sym, ◌∙◌, ap, ap₂}
use mathlib.Core.Bool.{Bool, true, false}
use mathlib.Core.List.{List}
use Prim.Native.Nat.{ℕ, suc, ◌+◌, ◌-◌, ◌%◌, ◌≤◌, ◌<◌, zero-le, min}
use native.Mathlib.Omega.{arith}
use lib.Dec.{ltb}
use lib.ListN.{length, get_or, take, drop, length-drop, length-take}
use lib.Seq.{get_or-take, get_or-drop, length-take-le}
use borrow.Author.Tests.{ltb-true, ltb-false}
use Rattle.lists.specs.Lists.{range, all}
use Rattle.lists.proofs.Tests.{iff}
use Rattle.lists.proofs.All.{all-at, all-range, all_get_d, get_or-all}
use Rattle.lists.proofs.Maps.{get_or-image, length-image}
use Rattle.adjacency.specs.Inner.Side.{list_on}
use Rattle.adjacency.specs.Inner.Portion.{member}
use Rattle.store_reverse.specs.Inner.Check.{reverse, offsets_on, list_fits, side_fits, list_reversed, side_reversed}
use Rattle.store_reverse.specs.Inner.Begun.{begun, begun_in, Begins, EntryFits, BlockFits, Flat, entry_reversed, entries_reversed, Sides}
use Rattle.store_reverse.proofs.Loops.{fails-with}
use Rattle.store_reverse.proofs.Begun.{Offsets, begun-some, begun-few, begun-none, its-start, its-end, its-vertex, rises-on, last_is}
use Rattle.store_reverse.proofs.Fits.{good_entry, fit-entries, good-entry}

-- ---- the loop

pub length-begun : (starts : List ℕ) (base : ℕ) → length (begun_in starts base) ≡ 1024
unfolding begun_in
length-begun starts base = length-image (λ (j : ℕ). begun starts (base + suc j)) 1024

module _ {store : List ℕ} {n other : ℕ} {starts entries : List ℕ} (f : Flat store n other starts entries) where
  offsets : Offsets starts n (length entries)
  offsets = record { long = f.long; fit = f.rises }

  pub few-begun : (base : ℕ) {counts : List ℕ} → counts ≡ begun_in starts base → get_or counts 1023 0 < 65536
  unfolding begun_in
  few-begun base q =
      rw (q, get_or-image (λ (i : ℕ). begun starts (base + suc i)) 1024 1023 0 (omega arith)) (omega (arith, begun-few offsets (base + 1024), f.few))

  -- The entries before `base` have their reverses, and so many lists begin before it.
  pub record Tested (next base : ℕ) : Type 0 where
    pub near : base ≤ length entries + 1024
    pub before : next ≡ begun starts base
    pub reversed : (i : ℕ) → i < base → i < length entries → entry_reversed store n other starts entries i ≡ true

  pub tested-none : Tested 0 0
  tested-none = record { near = zero-le; before = sym (begun-none offsets); reversed = λ i l k. absurd (omega arith) }

  module _ {next base : ℕ} (t : Tested next base) (l : base < length entries) where
    pub block-begins : Begins starts next base
    block-begins =
        record {
          end = length entries;
          rises = f.rises;
          few = omega (arith, f.long, f.few);
          small = f.countable;
          before = t.before;
          near = omega (arith, f.countable);
        }

    module _ {part counts : List ℕ} (p : part ≡ take 1024 (drop base entries)) (q : counts ≡ begun_in starts base) where
      part-long : length part ≡ min 1024 (length entries - base)
      part-long = ap length p ∙ length-take 1024 (drop base entries) ∙ ap (min 1024) (length-drop base entries)

      part-size : length part ≤ 1024
      part-size = omega (arith, part-long)

      part_in : (j : ℕ) → j < length part → base + j < length entries
      part_in j k = omega (arith, part-long)

      part_at : (j : ℕ) → j < length part → get_or part j 0 ≡ get_or entries (base + j) 0
      part_at j k =
          ap (λ (xs : List ℕ). get_or xs j 0) p ∙ get_or-take 1024 (drop base entries) j 0 (omega (arith, part-size)) ∙ get_or-drop base entries j 0

      pub count_at : (j : ℕ) → j < 1024 → get_or counts j 0 ≡ begun starts (suc (base + j))
      unfolding begun_in
      count_at j k =
          ap (λ (xs : List ℕ). get_or xs j 0) q ∙ get_or-image (λ (i : ℕ). begun starts (base + suc i)) 1024 j 0 k
          ∙ ap (begun starts) (let e : base + suc j ≡ suc (base + j) = omega arith in e)

      pub block-fits : length counts ≡ 1024 → BlockFits n part counts
      block-fits c =
          record {
            size = omega (arith, part-size);
            fits = λ j k. rw (part_at j k) (f.fits (base + j) (part_in j k));
            vertex =
                λ j k.
                (rw (count_at j (omega (arith, part-size))) (begun-some offsets (base + j) (part_in j k)), rw (count_at j (omega (arith, part-size))) (begun-few offsets (suc (base + j))));
          }

      -- The test of entry j of the block.
      abbrev block_reversed : ℕ → Bool
      block_reversed j = member (reverse (get_or counts j 0 - 1) (get_or part j 0)) (list_on store n other (get_or part j 0 % 65536))

      same_test : (j : ℕ) → j < length part → block_reversed j ≡ entry_reversed store n other starts entries (base + j)
      same_test j k =
          ap₂ (λ (c e : ℕ). member (reverse (c - 1) e) (list_on store n other (e % 65536))) (count_at j (omega (arith, part-size))) (part_at j k)

      pub block-refuses : {r : Bool} → r ≡ all block_reversed (range (length part)) → r ≡ false
          → false ≡ entries_reversed store n other starts entries
      unfolding entries_reversed
      block-refuses e h =
          fails-with (all block_reversed (range (length part))) (all (entry_reversed store n other starts entries) (range (length entries))) e h
          (λ g.
          all-range block_reversed (length part)
          (λ j k. same_test j k ∙ all-at (entry_reversed store n other starts entries) (length entries) g (base + j) (part_in j k)))

      pub tested-more : {r : Bool} → r ≡ all block_reversed (range (length part)) → r ≡ true → Tested (get_or counts 1023 0) (base + 1024)
      tested-more e z =
          record {
            near = omega arith;
            before = count_at 1023 (omega arith) ∙ ap (begun starts) (let s : suc (base + 1023) ≡ base + 1024 = omega arith in s);
            reversed = λ i a b. go i (ltb i base) refl a b;
          }
        where
          go : (i : ℕ) (x : Bool) → ltb i base ≡ x → i < base + 1024 → i < length entries → entry_reversed store n other starts entries i ≡ true
          go i true s a b = t.reversed i (ltb-true i base s) b
          go i false s a b =
              let o : base ≤ i = ltb-false i base s in
              let k : i - base < length part = omega (arith, part-long) in
              let at : base + (i - base) ≡ i = omega arith in
              rw at at
              (sym (same_test (i - base) k)
              ∙ all-at block_reversed (length part) (sym e ∙ z) (i - base) k)

  pub tested-all : {next base : ℕ} → Tested next base → length entries ≤ base → true ≡ entries_reversed store n other starts entries
  unfolding entries_reversed
  tested-all t l =
      sym (all-range (entry_reversed store n other starts entries) (length entries) (λ i k. t.reversed i (omega arith) k))

-- ---- a side

module _ {store : List ℕ} {n m side other : ℕ} (h : Sides store n m side other) where
  abbrev starts : List ℕ
  starts = take (side + n + 1 - side) (drop side store)

  abbrev entries : List ℕ
  entries = take (side + n + 1 + m - (side + n + 1)) (drop (side + n + 1) store)

  starts_are : starts ≡ offsets_on store n side
  starts_are = ap (λ (k : ℕ). take k (drop side store)) (let e : side + n + 1 - side ≡ suc n = omega arith in e)

  entries-long : length entries ≡ m
  entries-long = length-take-le (side + n + 1 + m - (side + n + 1)) (drop (side + n + 1) store) (rw length-drop (omega (arith, h.room))) ∙ omega arith

  entry_at : (i : ℕ) → i < m → get_or entries i 0 ≡ get_or store (side + n + 1 + i) 0
  entry_at i l =
      get_or-take (side + n + 1 + m - (side + n + 1)) (drop (side + n + 1) store) i 0 (omega arith) ∙ get_or-drop (side + n + 1) store i 0

  start-at : (v : ℕ) → v ≤ n → get_or starts v 0 ≡ get_or store (side + v) 0
  start-at v l = get_or-take (side + n + 1 - side) (drop side store) v 0 (omega arith) ∙ get_or-drop side store v 0

  side-offsets : Offsets starts n m
  side-offsets =
      record {
        long = length-take-le (side + n + 1 - side) (drop side store) (rw length-drop (omega (arith, h.room))) ∙ omega arith;
        fit = rw starts_are h.rises;
      }

  next-at : (v : ℕ) → v < n → get_or starts (suc v) 0 ≡ get_or store (side + v + 1) 0
  next-at v l = start-at (suc v) l ∙ ap (λ (k : ℕ). get_or store k 0) (let e : side + suc v ≡ side + v + 1 = omega arith in e)

  rises : (v : ℕ) → v < n → get_or starts v 0 ≤ get_or starts (suc v) 0
  rises v l = rises-on side-offsets v (suc v) (omega arith) l

  list-end : (v : ℕ) → v < n → get_or starts (suc v) 0 ≤ m
  list-end v l = omega (arith, rises-on side-offsets (suc v) n l (omega arith), last_is side-offsets)

  -- Word k of the list of v is entry (its start + k).
  list_long : (v : ℕ) → v < n → length (list_on store n side v) ≡ get_or starts (suc v) 0 - get_or starts v 0
  list_long v l =
      length-take-le (get_or store (side + v + 1) 0 - get_or store (side + v) 0) (drop (side + n + 1 + get_or store (side + v) 0) store)
      (rw length-drop (omega (arith, h.room, start-at v (omega arith), next-at v l, list-end v l)))
      ∙ omega (arith, start-at v (omega arith), next-at v l)

  list_at_lem : (v : ℕ) → v < n → (k : ℕ) → k < length (list_on store n side v) → get_or (list_on store n side v) k 0 ≡ get_or entries (get_or starts v 0 + k) 0
  list_at_lem v l k d =
      get_or-take (get_or store (side + v + 1) 0 - get_or store (side + v) 0) (drop (side + n + 1 + get_or store (side + v) 0) store) k 0
      (omega (arith, list_long v l, start-at v (omega arith), next-at v l))
      ∙ get_or-drop (side + n + 1 + get_or store (side + v) 0) store k 0
      ∙ ap (λ (i : ℕ). get_or store i 0)
      (let e : side + n + 1 + get_or store (side + v) 0 + k ≡ side + n + 1 + (get_or starts v 0 + k) = omega (arith, start-at v (omega arith)) in e)
      ∙ sym (entry_at (get_or starts v 0 + k) (omega (arith, list_long v l, list-end v l)))

  -- Entry i is a word of the list of its vertex.
  module _ (i : ℕ) (l : i < m) where
    abbrev its : ℕ
    its = begun starts (suc i) - 1

    its-in : its < n
    its-in = omega (arith, begun-some side-offsets i l, begun-few side-offsets (suc i))

    its-place : i - get_or starts its 0 < length (list_on store n side its)
    its-place = omega (arith, list_long its its-in, its-start side-offsets i l, its-end side-offsets i l)

    its-word : get_or (list_on store n side its) (i - get_or starts its 0) 0 ≡ get_or entries i 0
    its-word =
        list_at_lem its its-in (i - get_or starts its 0) its-place
        ∙ ap (λ (k : ℕ). get_or entries k 0) (let e : get_or starts its 0 + (i - get_or starts its 0) ≡ i = omega (arith, its-start side-offsets i l) in e)

  entry-fits : (i : ℕ) → i < m → EntryFits n (get_or entries i 0)
  unfolding side_fits
  entry-fits i l =
      let g = all-at (λ (v : ℕ). list_fits n (list_on store n side v)) n h.fits (its i l) (its-in i l) in
      let e = good-entry n (get_or entries i 0)
      (rw (its-word i l) at (all_get_d (good_entry n) (list_on store n side (its i l)) (i - get_or starts (its i l) 0) 0 (its-place i l) (fit-entries n (list_on store n side (its i l)) g))) in
      record { narrow = e.fits; neighbour = e.inside }

  pub side-flat : Flat store n other starts entries
  side-flat =
      record {
        good = h.good;
        few = h.few;
        long = side-offsets.long;
        rises = rw entries-long side-offsets.fit;
        countable = rw entries-long h.countable;
        fits = λ i l. entry-fits i (rw entries-long at l);
      }

  -- The same test, entry by entry and list by list.
  abbrev word_reversed : ℕ → ℕ → Bool
  word_reversed v k = member (reverse v k) (list_on store n other (k % 65536))

  by-lists : entries_reversed store n other starts entries ≡ true → side_reversed store n side other ≡ true
  unfolding entries_reversed side_reversed list_reversed
  by-lists t =
      all-range (λ (v : ℕ). all (word_reversed v) (list_on store n side v)) n
      (λ v l.
      get_or-all (word_reversed v) (list_on store n side v) 0
      (λ k d.
      let in_list : get_or starts v 0 + k < get_or starts (suc v) 0 = omega (arith, list_long v l) in
      let vertex : begun starts (suc (get_or starts v 0 + k)) - 1 ≡ v = omega (arith, its-vertex side-offsets (get_or starts v 0 + k) v l (omega arith) in_list) in
      ap (word_reversed v) (list_at_lem v l k d)
      ∙ ap (λ (u : ℕ). word_reversed u (get_or entries (get_or starts v 0 + k) 0)) (sym vertex)
      ∙ all-at (entry_reversed store n other starts entries) (length entries) t (get_or starts v 0 + k) (rw entries-long (omega (arith, in_list, list-end v l)))))

  by_entries : side_reversed store n side other ≡ true → entries_reversed store n other starts entries ≡ true
  unfolding entries_reversed side_reversed list_reversed
  by_entries t =
      all-range (entry_reversed store n other starts entries) (length entries)
      (λ i a.
      let l : i < m = rw entries-long at a in
      ap (word_reversed (its i l)) (sym (its-word i l))
      ∙ all_get_d (word_reversed (its i l)) (list_on store n side (its i l)) (i - get_or starts (its i l) 0) 0 (its-place i l)
      (all-at (λ (v : ℕ). all (word_reversed v) (list_on store n side v)) n t (its i l) (its-in i l)))

  pub same-reverses : entries_reversed store n other starts entries ≡ side_reversed store n side other
  same-reverses = iff (entries_reversed store n other starts entries) (side_reversed store n side other) by-lists by_entries
