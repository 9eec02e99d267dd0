-- The fields of a change, and the fault of a change file part by part. Assumes nothing.
use mathlib.Core.Path.{◌≡◌, refl, sym, ◌∙◌, ap}
use mathlib.Core.Bool.{Bool, true, false, not, ◌&&◌}
use mathlib.Core.List.{List, [], ◌∷◌}
use Prim.Native.Nat.{ℕ, zero, suc, ◌+◌, ◌*◌, ◌/◌, ◌%◌, ◌≤◌, ◌<◌}
use native.Mathlib.Numerals.{add-one}
use native.Mathlib.Omega.{arith}
use lib.Dec.{eqb, ltb}
use lib.ListN.{length}
use borrow.Author.Tests.{ltb-true, lt-ltb, le-ltb, ltb-false, eq-eqb, ne_eqb, eqb-true}
use Rattle.lists.specs.Lists.{range, all}
use Rattle.lists.specs.Refusal.{refuse}
use Rattle.lists.proofs.Tests.{iff, and_l, and_both, not-true, not-false, clash}
use Rattle.lists.proofs.All.{all_append, all-at}
use Rattle.lists.proofs.Faults.{refuse-zero}
use Rattle.packed.specs.Field.{field_at, fill_set}
use Rattle.packed.proofs.Laws.{field-add, field_lt}
use Rattle.graph.specs.Graph.{forward, entry, key}
use Rattle.change_file.specs.File.{change_count, change_start, change_size, changed_edge, change_ascends, change_fits, change_fault}
use Rattle.change_file.specs.Inner.Reading.{Sized, change_length_fault}

-- A change's last 24 bits are its forward entry.
pub entry-field : (s : List ℕ) (i : ℕ) {r : ℕ} → r ≡ field_at s (37 + 41 * i) 24 → r ≡ entry forward (changed_edge s i)
entry-field s i e =
    let at : 37 + 41 * i ≡ change_start i + 17 = omega arith in
    let next : change_start i + 17 + 8 ≡ change_start i + 25 = omega arith in
    e ∙ ap (λ (p : ℕ). field_at s p 24) at ∙ rw next at (field-add s (change_start i + 17) 8 16)

pub target-low : (s : List ℕ) (i : ℕ) → (changed_edge s i).target < 65536
target-low s i = field_lt s (change_start i + 25) 16

-- ---- the file's length

-- The fault of the length by the tests in turn; `bits` is where the changes end.
pub fault-size : (s : List ℕ) → (length s ≡ change_size s → ⊥) → 27 ≡ change_length_fault s
unfolding change_length_fault
fault-size s h = rw (ne_eqb (length s) (change_size s) h)

module _ (s : List ℕ) {bits : ℕ} (at : bits ≡ change_start (change_count s)) (whole : length s ≡ change_size s) where
  pub fault-fill : fill_set s bits ≡ true → 27 ≡ change_length_fault s
  unfolding change_length_fault
  fault-fill f = rw (eq-eqb (length s) (change_size s) whole, ← at, f)

  pub fault-none : fill_set s bits ≡ false → 0 ≡ change_length_fault s
  unfolding change_length_fault
  fault-none f = rw (eq-eqb (length s) (change_size s) whole, ← at, f)

pub length-sized : (s : List ℕ) → change_length_fault s ≡ 0 → Sized s
unfolding change_length_fault
length-sized s e =
    record {
      there =
          let b : eqb (length s) (change_size s) ≡ true = and_l _ _ (not-false _ (refuse-zero 26 _ e)) in
          omega (arith, eqb-true (length s) (change_size s) b);
      few = field_lt s 0 20;
    }

pub fault-length : (n : ℕ) (s : List ℕ) → (change_length_fault s ≡ 0 → ⊥) → change_fault n s ≡ change_length_fault s
unfolding change_fault change_length_fault
fault-length n s h =
    go (eqb (length s) (change_size s) && not (fill_set s (change_start (change_count s)))) (all (change_fits n s) (range (change_count s))) h
  where
    go : (a b : Bool) → (refuse 27 (not a) ≡ 0 → ⊥) → refuse 27 (not (a && b)) ≡ refuse 27 (not a)
    go true b k = absurd (k refl)
    go false b k = refl

pub fault-edges : (n : ℕ) (s : List ℕ) → change_length_fault s ≡ 0 → change_fault n s ≡ refuse 27 (not (all (change_fits n s) (range (change_count s))))
unfolding change_fault change_length_fault
fault-edges n s e =
    go (eqb (length s) (change_size s) && not (fill_set s (change_start (change_count s)))) (all (change_fits n s) (range (change_count s))) e
  where
    go : (a b : Bool) → refuse 27 (not a) ≡ 0 → refuse 27 (not (a && b)) ≡ refuse 27 (not b)
    go true b k = refl
    go false b k = absurd (omega arith)

-- ---- its edges

-- One more than the key of the change before, 0 where there is none.
unfoldable pub least_key : List ℕ → ℕ → ℕ
least_key s zero = 0
least_key s (suc i) = suc (key forward (changed_edge s i))

-- A change ascends where its key is not below that.
rises : (s : List ℕ) (i : ℕ) → change_ascends s i ≡ not (ltb (key forward (changed_edge s i)) (least_key s i))
unfolding least_key
rises s zero = ap not (sym (le-ltb (key forward (changed_edge s 0)) 0 (omega arith)))
rises s (suc i) =
    let a : ℕ = key forward (changed_edge s i) in
    let b : ℕ = key forward (changed_edge s (suc i)) in
    iff (ltb a b) (not (ltb b (suc a)))
    (λ h. let l : a < b = ltb-true a b h in ap not (le-ltb b (suc a) (omega arith)))
    (λ h. let l : suc a ≤ b = ltb-false b (suc a) (not-true (ltb b (suc a)) h) in lt-ltb a b (omega arith))

-- The changes before i fit, and the next key is to be at least `least`.
pub record Fit (n : ℕ) (s : List ℕ) (least i : ℕ) : Type 0 where
  pub key_before : least ≡ least_key s i
  pub fit : all (change_fits n s) (range i) ≡ true

pub fit_none : (n : ℕ) (s : List ℕ) → Fit n s 0 0
unfolding least_key range all
fit_none n s = record { key_before = refl; fit = refl }

-- What was read of change i.
pub record Read (n : ℕ) (s : List ℕ) (least i a e : ℕ) : Type 0 where
  pub before : Fit n s least i
  pub source : a ≡ (changed_edge s i).source
  pub its_entry : e ≡ entry forward (changed_edge s i)

module _ {n : ℕ} {s : List ℕ} {least i a e : ℕ} (r : Read n s least i a e) where
  label-read : e / 65536 ≡ (changed_edge s i).label
  label-read = omega (arith, r.its_entry, target-low s i)

  target-read : e % 65536 ≡ (changed_edge s i).target
  target-read = omega (arith, r.its_entry, target-low s i)

  -- A change at fault.
  pub stops : {k : ℕ} → i < k → change_fits n s i ≡ false → 27 ≡ refuse 27 (not (all (change_fits n s) (range k)))
  stops {k} l f = go (all (change_fits n s) (range k)) refl
    where
      go : (b : Bool) → all (change_fits n s) (range k) ≡ b → 27 ≡ refuse 27 (not b)
      go true t = clash (all-at (change_fits n s) k t i l) f
      go false t = refl

  pub bad-source : n ≤ a → change_fits n s i ≡ false
  bad-source h = rw (← r.source, le-ltb a n h)

  pub bad-target : a < n → n ≤ e % 65536 → change_fits n s i ≡ false
  bad-target g h = rw (← r.source, ← target-read, lt-ltb a n g, le-ltb (e % 65536) n h)

  pub bad-label : a < n → e % 65536 < n → e < 65536 → change_fits n s i ≡ false
  bad-label g h l =
      let z : (changed_edge s i).label ≡ 0 = omega (arith, label-read) in
      rw (← r.source, ← target-read, lt-ltb a n g, lt-ltb (e % 65536) n h, eq-eqb (changed_edge s i).label 0 z)

  module _ (g : a < n) (h : e % 65536 < n) (l : 65536 ≤ e) where
    its-fit : change_fits n s i ≡ not (ltb (key forward (changed_edge s i)) least)
    its-fit =
        let z : ((changed_edge s i).label ≡ 0 → ⊥) = λ o. omega (arith, label-read) in
        rw (r.before.key_before, ← (rises s i), ← r.source, ← target-read, lt-ltb a n g, lt-ltb (e % 65536) n h, ne_eqb (changed_edge s i).label 0 z)

    pub bad-order : {k : ℕ} → k ≡ key forward (changed_edge s i) → k < least → change_fits n s i ≡ false
    bad-order k j = its-fit ∙ rw (← k, lt-ltb _ least j)

    pub fits_next : {k : ℕ} → k ≡ key forward (changed_edge s i) → least ≤ k → Fit n s (k + 1) (i + 1)
    unfolding least_key range all
    fits_next {k} e j =
        record {
          key_before = rw (add-one i, add-one k) (ap suc e);
          fit =
              rw (add-one i)
              (all_append (change_fits n s) (range i) (i ∷ [])
              ∙ and_both _ _ r.before.fit (and_both (change_fits n s i) true (its-fit ∙ rw (← e, le-ltb k least j)) refl));
        }

pub all_fit : {n : ℕ} {s : List ℕ} {least i : ℕ} (k : ℕ) → Fit n s least i → i ≡ k → 0 ≡ refuse 27 (not (all (change_fits n s) (range k)))
all_fit k h e = rw (← e, h.fit)
