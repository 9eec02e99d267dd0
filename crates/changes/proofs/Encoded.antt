-- A change file of given changes: it is accepted, and is read as it was written. Assumes nothing.
use mathlib.Core.Path.{◌≡◌, refl, sym, ◌∙◌, ap, ap₂}
use mathlib.Core.Bool.{Bool, true, false, not}
use mathlib.Core.List.{List, [], ◌++◌, map, map-map, flat_map, append_assoc, append-nil}
use Prim.Native.Nat.{ℕ, zero, suc, ◌+◌, ◌*◌, ◌≤◌, ◌<◌}
use native.Mathlib.Nat.{add-zero}
use native.Mathlib.Omega.{arith}
use lib.Dec.{eqb, ltb}
use lib.ListN.{length, get_or, length-append}
use borrow.Author.Tests.{eq-eqb, lt-ltb}
use Rattle.lists.specs.Lists.{bit, range, all, ascending}
use Rattle.lists.proofs.Tests.{and_l, and_both}
use Rattle.lists.proofs.All.{all-at, all-range, all_get_d}
use Rattle.lists.proofs.Count.{all_map}
use Rattle.lists.proofs.Maps.{map-indices, length-image, image-ascending}
use Rattle.packed.specs.Field.{field_at, fill_set, bytes_for}
use Rattle.packed.specs.Encode.{bits_of, bytes_of, number, bit_in}
use Rattle.packed.proofs.Laws.{field_lt}
use Rattle.packed.proofs.Number.{number_lt}
use Rattle.packed.proofs.Encoded.{bit_in-lt, length-bytesOf, fill-bytesOf}
use Rattle.packed.proofs.RoundTrip.{length-bitsOf, length-records, number_put, field_put, field-record}
use Rattle.graph.specs.Graph.{forward, key}
use Rattle.graph.specs.File.{bad_edge}
use Rattle.graph.proofs.WellFormed.{Fitting, fitting, fitting-edge}
use Rattle.change_file.specs.File.{Change, change_count, change_start, change_size, adds_in, changed_edge, changes_of, change_ascends, change_fits, change_fault}
use Rattle.changes.specs.Edit.{change_key}
use Rattle.changes.proofs.Present.{change_at}

-- ---- a file is accepted by its changes

accepts : (n : ℕ) (s : List ℕ) → length s ≡ change_size s → fill_set s (change_start (change_count s)) ≡ false
    → all (λ (c : Change). fitting n c.edge) (changes_of s) ≡ true → ascending (map change_key (changes_of s)) ≡ true → change_fault n s ≡ 0
unfolding change_fault changes_of
accepts n s size fill fit up =
    rw (eq-eqb (length s) (change_size s) size, fill, all-range (change_fits n s) (change_count s) fits)
  where
    rises : (i : ℕ) → suc i < change_count s → key forward (changed_edge s i) < key forward (changed_edge s (suc i))
    rises =
        image-ascending (λ (i : ℕ). key forward (changed_edge s i)) (change_count s)
        (ap ascending (sym (map-map change_key (change_at s) (range (change_count s)))) ∙ up)

    ascends : (i : ℕ) → i < change_count s → change_ascends s i ≡ true
    ascends zero l = refl
    ascends (suc i) l = lt-ltb _ _ (rises i l)

    fits : (i : ℕ) → i < change_count s → change_fits n s i ≡ true
    fits i l =
        and_both (not (bad_edge n (changed_edge s i))) (change_ascends s i)
        (and_l (not (bad_edge n (changed_edge s i))) (ltb (changed_edge s i).label 256)
        (all-at (λ (i : ℕ). fitting n (changed_edge s i)) (change_count s) (sym (all_map (λ (c : Change). fitting n c.edge) (change_at s) (range (change_count s))) ∙ fit) i l))
        (ascends i l)

-- ---- one change

unfoldable pub change_bits : Change → List ℕ
change_bits c = bits_of 1 (bit c.adds) ++ bits_of 16 c.edge.source ++ bits_of 8 c.edge.label ++ bits_of 16 c.edge.target

length-change_bits : (c : Change) → length (change_bits c) ≡ 41
unfolding change_bits
length-change_bits c = simp (length-append, length-bitsOf)

bit-low : (b : Bool) → bit b < 2
bit-low true = omega arith
bit-low false = omega arith

bit-back : (b : Bool) → eqb (bit b) 1 ≡ b
bit-back true = refl
bit-back false = refl

module _ (n : ℕ) (few : n < 65536) (c : Change) (f : Fitting n c.edge) where
  adds-read : number (bit_in (change_bits c)) 0 1 ≡ bit c.adds
  unfolding change_bits
  adds-read =
      let rest : List ℕ = bits_of 16 c.edge.source ++ bits_of 8 c.edge.label ++ bits_of 16 c.edge.target in
      let parts : change_bits c ≡ bits_of 1 (bit c.adds) ++ rest = simp append_assoc in
      ap (λ (bits : List ℕ). number (bit_in bits) 0 1) parts ∙ number_put [] 1 (bit c.adds) rest 0 refl (bit-low c.adds)

  source-read : number (bit_in (change_bits c)) 1 16 ≡ c.edge.source
  unfolding change_bits
  source-read =
      ap (λ (bits : List ℕ). number (bit_in bits) 1 16)
      (append_assoc (bits_of 1 (bit c.adds) ++ bits_of 16 c.edge.source) (bits_of 8 c.edge.label) (bits_of 16 c.edge.target))
      ∙ number_put (bits_of 1 (bit c.adds)) 16 c.edge.source (bits_of 8 c.edge.label ++ bits_of 16 c.edge.target) 1 (length-bitsOf 1 (bit c.adds))
      (omega (arith, f.source_in))

  label-read : number (bit_in (change_bits c)) 17 8 ≡ c.edge.label
  unfolding change_bits
  label-read =
      number_put (bits_of 1 (bit c.adds) ++ bits_of 16 c.edge.source) 8 c.edge.label (bits_of 16 c.edge.target) 17
      (simp (length-append, length-bitsOf)) f.label_fits

  target-read : number (bit_in (change_bits c)) 25 16 ≡ c.edge.target
  unfolding change_bits
  target-read =
      ap (λ (bits : List ℕ). number (bit_in bits) 25 16) (sym (append-nil (change_bits c)))
      ∙ number_put (bits_of 1 (bit c.adds) ++ bits_of 16 c.edge.source ++ bits_of 8 c.edge.label) 16 c.edge.target [] 25
      (simp (length-append, length-bitsOf)) (omega (arith, f.target_in))

-- ---- the file

unfoldable pub changes_bits : List Change → List ℕ
changes_bits cs = bits_of 20 (length cs) ++ flat_map change_bits cs

unfoldable pub encode : List Change → List ℕ
encode cs = bytes_of (changes_bits cs)

length-changes_bits : (cs : List Change) → length (changes_bits cs) ≡ 20 + 41 * length cs
unfolding changes_bits
length-changes_bits cs = simp (length-append, length-bitsOf, length-records change_bits 41 length-change_bits)

pub encode-bytes : (cs : List Change) → all (λ (b : ℕ). ltb b 256) (encode cs) ≡ true
unfolding encode bytes_of
encode-bytes cs =
    all_map (λ (b : ℕ). ltb b 256) (λ (i : ℕ). number (bit_in (changes_bits cs)) (8 * i) 8) (range (bytes_for (length (changes_bits cs))))
    ∙ all-range _ (bytes_for (length (changes_bits cs))) (λ i h. lt-ltb _ 256 (number_lt (bit_in (changes_bits cs)) (bit_in-lt (changes_bits cs)) (8 * i) 8))

-- What stands past the end of a list of changes; nothing depends on it.
none : Change
none = record { adds = false; edge = record { source = 0; label = 0; target = 0 } }

module _ (n : ℕ) (few : n < 65536) (cs : List Change) (short : length cs < 1048576) (fit : all (λ (c : Change). fitting n c.edge) cs ≡ true) where
  count-read : change_count (encode cs) ≡ length cs
  unfolding encode changes_bits
  count-read = field_put [] 20 (length cs) (flat_map change_bits cs) 0 refl short

  -- A field of change i, at bits past its start.
  field-read : (i at k : ℕ) → i < length cs → at + k ≤ 41 → field_at (encode cs) (change_start i + at) k ≡ number (bit_in (change_bits (get_or cs i none))) at k
  unfolding encode changes_bits
  field-read i at k h l =
      ap₂ (λ (bits : List ℕ) (p : ℕ). field_at (bytes_of bits) p k) (sym (append-nil (changes_bits cs))) (let q : change_start i + at ≡ 20 + (41 * i + at) = omega arith in q)
      ∙ field-record (bits_of 20 (length cs)) change_bits cs [] 20 41 (length-bitsOf 20 (length cs)) length-change_bits none i at k h l

  change-read : (i : ℕ) → i < length cs → change_at (encode cs) i ≡ get_or cs i none
  change-read i h = λ j. record { adds = adds j; edge = record { source = source j; label = label j; target = target j } }
    where
      c : Change
      c = get_or cs i none

      fits : Fitting n c.edge
      fits = fitting-edge n c.edge (all_get_d (λ (c : Change). fitting n c.edge) cs i none h fit)

      adds : adds_in (encode cs) i ≡ c.adds
      adds =
          ap (λ (x : ℕ). eqb x 1)
          (ap (λ (p : ℕ). field_at (encode cs) p 1) (sym (add-zero (change_start i))) ∙ field-read i 0 1 h (omega arith) ∙ adds-read n few c fits)
          ∙ bit-back c.adds

      source : field_at (encode cs) (change_start i + 1) 16 ≡ c.edge.source
      source = field-read i 1 16 h (omega arith) ∙ source-read n few c fits

      label : field_at (encode cs) (change_start i + 17) 8 ≡ c.edge.label
      label = field-read i 17 8 h (omega arith) ∙ label-read n few c fits

      target : field_at (encode cs) (change_start i + 25) 16 ≡ c.edge.target
      target = field-read i 25 16 h (omega arith) ∙ target-read n few c fits

  pub encode-read : changes_of (encode cs) ≡ cs
  unfolding changes_of
  encode-read = ap (λ (k : ℕ). map (change_at (encode cs)) (range k)) count-read ∙ map-indices (change_at (encode cs)) cs none change-read

  length-bits : length (changes_bits cs) ≡ change_start (change_count (encode cs))
  length-bits = rw (length-changes_bits, count-read)

  pub encode-accepted : ascending (map change_key cs) ≡ true → change_fault n (encode cs) ≡ 0
  unfolding encode
  encode-accepted up =
      accepts n (encode cs) (length-bytesOf (changes_bits cs) ∙ ap bytes_for length-bits) (ap (fill_set (encode cs)) (sym length-bits) ∙ fill-bytesOf (changes_bits cs))
      (ap (all (λ (c : Change). fitting n c.edge)) encode-read ∙ fit) (ap (λ (l : List Change). ascending (map change_key l)) encode-read ∙ up)

-- A file has fewer changes than its count of 20 bits can tell.
pub changes-few : (s : List ℕ) → length (changes_of s) < 1048576
unfolding changes_of
changes-few s = rw (length-image (change_at s) (change_count s)) (field_lt s 0 20)
