-- The bytes of a scan and of extends hold them, and have no fault of a plan's file. Assumes nothing.
use mathlib.Core.Path.{◌≡◌, refl, sym, ◌∙◌, ap}
use mathlib.Core.Bool.{true, false, not, ◌&&◌}
use mathlib.Core.List.{List, [], ◌∷◌, ◌++◌, map, flat_map, append_assoc, append-nil}
use Prim.Native.Nat.{ℕ, zero, suc, ◌+◌, ◌*◌, ◌≤◌, ◌<◌}
use native.Mathlib.Nat.{le_of_suc-le-suc}
use native.Mathlib.Omega.{arith}
use lib.Dec.{eqb, ltb}
use lib.ListN.{length, get_or, length-append, length-map}
use borrow.Author.Tests.{ltb-true, lt-ltb, le-ltb, ne_eqb}
use Rattle.lists.specs.Lists.{range, all}
use Rattle.lists.specs.Refusal.{first}
use Rattle.lists.proofs.All.{all_get_d}
use Rattle.lists.proofs.Maps.{map-indices, get_d_map}
use Rattle.lists.proofs.Faults.{first-cons, first-nil, first-append, each_first, zero-refuse}
use Rattle.packed.specs.Field.{field_at, bits_in, bytes_for, fill_set}
use Rattle.packed.specs.Encode.{number, bit_in, bits_of, bytes_of}
use Rattle.packed.proofs.Encoded.{length-bytesOf, fill-bytesOf}
use Rattle.packed.proofs.RoundTrip.{length-bitsOf, number-bitsOf, number-left, number-right, field_put, field-record, length-records}
use Rattle.query.specs.Query.{Query}
use Rattle.plan.specs.Plan.{scan, extend, join, scan_kind, extend_kind, no_kind}
use Rattle.plan.specs.File.{operator_count, kind_at, operand_bits, operator_at, place, operators_of, operator_fault}
use Rattle.plan_file.specs.Inner.Parts.{end_faults, plan_file_fault}
use Rattle.planner.specs.Draw.{scan_bits, extend_bits, plan_bits}

abbrev pub file_of : ℕ → List ℕ → List ℕ
file_of i vs = bytes_of (plan_bits i vs)

-- ---- lengths

pub length-scan_bits : (c i : ℕ) → length (scan_bits c i) ≡ 12
length-scan_bits c i = simp (length-append, length-bitsOf)

pub length-extend_bits : (v : ℕ) → length (extend_bits v) ≡ 5
length-extend_bits v = simp (length-append, length-bitsOf)

pub length-plan_bits : (i : ℕ) (vs : List ℕ) → length (plan_bits i vs) ≡ 12 + 5 * length vs
unfolding plan_bits
length-plan_bits i vs =
    rw (length-append, length-scan_bits, length-records extend_bits 5 length-extend_bits)

pub plan-bits : (i : ℕ) (vs : List ℕ) → scan_bits (1 + length vs) i ++ flat_map extend_bits vs ≡ plan_bits i vs
unfolding plan_bits
plan-bits i vs = refl

pub length-file : (i : ℕ) (vs : List ℕ) → length (file_of i vs) ≡ bytes_for (12 + 5 * length vs)
length-file i vs = length-bytesOf (plan_bits i vs) ∙ ap (λ (b : ℕ). bytes_for b) (length-plan_bits i vs)

-- An operator of a kind and an operand that its query has, whose bits are there.
sound : (q : Query) (s : List ℕ) (at k x : ℕ) → kind_at s at ≡ k → field_at s (at + 2) (operand_bits k) ≡ x → (k ≡ no_kind → ⊥)
    → at + 2 + operand_bits k ≤ bits_in s → (eqb k scan_kind && not (ltb x (length q.edges))) ≡ false
    → (eqb k extend_kind && not (ltb x q.vertices)) ≡ false → operator_fault q s at ≡ 0
sound q s at k x kind operand known bits edge vertex =
    rw (kind, operand)
    (first-cons _ _ (zero-refuse 12 _ (le-ltb (bits_in s) (at + 2) (omega arith)))
    ∙ first-cons _ _ (zero-refuse 14 _ (ne_eqb k no_kind known))
    ∙ first-cons _ _ (zero-refuse 12 _ (le-ltb (bits_in s) (at + 2 + operand_bits k) bits))
    ∙ first-cons _ _ (zero-refuse 14 _ edge)
    ∙ first-cons _ _ (zero-refuse 14 _ vertex)
    ∙ first-nil)

module _ (i : ℕ) (vs : List ℕ) (edge : i < 32) (few : length vs < 31) (low : all (λ (v : ℕ). ltb v 8) vs ≡ true) where
  -- ---- the fields

  pub count-read : operator_count (file_of i vs) ≡ 1 + length vs
  unfolding plan_bits
  count-read =
      ap (λ (bits : List ℕ). field_at (bytes_of bits) 0 5)
      (let e : plan_bits i vs ≡ bits_of 5 (1 + length vs) ++ (bits_of 2 scan_kind ++ bits_of 5 i ++ flat_map extend_bits vs) = simp append_assoc in e)
      ∙ field_put [] 5 (1 + length vs) (bits_of 2 scan_kind ++ bits_of 5 i ++ flat_map extend_bits vs) 0 refl (omega arith)

  scan-kind : kind_at (file_of i vs) 5 ≡ scan_kind
  unfolding plan_bits
  scan-kind =
      ap (λ (bits : List ℕ). field_at (bytes_of bits) 5 2) (append_assoc (bits_of 5 (1 + length vs) ++ bits_of 2 scan_kind) (bits_of 5 i) (flat_map extend_bits vs))
      ∙ field_put (bits_of 5 (1 + length vs)) 2 scan_kind (bits_of 5 i ++ flat_map extend_bits vs) 5 (length-bitsOf 5 (1 + length vs)) (omega arith)

  scan-edge : field_at (file_of i vs) 7 5 ≡ i
  unfolding plan_bits
  scan-edge =
      field_put (bits_of 5 (1 + length vs) ++ bits_of 2 scan_kind) 5 i (flat_map extend_bits vs) 7 (simp (length-append, length-bitsOf)) edge

  -- The w bits of extend j that have o bits before them.
  extend-field : (j o w : ℕ) → j < length vs → o + w ≤ 5 → field_at (file_of i vs) (12 + 5 * j + o) w ≡ number (bit_in (extend_bits (get_or vs j 0))) o w
  unfolding plan_bits
  extend-field j o w h l =
      let at : 12 + 5 * j + o ≡ 12 + (5 * j + o) = omega arith in
      rw (at, ← append-nil (scan_bits (1 + length vs) i ++ flat_map extend_bits vs))
      (field-record (scan_bits (1 + length vs) i) extend_bits vs [] 12 5 (length-scan_bits (1 + length vs) i) length-extend_bits 0 j o w h l)

  extend-kind : (j : ℕ) → j < length vs → kind_at (file_of i vs) (12 + 5 * j) ≡ extend_kind
  extend-kind j h =
      ap (λ (p : ℕ). field_at (file_of i vs) p 2) (let e : 12 + 5 * j ≡ 12 + 5 * j + 0 = omega arith in e) ∙ extend-field j 0 2 h (omega arith)
      ∙ number-left (bits_of 2 extend_kind) (bits_of 3 (get_or vs j 0)) 0 2 (rw length-bitsOf (omega arith)) ∙ number-bitsOf 2 extend_kind (omega arith)

  extend-vertex : (j : ℕ) → j < length vs → field_at (file_of i vs) (12 + 5 * j + 2) 3 ≡ get_or vs j 0
  extend-vertex j h =
      extend-field j 2 3 h (omega arith)
      ∙ number-right (bits_of 2 extend_kind) (bits_of 3 (get_or vs j 0)) 2 0 3 (length-bitsOf 2 extend_kind)
      ∙ number-bitsOf 3 (get_or vs j 0) (ltb-true (get_or vs j 0) 8 (all_get_d (λ (v : ℕ). ltb v 8) vs j 0 h low))

  -- ---- the operators

  pub extend-place : (j : ℕ) → j ≤ length vs → place (file_of i vs) (suc j) ≡ 12 + 5 * j
  unfolding place
  extend-place zero h = rw scan-kind
  extend-place (suc j) h = rw (extend-place j (omega arith), extend-kind j (omega arith)) (omega arith)

  operator-read : (j : ℕ) → j < length (scan i ∷ map extend vs) → operator_at (file_of i vs) (place (file_of i vs) j) ≡ get_or (scan i ∷ map extend vs) j join
  unfolding place
  operator-read zero h = rw (scan-kind, scan-edge)
  operator-read (suc j) h =
      let l : j < length vs = rw length-map at (le_of_suc-le-suc h) in
      ap (operator_at (file_of i vs)) (extend-place j (omega arith))
      ∙ rw (extend-kind j l, extend-vertex j l) (sym (get_d_map extend vs j 0 join l))

  -- The file holds the scan and the extends.
  pub operators-read : operators_of (file_of i vs) ≡ scan i ∷ map extend vs
  unfolding operators_of
  operators-read =
      ap (λ (k : ℕ). map (λ (j : ℕ). operator_at (file_of i vs) (place (file_of i vs) j)) (range k))
      (count-read ∙ (let e : 1 + length vs ≡ suc (length (map extend vs)) = rw length-map (omega arith) in e))
      ∙ map-indices (λ (j : ℕ). operator_at (file_of i vs) (place (file_of i vs) j)) (scan i ∷ map extend vs) join operator-read

  -- ---- the faults

  module _ (q : Query) (named : i < length q.edges) (inside : all (λ (v : ℕ). ltb v q.vertices) vs ≡ true) where
    operator-sound : (j : ℕ) → j < 1 + length vs → operator_fault q (file_of i vs) (place (file_of i vs) j) ≡ 0
    unfolding place
    operator-sound zero h =
        sound q (file_of i vs) 5 scan_kind i scan-kind scan-edge (λ e. omega arith) (omega (arith, length-file i vs))
        (rw (lt-ltb i (length q.edges) named)) refl
    operator-sound (suc j) h =
        let l : j < length vs = omega arith in
        rw (extend-place j (omega arith))
        (sound q (file_of i vs) (12 + 5 * j) extend_kind (get_or vs j 0) (extend-kind j l) (extend-vertex j l) (λ e. omega arith)
        (omega (arith, length-file i vs)) refl
        (rw (all_get_d (λ (v : ℕ). ltb v q.vertices) vs j 0 l inside)))

    end-sound : first (end_faults (file_of i vs) (12 + 5 * length vs)) ≡ 0
    end-sound =
        first-cons _ _ (zero-refuse 13 _ (le-ltb (bytes_for (12 + 5 * length vs)) (length (file_of i vs)) (omega (arith, length-file i vs))))
        ∙ first-cons _ _ (zero-refuse 13 (fill_set (file_of i vs) (12 + 5 * length vs)) (rw (← length-plan_bits i vs) (fill-bytesOf (plan_bits i vs)))) ∙ first-nil

    pub file-sound : plan_file_fault q (file_of i vs) ≡ 0
    unfolding plan_file_fault
    file-sound =
        first-cons _ _ (zero-refuse 12 _ (le-ltb (bits_in (file_of i vs)) 5 (omega (arith, length-file i vs))))
        ∙ first-cons _ _ (zero-refuse 14 _ (ne_eqb (operator_count (file_of i vs)) 0 (λ z. omega (arith, count-read))))
        ∙ first-append _ _ (each_first (λ (j : ℕ). operator_fault q (file_of i vs) (place (file_of i vs) j)) (operator_count (file_of i vs)) (λ j h. operator-sound j (rw count-read at h)))
        ∙ ap (λ (p : ℕ). first (end_faults (file_of i vs) p)) last ∙ end-sound
      where
        last : place (file_of i vs) (operator_count (file_of i vs)) ≡ 12 + 5 * length vs
        last =
            ap (place (file_of i vs)) (count-read ∙ (let e : 1 + length vs ≡ suc (length vs) = omega arith in e)) ∙ extend-place (length vs) (omega arith)
