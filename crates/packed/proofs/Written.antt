-- Fields written one after the other from a file's first bit on: after all of them and zero bits to the end of a byte, the file is the
-- bytes of their bits followed by its old bytes. Assumes nothing.
use mathlib.Core.Path.{◌≡◌, refl, sym, ap, ◌∙◌}
use mathlib.Core.Bool.{Bool, true, false}
use mathlib.Core.List.{List, [], ◌++◌}
use Prim.Native.Nat.{ℕ, suc, ◌+◌, ◌-◌, ◌*◌, ◌%◌, ◌^◌, ◌≤◌, ◌<◌}
use native.Mathlib.Nat.{zero-div}
use native.Mathlib.Omega.{arith}
use borrow.Author.Tests.{ltb-true, ltb-false, lt-ltb, le-ltb}
use lib.Dec.{ltb}
use lib.ListN.{length, get_or, drop, length-append, length-drop, get_or-append, get_or-eq_default}
use lib.Seq.{ext_get_or, get_or-append-add, get_or-drop}
use Rattle.packed.specs.Field.{bit_at, bytes_for}
use Rattle.packed.specs.Encode.{number, bit_in, bits_of, bytes_by, bytes_of}
use Rattle.packed.specs.Inner.Put.{bit_put, put_field, bit_written, written}
use Rattle.packed.proofs.Number.{number-ext}
use Rattle.packed.proofs.Laws.{bit-lt}
use Rattle.packed.proofs.Bytes.{length-bytes_by, byte-bytes_by, bit-bytes_by, bytes_by-ext, own-byte, bytes-are}
use Rattle.packed.proofs.Encoded.{bit_in-lt, length-bytesOf, byte-bytesOf}
use Rattle.packed.proofs.RoundTrip.{length-bitsOf, bit-bitsOf}
use Rattle.packed.proofs.Putting.{put-before, put-after, put-inside}

-- ---- the bits

module _ (old bits : List ℕ) where
  pub written-inside : (i : ℕ) → i < length bits → bit_written old bits i ≡ bit_in bits i
  written-inside i h = rw (lt-ltb i (length bits) h)

  pub written_after : (i : ℕ) → length bits ≤ i → bit_written old bits i ≡ bit_at old i
  written_after i h = rw (le-ltb i (length bits) h)

  written-digit : (i : ℕ) → bit_written old bits i < 2
  written-digit i = go (ltb i (length bits)) refl
    where
      go : (b : Bool) → ltb i (length bits) ≡ b → bit_written old bits i < 2
      go true e = rw e (bit_in-lt bits i)
      go false e = rw e (bit-lt old i)

  pub length-written : length (written old bits) ≡ length old
  unfolding written
  length-written = length-bytes_by (bit_written old bits) (length old)

  bit-written : (i : ℕ) → i < 8 * length old → bit_at (written old bits) i ≡ bit_written old bits i
  unfolding written
  bit-written = bit-bytes_by (bit_written old bits) (length old) written-digit

  written-shape : written old bits ≡ bytes_by (bit_written old bits) (length old)
  unfolding written
  written-shape = refl

put-by : (s : List ℕ) (at w x : ℕ) → put_field s at w x ≡ bytes_by (bit_put s at w x) (length s)
unfolding put_field
put-by s at w x = refl

-- Nothing is written yet.
pub written_none : (old : List ℕ) → ((j : ℕ) → get_or old j 0 < 256) → written old [] ≡ old
unfolding written
written_none old bytes =
    sym (bytes-are (bit_written old []) old
    (λ j l. own-byte old j (bytes j) ∙ number-ext (bit_at old) (bit_written old []) (8 * j) (8 * j) 8 (λ t m. sym (written_after old [] (8 * j + t) (omega arith)))))

-- One field more.
module _ (old bits : List ℕ) (w x : ℕ) (room : length bits + w ≤ 8 * length old) where
  more : put_field (written old bits) (length bits) w x ≡ written old (bits ++ bits_of w x)
  more =
      put-shape ∙ bytes_by-ext (bit_put (written old bits) (length bits) w x) (bit_written old (bits ++ bits_of w x)) (length old) each
      ∙ sym (written-shape old (bits ++ bits_of w x))
    where
      put-shape : put_field (written old bits) (length bits) w x ≡ bytes_by (bit_put (written old bits) (length bits) w x) (length old)
      put-shape = put-by (written old bits) (length bits) w x ∙ ap (bytes_by (bit_put (written old bits) (length bits) w x)) (length-written old bits)

      long : length (bits ++ bits_of w x) ≡ length bits + w
      long = length-append bits (bits_of w x) ∙ ap (λ (k : ℕ). length bits + k) (length-bitsOf w x)

      inside : (j k : ℕ) → j + suc k ≡ w → bit_put (written old bits) (length bits) w x (length bits + j) ≡ bit_written old (bits ++ bits_of w x) (length bits + j)
      inside j k e =
          put-inside (written old bits) (length bits) w x j k e
          ∙ sym (bit-bitsOf w x j k e)
          ∙ sym (written-inside old (bits ++ bits_of w x) (length bits + j) (rw long (omega arith)) ∙ ap (λ (n : ℕ). n % 2) (get_or-append-add bits (bits_of w x) j 0))

      each : (i : ℕ) → i < 8 * length old → bit_put (written old bits) (length bits) w x i ≡ bit_written old (bits ++ bits_of w x) i
      each i l = go (ltb i (length bits)) refl (ltb i (length bits + w)) refl
        where
          go : (a : Bool) → ltb i (length bits) ≡ a → (b : Bool) → ltb i (length bits + w) ≡ b
              → bit_put (written old bits) (length bits) w x i ≡ bit_written old (bits ++ bits_of w x) i
          go true p b q =
              let h : i < length bits = ltb-true i (length bits) p in
              put-before (written old bits) (length bits) w x i h ∙ bit-written old bits i l ∙ written-inside old bits i h
              ∙ sym (written-inside old (bits ++ bits_of w x) i (rw long (omega arith)) ∙ ap (λ (n : ℕ). n % 2) (get_or-append bits (bits_of w x) 0 i h))
          go false p true q =
              let h : length bits ≤ i = ltb-false i (length bits) p in
              let m : i < length bits + w = ltb-true i (length bits + w) q in
              let from : length bits + (i - length bits) ≡ i = omega arith in
              rw from at (inside (i - length bits) (w - suc (i - length bits)) (omega arith))
          go false p false q =
              let h : length bits + w ≤ i = ltb-false i (length bits + w) q in
              put-after (written old bits) (length bits) w x i h ∙ bit-written old bits i l ∙ written_after old bits i (omega arith)
              ∙ sym (written_after old (bits ++ bits_of w x) i (rw long h))

  -- The same of a file that holds the bits so far.
  pub written-more : (s : List ℕ) (at : ℕ) → s ≡ written old bits → at ≡ length bits → put_field s at w x ≡ written old (bits ++ bits_of w x)
  written-more s at e l = rw (e, l) more

-- ---- the bytes

-- A bit of the number 0.
bit-zero : (w j : ℕ) → bit_in (bits_of w 0) j ≡ 0
bit-zero w j = go (ltb j w) refl
  where
    go : (b : Bool) → ltb j w ≡ b → bit_in (bits_of w 0) j ≡ 0
    go true e =
        let h : j < w = ltb-true j w e in bit-bitsOf w 0 j (w - suc j) (omega arith) ∙ ap (λ (n : ℕ). n % 2) (zero-div (2 ^ (w - suc j)))
    go false e =
        let h : w ≤ j = ltb-false j w e in ap (λ (n : ℕ). n % 2) (get_or-eq_default (bits_of w 0) 0 (rw length-bitsOf h))

-- Zero bits after a list of bits change no bit.
bit-filled : (bits : List ℕ) (w i : ℕ) → bit_in (bits ++ bits_of w 0) i ≡ bit_in bits i
bit-filled bits w i = go (ltb i (length bits)) refl
  where
    go : (b : Bool) → ltb i (length bits) ≡ b → bit_in (bits ++ bits_of w 0) i ≡ bit_in bits i
    go true e = ap (λ (n : ℕ). n % 2) (get_or-append bits (bits_of w 0) 0 i (ltb-true i (length bits) e))
    go false e =
        let h : length bits ≤ i = ltb-false i (length bits) e in
        let from : i ≡ length bits + (i - length bits) = omega arith in
        rw from
        (ap (λ (n : ℕ). n % 2) (get_or-append-add bits (bits_of w 0) (i - length bits) 0) ∙ bit-zero w (i - length bits)
        ∙ sym (ap (λ (n : ℕ). n % 2) (get_or-eq_default bits 0 {n = length bits + (i - length bits)} (omega arith))))

-- All fields and the zero bits that fill the last byte.
pub written_all : (old bits : List ℕ) → ((j : ℕ) → get_or old j 0 < 256) → bytes_for (length bits) ≤ length old
    → written old (bits ++ bits_of (8 * bytes_for (length bits) - length bits) 0) ≡ bytes_of bits ++ drop (bytes_for (length bits)) old
unfolding written
written_all old bits bytes room =
    ext_get_or 0 _ _ (length-bytes_by f (length old) ∙ sym long) (λ j l.
    let m : j < length old = rw length-bytes_by at l in
    byte-bytes_by f (length old) j m ∙ go j m (ltb j b) refl)
  where
    b : ℕ
    b = bytes_for (length bits)

    fill : ℕ
    fill = 8 * bytes_for (length bits) - length bits

    f : ℕ → ℕ
    f = bit_written old (bits ++ bits_of fill 0)

    whole : length (bits ++ bits_of fill 0) ≡ 8 * b
    whole = length-append bits (bits_of fill 0) ∙ omega (arith, length-bitsOf fill 0)

    long : length (bytes_of bits ++ drop b old) ≡ length old
    long = rw (length-append, length-drop, length-bytesOf) (omega arith)

    go : (j : ℕ) → j < length old → (t : Bool) → ltb j b ≡ t → number f (8 * j) 8 ≡ get_or (bytes_of bits ++ drop b old) j 0
    go j m true e =
        let h : j < b = ltb-true j b e in
        number-ext f (bit_in bits) (8 * j) (8 * j) 8
        (λ t l. written-inside old (bits ++ bits_of fill 0) (8 * j + t) (rw whole (omega arith)) ∙ bit-filled bits fill (8 * j + t))
        ∙ sym (byte-bytesOf bits j) ∙ sym (get_or-append (bytes_of bits) (drop b old) 0 j (rw length-bytesOf h))
    go j m false e =
        let h : b ≤ j = ltb-false j b e in
        let from : b + (j - b) ≡ j = omega arith in
        number-ext f (bit_at old) (8 * j) (8 * j) 8 (λ t l. written_after old (bits ++ bits_of fill 0) (8 * j + t) (rw whole (omega arith)))
        ∙ sym (own-byte old j (bytes j))
        ∙ sym (rw (length-bytesOf, from) at (get_or-append-add (bytes_of bits) (drop b old) (j - b) 0) ∙ rw from at (get_or-drop b old (j - b) 0))
