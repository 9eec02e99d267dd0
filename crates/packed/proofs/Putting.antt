-- The laws of the field writer, for any width: which bits it leaves, how they are written as a word, that what was written is read back,
-- and that other fields stay. Assumes nothing.
use mathlib.Core.Path.{◌≡◌, refl, sym, ap, ◌∙◌}
use mathlib.Core.Logic.{◌⊎◌, inl, inr}
use mathlib.Core.Bool.{Bool, true, false, cond, ◌&&◌, and-false}
use mathlib.Core.List.{List}
use Prim.Native.Nat.{ℕ, suc, ◌+◌, ◌-◌, ◌*◌, ◌/◌, ◌%◌, ◌^◌, ◌≤◌, ◌<◌}
use native.Mathlib.Nat.{mod-lt, zero-lt-suc, lt_of_lt_of_le, add-mul, add-zero}
use native.Mathlib.Omega.{arith}
use borrow.Author.Tests.{eqb-true, eqb-false, ltb-true, ltb-false, lt-ltb, le-ltb, le-leb, lt-leb}
use lib.Dec.{eqb, leb, ltb}
use lib.ListN.{length, get_or, set, length-set}
use lib.Pow.{pow_mono, shl_lt}
use lib.Seq.{get_or-set_same, get_or-set_other}
use Rattle.packed.specs.Field.{bit_at, field_at}
use Rattle.packed.specs.Encode.{number, bytes_by}
use Rattle.packed.specs.Inner.Put.{bit_put, put_field, put_word}
use Rattle.packed.proofs.Number.{number-ext, number-add, number_is, number-low, number-part}
use Rattle.packed.proofs.Laws.{bit-lt, field-number, field-add}
use Rattle.packed.proofs.Bytes.{length-bytes_by, bit-bytes_by, own-byte, bytes-are}

-- ---- the bits after writing

module _ (s : List ℕ) (at w x : ℕ) where
  pub put-digit : (i : ℕ) → bit_put s at w x i < 2
  put-digit i = go (leb at i && ltb i (at + w))
    where
      go : (b : Bool) → cond b (x / 2 ^ (at + w - 1 - i) % 2) (bit_at s i) < 2
      go true = mod-lt _ (zero-lt-suc 1)
      go false = bit-lt s i

  pub put-before : (i : ℕ) → i < at → bit_put s at w x i ≡ bit_at s i
  put-before i h = rw (lt-leb at i h)

  pub put-after : (i : ℕ) → at + w ≤ i → bit_put s at w x i ≡ bit_at s i
  put-after i h = rw (le-ltb i (at + w) h, and-false)

  -- The field's bits, with j before and k after, are those of x.
  pub put-inside : (j k : ℕ) → j + suc k ≡ w → bit_put s at w x (at + j) ≡ x / 2 ^ k % 2
  put-inside j k e =
      let after : at + w - 1 - (at + j) ≡ k = omega arith in
      rw (le-leb at (at + j) (omega arith), lt-ltb (at + j) (at + w) (omega arith), after)

  -- The 32 bits from byte i on, where the field has o bits before it and k after.
  word-old : (i o k : ℕ) → at ≡ 8 * i + o → o + w + k ≡ 32
      → field_at s (8 * i) 32 ≡ field_at s (8 * i) o * 2 ^ w * 2 ^ k + field_at s at w * 2 ^ k + field_at s (8 * i + (o + w)) k
  word-old i o k starts bits =
      rw (← bits, field-add s (8 * i) (o + w) k, field-add s (8 * i) o w, starts, add-mul (field_at s (8 * i) o * 2 ^ w) (field_at s (8 * i + o) w) (2 ^ k))

  -- Of these, x takes the place of what the field held.
  pub word-put : (i o k : ℕ) → at ≡ 8 * i + o → o + w + k ≡ 32 → x < 2 ^ w
      → number (bit_put s at w x) (8 * i) 32 ≡ field_at s (8 * i) 32 - field_at s at w * 2 ^ k + x * 2 ^ k
  word-put i o k starts bits fits =
      let first : number f (8 * i) o ≡ field_at s (8 * i) o =
      number-ext f (bit_at s) (8 * i) (8 * i) o (λ j l. put-before (8 * i + j) (omega arith)) ∙ sym (field-number s (8 * i) o) in
      let middle : number f (8 * i + o) w ≡ x = rw (← starts) (number_is f at w x fits put-inside) in
      let last : number f (8 * i + (o + w)) k ≡ field_at s (8 * i + (o + w)) k =
      number-ext f (bit_at s) (8 * i + (o + w)) (8 * i + (o + w)) k (λ j l. put-after (8 * i + (o + w) + j) (omega arith))
      ∙ sym (field-number s (8 * i + (o + w)) k) in
      let new : number f (8 * i) 32 ≡ (field_at s (8 * i) o * 2 ^ w + x) * 2 ^ k + field_at s (8 * i + (o + w)) k =
      rw (← bits, number-add f (8 * i) (o + w) k, number-add f (8 * i) o w, first, middle, last) in
      rw (new, word-old i o k starts bits, add-mul (field_at s (8 * i) o * 2 ^ w) x (2 ^ k)) (omega arith)
    where
      f : ℕ → ℕ
      f = bit_put s at w x

-- ---- a word written byte by byte

-- Where a byte is written that g gives there, and g gives the others already, it gives all.
set_agrees : (g : ℕ → ℕ) (s : List ℕ) (i v j : ℕ) → v ≡ g i → j < length s → ((j ≡ i → ⊥) → get_or s j 0 ≡ g j) → get_or (set s i v) j 0 ≡ g j
set_agrees g s i v j e l h = go (eqb j i) refl
  where
    go : (b : Bool) → eqb j i ≡ b → get_or (set s i v) j 0 ≡ g j
    go true t = let same : j ≡ i = eqb-true j i t in rw same (get_or-set_same s i v 0 (rw same at l) ∙ e)
    go false t = get_or-set_other s i j v 0 (eqb-false j i t) ∙ h (eqb-false j i t)

-- The 32 bits that f gives from byte i on, written over bytes that f gives elsewhere.
pub put_word_lem : (f : ℕ → ℕ) → ((i : ℕ) → f i < 2) → (s : List ℕ) (i w : ℕ) → w ≡ number f (8 * i) 32
    → ((j : ℕ) → j < length s → (j ≡ i → ⊥) → (j ≡ i + 1 → ⊥) → (j ≡ i + 2 → ⊥) → (j ≡ i + 3 → ⊥) → get_or s j 0 ≡ number f (8 * j) 8)
    → put_word s i w ≡ bytes_by f (length s)
put_word_lem f digit s i w e rest =
    bytes-are f (put_word s i w)
    (λ j l.
    let m : j < length s = rw long at l in
    set_agrees g (set (set (set s i (w / 16777216 % 256)) (i + 1) (w / 65536 % 256)) (i + 2) (w / 256 % 256)) (i + 3) (w % 256) j fourth (simp length-set m)
    (λ d. set_agrees g (set (set s i (w / 16777216 % 256)) (i + 1) (w / 65536 % 256)) (i + 2) (w / 256 % 256) j third (simp length-set m)
    (λ c. set_agrees g (set s i (w / 16777216 % 256)) (i + 1) (w / 65536 % 256) j second (simp length-set m)
    (λ b. set_agrees g s i (w / 16777216 % 256) j first m (λ a. rest j m a b c d)))))
    ∙ ap (bytes_by f) long
  where
    g : ℕ → ℕ
    g j = number f (8 * j) 8

    long : length (put_word s i w) ≡ length s
    long = simp length-set

    from : (o t : ℕ) → o ≡ 8 * t → number f (8 * i + o) 8 ≡ g (i + t)
    from o t p = ap (λ (q : ℕ). number f q 8) (omega arith)

    first : w / 16777216 % 256 ≡ g i
    first = rw e (number-part f digit (8 * i) 0 8 24) ∙ ap (λ (q : ℕ). number f q 8) (add-zero (8 * i))

    second : w / 65536 % 256 ≡ g (i + 1)
    second = rw e (number-part f digit (8 * i) 8 8 16) ∙ from 8 1 refl

    third : w / 256 % 256 ≡ g (i + 2)
    third = rw e (number-part f digit (8 * i) 16 8 8) ∙ from 16 2 refl

    fourth : w % 256 ≡ g (i + 3)
    fourth = rw e (number-low f digit (8 * i) 24 8) ∙ from 24 3 refl

-- ---- the writer

module _ (s : List ℕ) (at w x : ℕ) where
  -- What the writer leaves: the word at the field's first byte, with x in the place of what the field held.
  pub put_is : ((j : ℕ) → get_or s j 0 < 256) → x < 2 ^ w → at % 8 + w ≤ 32
      → put_word s (at / 8) (field_at s (8 * (at / 8)) 32 - field_at s at w * 2 ^ (32 - at % 8 - w) + x * 2 ^ (32 - at % 8 - w)) ≡ put_field s at w x
  unfolding put_field
  put_is bytes fits room =
      put_word_lem (bit_put s at w x) (put-digit s at w x) s (at / 8) _ (sym (word-put s at w x (at / 8) (at % 8) (32 - at % 8 - w) (omega arith) (omega arith) fits))
      (λ j l a b c d. own-byte s j (bytes j) ∙ number-ext (bit_at s) (bit_put s at w x) (8 * j) (8 * j) 8 (λ t m. sym (same j a b c d t m)))
    where
      same : (j : ℕ) → (j ≡ at / 8 → ⊥) → (j ≡ at / 8 + 1 → ⊥) → (j ≡ at / 8 + 2 → ⊥) → (j ≡ at / 8 + 3 → ⊥) → (t : ℕ) → t < 8
          → bit_put s at w x (8 * j + t) ≡ bit_at s (8 * j + t)
      same j a b c d t m = go (ltb j (at / 8)) refl
        where
          go : (b : Bool) → ltb j (at / 8) ≡ b → bit_put s at w x (8 * j + t) ≡ bit_at s (8 * j + t)
          go true e = let h : j < at / 8 = ltb-true j (at / 8) e in put-before s at w x (8 * j + t) (omega arith)
          go false e = let h : at / 8 ≤ j = ltb-false j (at / 8) e in put-after s at w x (8 * j + t) (omega arith)

  -- The writer's sums: what the field held is part of the word, and the new word fits.
  pub held-part : at % 8 + w ≤ 32 → field_at s at w * 2 ^ (32 - at % 8 - w) ≤ field_at s (8 * (at / 8)) 32
  held-part room = omega (arith, word-old s at w x (at / 8) (at % 8) (32 - at % 8 - w) (omega arith) (omega arith))

  pub put-fits : x < 2 ^ w → at % 8 + w ≤ 32 → x * 2 ^ (32 - at % 8 - w) < 2 ^ 32
  put-fits fits room = lt_of_lt_of_le (shl_lt w (32 - at % 8 - w) fits) (pow_mono {j = 32} (omega arith))

  pub length-put : length (put_field s at w x) ≡ length s
  unfolding put_field
  length-put = length-bytes_by (bit_put s at w x) (length s)

  pub bit-put : (i : ℕ) → i < 8 * length s → bit_at (put_field s at w x) i ≡ bit_put s at w x i
  unfolding put_field
  bit-put = bit-bytes_by (bit_put s at w x) (length s) (put-digit s at w x)

  -- What was written is read back.
  pub put-read : x < 2 ^ w → at + w ≤ 8 * length s → field_at (put_field s at w x) at w ≡ x
  put-read fits room =
      field-number (put_field s at w x) at w
      ∙ number_is (bit_at (put_field s at w x)) at w x fits (λ j k e. bit-put (at + j) (omega arith) ∙ put-inside s at w x j k e)

  -- Other fields stay.
  pub put_keeps : (from v : ℕ) → from + v ≤ 8 * length s → (from + v ≤ at) ⊎ (at + w ≤ from) → field_at (put_field s at w x) from v ≡ field_at s from v
  put_keeps from v room far =
      field-number (put_field s at w x) from v
      ∙ number-ext (bit_at (put_field s at w x)) (bit_at s) from from v (λ j l. bit-put (from + j) (omega arith) ∙ same far j l)
      ∙ sym (field-number s from v)
    where
      same : (from + v ≤ at) ⊎ (at + w ≤ from) → (j : ℕ) → j < v → bit_put s at w x (from + j) ≡ bit_at s (from + j)
      same (inl h) j l = put-before s at w x (from + j) (omega arith)
      same (inr h) j l = put-after s at w x (from + j) (omega arith)
