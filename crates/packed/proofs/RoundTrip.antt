-- The round trip of fields: where the bits of a number were written, alone, in the middle of a file or in one of many records, the
-- field there is that number. Assumes nothing.
use mathlib.Core.Path.{◌≡◌, refl, ap, ◌∙◌}
use mathlib.Core.List.{List, [], ◌∷◌, ◌++◌, flat_map}
use Prim.Native.Nat.{ℕ, zero, suc, ◌+◌, ◌*◌, ◌/◌, ◌%◌, ◌^◌, ◌≤◌, ◌<◌}
use native.Mathlib.Nat.{mod-mod, mul-le-mul_left, add_assoc, add-zero, zero-add}
use native.Mathlib.Omega.{arith}
use lib.ListN.{length, get_or, length-append, get_or-append}
use lib.Seq.{get_or-append-add}
use Rattle.lists.specs.Lists.{range}
use Rattle.packed.specs.Field.{field_at}
use Rattle.packed.specs.Encode.{number, bit_in, bits_of, bytes_of}
use Rattle.packed.proofs.Number.{number-ext, number_is}
use Rattle.packed.proofs.Encoded.{field-bytesOf}

-- ---- the bits of a number

-- A number of w bits is written in w bits.
pub length-bitsOf : (w x : ℕ) → length (bits_of w x) ≡ w
unfolding bits_of
length-bitsOf zero x = refl
length-bitsOf (suc w) x = ap suc (length-bitsOf w x)

-- A bit of a number, with j bits before it and k after.
pub bit-bitsOf : (w x j k : ℕ) → j + suc k ≡ w → bit_in (bits_of w x) j ≡ x / 2 ^ k % 2
unfolding bits_of
bit-bitsOf zero x j k e = absurd (omega arith)
bit-bitsOf (suc w) x zero k e = let same : k ≡ w = omega arith in rw (mod-mod, same)
bit-bitsOf (suc w) x (suc j) k e = bit-bitsOf w x j k (omega arith)

-- The w bits of a number below 2 ^ w make the number.
pub number-bitsOf : (w x : ℕ) → x < 2 ^ w → number (bit_in (bits_of w x)) 0 w ≡ x
number-bitsOf w x h = number_is (bit_in (bits_of w x)) 0 w x h (λ j k e. rw zero-add (bit-bitsOf w x j k e))

-- ---- numbers in parts of a list of bits

-- In the first of two lists.
pub number-left : (xs ys : List ℕ) (at w : ℕ) → at + w ≤ length xs → number (bit_in (xs ++ ys)) at w ≡ number (bit_in xs) at w
number-left xs ys at w h = number-ext _ _ at at w (λ j l. ap (λ (b : ℕ). b % 2) (get_or-append xs ys 0 (at + j) (omega arith)))

-- In the second, after n bits.
pub number-right : (xs ys : List ℕ) (n at w : ℕ) → length xs ≡ n → number (bit_in (xs ++ ys)) (n + at) w ≡ number (bit_in ys) at w
number-right xs ys n at w e =
    number-ext _ _ (n + at) at w (λ j l. ap (λ (b : ℕ). b % 2) (rw (← e, add_assoc) (get_or-append-add xs ys (at + j) 0)))

-- In the middle of three, after n bits.
pub number-inside : (pre mid post : List ℕ) (n at w : ℕ) → length pre ≡ n → at + w ≤ length mid → number (bit_in (pre ++ mid ++ post)) (n + at) w ≡ number (bit_in mid) at w
number-inside pre mid post n at w e h =
    let long : n + at + w ≤ length (pre ++ mid) = rw length-append (omega arith) in
    number-left (pre ++ mid) post (n + at) w long ∙ number-right pre mid n at w e

-- In the middle, where the bits of a number were put.
pub number_put : (pre : List ℕ) (w x : ℕ) (post : List ℕ) (n : ℕ) → length pre ≡ n → x < 2 ^ w → number (bit_in (pre ++ bits_of w x ++ post)) n w ≡ x
number_put pre w x post n e h =
    rw add-zero at (number-inside pre (bits_of w x) post n 0 w e (omega (arith, length-bitsOf w x))) ∙ number-bitsOf w x h

-- In record i of records of k bits each.
pub number-record : {A : Type 0} (rec : A → List ℕ) (k : ℕ) → ((x : A) → length (rec x) ≡ k)
    → (xs : List A) (d : A) (i at w : ℕ) → i < length xs → at + w ≤ k
    → number (bit_in (flat_map rec xs)) (k * i + at) w ≡ number (bit_in (rec (get_or xs i d))) at w
unfolding flat_map
number-record rec k long [] d i at w h l = absurd (omega arith)
number-record rec k long (x ∷ xs) d zero at w h l =
    let from : k * 0 + at ≡ at = omega arith in
    rw from (number-left (rec x) (flat_map rec xs) at w (omega (arith, long x)))
number-record rec k long (x ∷ xs) d (suc i) at w h l =
    let from : k * suc i + at ≡ k + (k * i + at) = omega arith in
    rw from (number-right (rec x) (flat_map rec xs) k (k * i + at) w (long x)) ∙ number-record rec k long xs d i at w (omega arith) l

-- Records of k bits each take k times as many bits.
pub length-records : {A : Type 0} (rec : A → List ℕ) (k : ℕ) → ((x : A) → length (rec x) ≡ k) → (xs : List A) → length (flat_map rec xs) ≡ k * length xs
unfolding flat_map
length-records rec k long [] = omega arith
length-records rec k long (x ∷ xs) = rw length-append (omega (arith, long x, length-records rec k long xs))

-- ---- fields of a file

-- The field where the bits of a number were put, after n bits, is the number.
pub field_put : (pre : List ℕ) (w x : ℕ) (post : List ℕ) (n : ℕ) → length pre ≡ n → x < 2 ^ w → field_at (bytes_of (pre ++ bits_of w x ++ post)) n w ≡ x
field_put pre w x post n e h = field-bytesOf (pre ++ bits_of w x ++ post) n w ∙ number_put pre w x post n e h

-- A field of record i, of records of k bits each that stand after n bits, is that number of the record.
pub field-record : {A : Type 0} (pre : List ℕ) (rec : A → List ℕ) (xs : List A) (post : List ℕ) (n k : ℕ)
    → length pre ≡ n → ((x : A) → length (rec x) ≡ k) → (d : A) (i at w : ℕ) → i < length xs → at + w ≤ k
    → field_at (bytes_of (pre ++ flat_map rec xs ++ post)) (n + (k * i + at)) w ≡ number (bit_in (rec (get_or xs i d))) at w
field-record pre rec xs post n k e long d i at w h l =
    let room : k * i + at + w ≤ length (flat_map rec xs) = omega (arith, length-records rec k long xs, mul-le-mul_left k h) in
    field-bytesOf (pre ++ flat_map rec xs ++ post) (n + (k * i + at)) w ∙ number-inside pre (flat_map rec xs) post n (k * i + at) w e room
    ∙ number-record rec k long xs d i at w h l

-- The worked graph file of 4 vertices and 5 edges begins 0004 00005.
worked : bytes_of (bits_of 16 4 ++ bits_of 20 5) ≡ 0 ∷ 4 ∷ 0 ∷ 0 ∷ 80 ∷ []
unfolding bytes_of bits_of number range
worked = refl
