-- Words of which none is set are zeros. Assumes nothing.
use mathlib.Core.Path.{◌≡◌, refl, sym, ◌∙◌, ap, ap₂}
use mathlib.Core.Bool.{Bool, true, false, not}
use mathlib.Core.List.{List, ◌++◌}
use Prim.Native.Nat.{ℕ, ◌+◌, ◌-◌, ◌≤◌, ◌<◌}
use native.Mathlib.Omega.{arith}
use mir.Val.{bool_byte}
use lib.Dec.{eqb, ltb}
use lib.ListN.{length, get_or, take, drop, replicate, length-replicate, get_or-replicate, length-drop, replicate-append-replicate}
use lib.Seq.{ext_get_or, get_or-take, get_or-drop, length-take-le}
use borrow.Author.Tests.{eqb-true, ltb-true, ltb-false}

-- A test as a number.
pub unset : (x : ℕ) → bool_byte (not (eqb x 0)) ≡ 0 → x ≡ 0
unset x e = go (eqb x 0) refl e
  where
    go : (b : Bool) → eqb x 0 ≡ b → bool_byte (not b) ≡ 0 → x ≡ 0
    go true t e = eqb-true x 0 t
    go false t e = absurd (omega arith)

pub byte_le : (b : Bool) → bool_byte b ≤ 1
byte_le true = omega arith
byte_le false = omega arith

-- The words from one index on, up to another, are 0.
abbrev pub ZerosIn : List ℕ → ℕ → ℕ → Type 0
ZerosIn xs from to = (k : ℕ) → from ≤ k → k < to → get_or xs k 0 ≡ 0

pub zeros-next : (xs : List ℕ) (i : ℕ) → ZerosIn xs 0 i → get_or xs i 0 ≡ 0 → ZerosIn xs 0 (i + 1)
zeros-next xs i z e k a b = go (ltb k i) refl
  where
    go : (t : Bool) → ltb k i ≡ t → get_or xs k 0 ≡ 0
    go true t = z k a (ltb-true k i t)
    go false t = ap (λ (j : ℕ). get_or xs j 0) (let s : k ≡ i = omega (arith, ltb-false k i t) in s) ∙ e

pub all-zeros : (xs : List ℕ) → ZerosIn xs 0 (length xs) → xs ≡ replicate (length xs) 0
all-zeros xs z =
    ext_get_or 0 xs (replicate (length xs) 0) (sym (length-replicate (length xs) 0))
    (λ k l. z k (omega arith) l ∙ sym (get_or-replicate (length xs) k 0 0 l))

pub last-zeros : (xs : List ℕ) (end : ℕ) → ZerosIn xs end (length xs) → drop end xs ≡ replicate (length xs - end) 0
last-zeros xs end z =
    ext_get_or 0 (drop end xs) (replicate (length xs - end) 0) (length-drop end xs ∙ sym (length-replicate (length xs - end) 0))
    (λ k l.
    let d : k < length xs - end = rw length-drop at l in
    get_or-drop end xs k 0 ∙ z (end + k) (omega arith) (omega arith) ∙ sym (get_or-replicate (length xs - end) k 0 0 d))

-- A block of zeros before those at the end.
pub more-zeros : (xs : List ℕ) (from end : ℕ) → from ≤ end → end ≤ length xs → take (end - from) (drop from xs) ≡ replicate (length (take (end - from) (drop from xs))) 0
    → ZerosIn xs end (length xs) → ZerosIn xs from (length xs)
more-zeros xs from end a b e z k l m = go (ltb k end) refl
  where
    part : List ℕ
    part = take (end - from) (drop from xs)

    long : length part ≡ end - from
    long = length-take-le (end - from) (drop from xs) (rw length-drop (omega arith))

    go : (t : Bool) → ltb k end ≡ t → get_or xs k 0 ≡ 0
    go true t =
        let i : k - from < end - from = omega (arith, ltb-true k end t) in
        ap (λ (j : ℕ). get_or xs j 0) (let s : k ≡ from + (k - from) = omega arith in s)
        ∙ sym (get_or-take (end - from) (drop from xs) (k - from) 0 i ∙ get_or-drop from xs (k - from) 0)
        ∙ ap (λ (l : List ℕ). get_or l (k - from) 0) e
        ∙ get_or-replicate (length part) (k - from) 0 0 (rw long i)
    go false t = z k (ltb-false k end t) m

-- Zeros written before zeros that are there.
pub zeros-before : (xs : List ℕ) (end : ℕ) → end ≤ length xs → drop end xs ≡ replicate (length xs - end) 0
    → replicate (length (take end xs)) 0 ++ drop end xs ≡ replicate (length xs) 0
zeros-before xs end l z =
    ap₂ (λ (k : ℕ) (t : List ℕ). replicate {A = ℕ} k 0 ++ t) (length-take-le end xs l) z ∙ replicate-append-replicate end (length xs - end) 0
    ∙ ap (λ (k : ℕ). replicate {A = ℕ} k 0) (let e : end + (length xs - end) ≡ length xs = omega arith in e)
