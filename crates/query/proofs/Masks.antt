-- Laws of masks: which vertices are in a union, an intersection, a difference, in one vertex's set and in that of the vertices
-- below n; and the mask of a set is one number. Assumes nothing.
use mathlib.Core.Path.{◌≡◌, refl, sym, ◌∙◌, ap, ap₂}
use mathlib.Core.Bool.{Bool, true, false, not, ◌&&◌, ◌||◌}
use Prim.Native.Nat.{ℕ, zero, suc, ◌+◌, ◌-◌, ◌*◌, ◌/◌, ◌%◌, ◌^◌, ◌<◌}
use native.Mathlib.Nat.{lt_of_lt_of_le, one-mul, mod-lt, zero-lt-suc, div-one, div-eq_of_lt, div_self, div-add-mod'}
use native.Mathlib.Omega.{arith}
use lib.Dec.{eqb, ltb}
use lib.Bits.{bit_and, bit_or, bit_xor, and_shr, or_shr, xor_shr, and_mod, or_mod, xor_mod}
use lib.Pow.{pow_pos, pow_mono, pow-lt, pow-add, shl_exact, shl-shr, shr-shr, high, ones_lt, ones_split}
use borrow.Author.Tests.{ltb-true, ltb-false, eqb-true, eqb-false, eq-eqb, ne_eqb, lt-ltb}
use Rattle.lists.specs.Lists.{range, all}
use Rattle.lists.proofs.Tests.{clash, iff, fails, and_l, and_r, not-true, not-false}
use Rattle.lists.proofs.All.{all-at, all-range}
use Rattle.query.specs.Query.{VertexSet}
use Rattle.query.specs.Inner.Mask.{in_mask, MaskOf, only}

-- A shifted 1, as the code makes one.
pub shifted_one : (v : ℕ) → v < 32 → 1 * 2 ^ v % 2 ^ 32 ≡ 2 ^ v
shifted_one v h = shl_exact 1 v 32 (omega arith) (omega arith) ∙ one-mul (2 ^ v)

-- ---- union, intersection, difference

-- An operation on each digit is a test on each vertex.
module _ (op : ℕ → ℕ → ℕ) (t : Bool → Bool → Bool)
    (shr : (a b k : ℕ) → op a b / 2 ^ k ≡ op (a / 2 ^ k) (b / 2 ^ k)) (low : (a b k : ℕ) → op a b % 2 ^ k ≡ op (a % 2 ^ k) (b % 2 ^ k))
    (at00 : eqb (op 0 0) 1 ≡ t false false) (at01 : eqb (op 0 1) 1 ≡ t false true)
    (at10 : eqb (op 1 0) 1 ≡ t true false) (at11 : eqb (op 1 1) 1 ≡ t true true) where
  digit : (x y : ℕ) → x < 2 → y < 2 → eqb (op x y) 1 ≡ t (eqb x 1) (eqb y 1)
  digit zero zero hx hy = at00
  digit zero (suc zero) hx hy = at01
  digit zero (suc (suc y)) hx hy = absurd (omega arith)
  digit (suc zero) zero hx hy = at10
  digit (suc zero) (suc zero) hx hy = at11
  digit (suc zero) (suc (suc y)) hx hy = absurd (omega arith)
  digit (suc (suc x)) y hx hy = absurd (omega arith)

  in-op : (a b w : ℕ) → in_mask (op a b) w ≡ t (in_mask a w) (in_mask b w)
  unfolding in_mask
  in-op a b w =
      ap (λ (n : ℕ). eqb (n % 2) 1) (shr a b w) ∙ ap (λ (n : ℕ). eqb n 1) (low (a / 2 ^ w) (b / 2 ^ w) 1)
      ∙ digit (a / 2 ^ w % 2) (b / 2 ^ w % 2) (mod-lt _ (zero-lt-suc 1)) (mod-lt _ (zero-lt-suc 1))

pub in-or : (a b w : ℕ) → in_mask (bit_or a b) w ≡ (in_mask a w || in_mask b w)
in-or = in-op bit_or (λ x y. x || y) or_shr or_mod refl refl refl refl

pub in_and : (a b w : ℕ) → in_mask (bit_and a b) w ≡ (in_mask a w && in_mask b w)
in_and = in-op bit_and (λ x y. x && y) and_shr and_mod refl refl refl refl

-- a ^ (a & b): what a has and b lacks.
pub in-minus : (a b w : ℕ) → in_mask (bit_xor a (bit_and a b)) w ≡ (in_mask a w && not (in_mask b w))
in-minus =
    in-op (λ a b. bit_xor a (bit_and a b)) (λ x y. x && not y)
    (λ a b k. xor_shr a (bit_and a b) k ∙ ap (bit_xor (a / 2 ^ k)) (and_shr a b k))
    (λ a b k. xor_mod a (bit_and a b) k ∙ ap (bit_xor (a % 2 ^ k)) (and_mod a b k)) refl refl refl refl

-- ---- no vertex, one vertex, the vertices below n

-- A number below 2 ^ w has no vertex w.
past : (m w : ℕ) → m < 2 ^ w → in_mask m w ≡ false
unfolding in_mask
past m w h = rw (div-eq_of_lt h) refl

pub in-none : (w : ℕ) → in_mask 0 w ≡ false
in-none w = past 0 w (pow_pos w)

-- What is left of 2 ^ v above digit w is even.
even : (j w v : ℕ) → v ≡ suc j + w → 2 ^ v / 2 ^ w % 2 ≡ 0
even j w v e =
    ap (λ (n : ℕ). n / 2 ^ w % 2) (ap (λ (k : ℕ). 2 ^ k) e ∙ pow-add 2 (suc j) w) ∙ ap (λ (n : ℕ). n % 2) (shl-shr (2 ^ suc j) w) ∙ omega arith

pub in-only : (v : ℕ) → MaskOf (2 ^ v) (only v)
unfolding in_mask
in-only v w = go (ltb w v) refl (ltb v w) refl
  where
    go : (b : Bool) → ltb w v ≡ b → (c : Bool) → ltb v w ≡ c → eqb (2 ^ v / 2 ^ w % 2) 1 ≡ eqb w v
    go true l c m =
        let h : w < v = ltb-true w v l in
        rw (even (v - w - 1) w v (omega arith), ne_eqb w v (omega arith)) refl
    go false l true m =
        let h : v < w = ltb-true v w m in
        rw (div-eq_of_lt (pow-lt h), ne_eqb w v (omega arith)) refl
    go false l false m =
        let i : w ≡ v = omega (arith, ltb-false w v l, ltb-false v w m) in
        rw (i, div_self (pow_pos v), eq-eqb v v refl) refl

pub in-below : (n : ℕ) → MaskOf (2 ^ n - 1) (λ (w : ℕ). ltb w n)
unfolding in_mask
in-below n w = go (ltb w n) refl
  where
    go : (b : Bool) → ltb w n ≡ b → eqb ((2 ^ n - 1) / 2 ^ w % 2) 1 ≡ b
    go true e =
        let h : w < n = ltb-true w n e in
        let top : n ≡ suc (n - w - 1) + w = omega arith in
        let odd : (2 ^ suc (n - w - 1) - 1) % 2 ≡ 1 = omega (arith, pow_pos (n - w - 1)) in
        ap (λ (k : ℕ). eqb ((2 ^ k - 1) / 2 ^ w % 2) 1) top ∙ ap (λ (k : ℕ). eqb (k / 2 ^ w % 2) 1) (ones_split (suc (n - w - 1)) w)
        ∙ ap (λ (k : ℕ). eqb (k % 2) 1) (high (2 ^ suc (n - w - 1) - 1) w (ones_lt w)) ∙ eq-eqb _ 1 odd
    go false e = past (2 ^ n - 1) w (lt_of_lt_of_le (ones_lt n) (pow_mono (ltb-false w n e)))

-- ---- the mask of a set is one number

-- The vertices of half a number are those above 0, each one less.
in-half : (m w : ℕ) → in_mask (m / 2) w ≡ in_mask m (1 + w)
unfolding in_mask
in-half m w = ap (λ (n : ℕ). eqb (n % 2) 1) (shr-shr m 1 w)

in-zero : (m : ℕ) → in_mask m 0 ≡ eqb (m % 2) 1
unfolding in_mask
in-zero m = ap (λ (n : ℕ). eqb (n % 2) 1) (div-one m)

same-digit : (x y : ℕ) → x < 2 → y < 2 → eqb x 1 ≡ eqb y 1 → x ≡ y
same-digit x y hx hy e = go (eqb x 1) refl
  where
    go : (b : Bool) → eqb x 1 ≡ b → x ≡ y
    go true p = omega (arith, eqb-true x 1 p, eqb-true y 1 (sym e ∙ p))
    go false p =
        let nx : (x ≡ 1 → ⊥) = eqb-false x 1 p in
        let ny : (y ≡ 1 → ⊥) = eqb-false y 1 (sym e ∙ p) in
        omega arith

pub mask-unique : (k m n : ℕ) → m < 2 ^ k → n < 2 ^ k → ((w : ℕ) → in_mask m w ≡ in_mask n w) → m ≡ n
mask-unique zero m n hm hn h = omega arith
mask-unique (suc k) m n hm hn h =
    sym (div-add-mod' m 2)
    ∙ ap₂ (λ (x y : ℕ). x * 2 + y)
    (mask-unique k (m / 2) (n / 2) (omega arith) (omega arith) (λ w. in-half m w ∙ h (1 + w) ∙ sym (in-half n w)))
    (same-digit (m % 2) (n % 2) (mod-lt m (zero-lt-suc 1)) (mod-lt n (zero-lt-suc 1)) (sym (in-zero m) ∙ h 0 ∙ in-zero n))
    ∙ div-add-mod' n 2

-- A number that has no vertex is 0.
pub mask-empty : (k m : ℕ) → m < 2 ^ k → ((w : ℕ) → in_mask m w ≡ false) → m ≡ 0
mask-empty k m h e = mask-unique k m 0 h (pow_pos k) (λ w. e w ∙ sym (in-none w))

-- S has every vertex below n where the mask of those that it lacks is 0.
pub mask-all : (k m n : ℕ) (S : VertexSet) → m < 2 ^ k → MaskOf m (λ (w : ℕ). ltb w n && not (S w)) → all S (range n) ≡ eqb m 0
mask-all k m n S h ms =
    iff (all S (range n)) (eqb m 0)
    (λ e. eq-eqb m 0 (mask-empty k m h (λ w. ms w ∙ fails (ltb w n && not (S w)) (λ b.
    clash (all-at S n e w (ltb-true w n (and_l (ltb w n) (not (S w)) b))) (not-true (S w) (and_r (ltb w n) (not (S w)) b))))))
    (λ e. all-range S n (λ w l. not-false (S w) (sym (rw (lt-ltb w n l) at (ms w)) ∙ ap (λ (x : ℕ). in_mask x w) (eqb-true m 0 e) ∙ in-none w)))
