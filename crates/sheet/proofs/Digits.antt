-- Laws of decimal numbers: the last digit and those before it, and how many there are. Assumes nothing.
use mathlib.Core.Path.{◌≡◌, refl, ap}
use mathlib.Core.Bool.{Bool, true, false, cond}
use mathlib.Core.List.{List, [], ◌∷◌, ◌++◌}
use Prim.Native.Nat.{ℕ, zero, suc, ◌/◌, ◌%◌, ◌^◌, ◌≤◌, ◌<◌}
use native.Mathlib.Omega.{arith}
use lib.Dec.{ltb}
use lib.ListN.{length, length-append}
use borrow.Author.Tests.{ltb-true, ltb-false, lt-ltb, le-ltb}
use Rattle.sheet.specs.Decimal.{digit, digits_of, decimal}

-- More steps than the number make no difference.
digits-enough : (k j n : ℕ) → n < k → n < j → digits_of k n ≡ digits_of j n
unfolding digits_of
digits-enough zero j n h l = absurd (omega arith)
digits-enough (suc k) zero n h l = absurd (omega arith)
digits-enough (suc k) (suc j) n h l = go (ltb n 10) refl (λ a b. digits-enough k j (n / 10) a b)
  where
    go : (b : Bool) → ltb n 10 ≡ b → (n / 10 < k → n / 10 < j → digits_of k (n / 10) ≡ digits_of j (n / 10))
        → cond b (digit n ∷ []) (digits_of k (n / 10) ++ (digit (n % 10) ∷ [])) ≡ cond b (digit n ∷ []) (digits_of j (n / 10) ++ (digit (n % 10) ∷ []))
    go true e f = refl
    go false e f =
        let big : 10 ≤ n = ltb-false n 10 e in
        ap (λ (l : List ℕ). l ++ (digit (n % 10) ∷ [])) (f (omega arith) (omega arith))

pub decimal-short : (n : ℕ) → n < 10 → decimal n ≡ digit n ∷ []
unfolding decimal digits_of
decimal-short n h = rw (lt-ltb n 10 h) refl

pub decimal-long : (n : ℕ) → 10 ≤ n → decimal n ≡ decimal (n / 10) ++ (digit (n % 10) ∷ [])
unfolding decimal digits_of
decimal-long n h =
    rw (le-ltb n 10 h) (ap (λ (l : List ℕ). l ++ (digit (n % 10) ∷ [])) (digits-enough n (suc (n / 10)) (n / 10) (omega arith) (omega arith)))

-- A fact of every number: of those below 10, and of each other where it is one of its tenth.
pub by-tens : (P : ℕ → Type 0) → ((n : ℕ) → n < 10 → P n) → ((n : ℕ) → 10 ≤ n → P (n / 10) → P n) → (n : ℕ) → P n
by-tens P short long n = go (suc n) n (omega arith)
  where
    go : (k n : ℕ) → n < k → P n
    go zero n h = absurd (omega arith)
    go (suc k) n h = pick (ltb n 10) refl (λ l. go k (n / 10) l)
      where
        pick : (b : Bool) → ltb n 10 ≡ b → (n / 10 < k → P (n / 10)) → P n
        pick true e f = short n (ltb-true n 10 e)
        pick false e f = let big : 10 ≤ n = ltb-false n 10 e in long n big (f (omega arith))

-- A number below 10 to the power of w + 1 has at most w + 1 digits.
pub decimal-width : (w n : ℕ) → n < 10 ^ suc w → length (decimal n) ≤ suc w
decimal-width zero n h = rw (decimal-short n h) (omega arith)
decimal-width (suc w) n h = pick (ltb n 10) refl (λ l. decimal-width w (n / 10) l)
  where
    pick : (b : Bool) → ltb n 10 ≡ b → (n / 10 < 10 ^ suc w → length (decimal (n / 10)) ≤ suc w) → length (decimal n) ≤ suc (suc w)
    pick true e f = rw (decimal-short n (ltb-true n 10 e)) (omega arith)
    pick false e f =
        rw (decimal-long n (ltb-false n 10 e), length-append (decimal (n / 10)) (digit (n % 10) ∷ []))
        (let l : length (decimal (n / 10)) ≤ suc w = f (omega arith) in omega arith)
