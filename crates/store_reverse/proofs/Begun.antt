-- How many lists begin before an entry tells its vertex. Assumes nothing.
use mathlib.Core.Path.{◌≡◌, refl, ◌∙◌, ap}
use mathlib.Core.Bool.{Bool, true, false}
use mathlib.Core.List.{List}
use Prim.Native.Nat.{ℕ, zero, suc, ◌-◌, ◌≤◌, ◌<◌, zero-le}
use native.Mathlib.Nat.{not-suc-le-zero}
use native.Mathlib.Omega.{arith}
use lib.Dec.{ltb}
use lib.ListN.{length, get_or}
use borrow.Author.Tests.{ltb-true, lt-ltb, ltb-false}
use Rattle.lists.specs.Lists.{range, count_if}
use Rattle.lists.proofs.Tests.{clash}
use Rattle.lists.proofs.Count.{count-snoc}
use Rattle.store_reverse.specs.Inner.Check.{offsets_fit}
use Rattle.store_reverse.specs.Inner.Begun.{begun}
use Rattle.store_reverse.proofs.Offsets.{Rising, fit-rising}

-- A test that, once failed, fails from there on is passed by the first c numbers.
pub record Split (p : ℕ → Bool) (n c : ℕ) : Type 0 where
  pub inside : c ≤ n
  pub passes : (v : ℕ) → v < c → p v ≡ true
  pub fails : (v : ℕ) → c ≤ v → v < n → p v ≡ false

-- One number more.
module _ (p : ℕ → Bool) (n : ℕ) (d : (v : ℕ) → suc v < suc n → p (suc v) ≡ true → p v ≡ true) (rest : Split p n (count_if p (range n))) where
  -- Where the next one passes, all before it do.
  whole : p n ≡ true → (n' : ℕ) → n ≡ n' → count_if p (range n) ≡ n
  whole t zero e = omega (arith, rest.inside)
  whole t (suc n') e = leave (ltb n' (count_if p (range n))) refl
    where
      leave : (b : Bool) → ltb n' (count_if p (range n)) ≡ b → count_if p (range n) ≡ n
      leave true l = omega (arith, rest.inside, ltb-true n' (count_if p (range n)) l)
      leave false l = clash (d n' (omega arith) (rw e at t)) (rest.fails n' (ltb-false n' (count_if p (range n)) l) (omega arith))

  next-passes : p n ≡ true → Split p (suc n) (suc n)
  next-passes t = record { inside = omega arith; passes = λ v h. each v (ltb v n) refl h; fails = λ v h l. absurd (omega arith) }
    where
      each : (v : ℕ) (b : Bool) → ltb v n ≡ b → v < suc n → p v ≡ true
      each v true l h = rest.passes v (rw (whole t n refl) (ltb-true v n l))
      each v false l h = rw (let i : v ≡ n = omega (arith, ltb-false v n l) in i) t

  next-fails : p n ≡ false → Split p (suc n) (count_if p (range n))
  next-fails t = record { inside = omega (arith, rest.inside); passes = rest.passes; fails = λ v h l. each v (ltb v n) refl h l }
    where
      each : (v : ℕ) (b : Bool) → ltb v n ≡ b → count_if p (range n) ≤ v → v < suc n → p v ≡ false
      each v true k h l = rest.fails v h (ltb-true v n k)
      each v false k h l = rw (let i : v ≡ n = omega (arith, ltb-false v n k) in i) t

  split-next : (b : Bool) → p n ≡ b → Split p (suc n) (count_if p (range (suc n)))
  unfolding range
  split-next true t = rw (let e : count_if p (range (suc n)) ≡ suc n = count-snoc p (range n) n ∙ rw t (omega (arith, whole t n refl)) in e) (next-passes t)
  split-next false t = rw (let e : count_if p (range (suc n)) ≡ count_if p (range n) = count-snoc p (range n) n ∙ rw t (omega arith) in e) (next-fails t)

none-counted : (p : ℕ → Bool) → count_if p (range 0) ≡ 0
unfolding range count_if
none-counted p = refl

pub split : (p : ℕ → Bool) (n : ℕ) → ((v : ℕ) → suc v < n → p (suc v) ≡ true → p v ≡ true) → Split p n (count_if p (range n))
split p zero d =
    record {
      inside = rw (none-counted p) zero-le;
      passes = λ v h. absurd (omega (arith, none-counted p));
      fails = λ v h l. absurd (not-suc-le-zero l);
    }
split p (suc n) d = split-next p n d (split p n (λ v h. d v (omega arith))) (p n) refl

-- ---- where lists begin

-- The offsets of n lists with m entries.
pub record Offsets (starts : List ℕ) (n m : ℕ) : Type 0 where
  pub long : length starts ≡ suc n
  pub fit : offsets_fit m starts ≡ true

module _ {starts : List ℕ} {n m : ℕ} (o : Offsets starts n m) where
  rising : Rising m n (λ (v : ℕ). get_or starts v 0)
  rising = fit-rising m n starts o.long o.fit

  pub rises-on : (v w : ℕ) → v ≤ w → w ≤ n → get_or starts v 0 ≤ get_or starts w 0
  rises-on v zero l h = rw (let e : v ≡ 0 = omega arith in e) (omega arith)
  rises-on v (suc w) l h = last (ltb w v) refl (rises-on v w)
    where
      last : (b : Bool) → ltb w v ≡ b → (v ≤ w → w ≤ n → get_or starts v 0 ≤ get_or starts w 0) → get_or starts v 0 ≤ get_or starts (suc w) 0
      last true t f = rw (let e : v ≡ suc w = omega (arith, ltb-true w v t) in e) (omega arith)
      last false t f = omega (arith, f (ltb-false w v t) (omega arith), rising.rises w h)

  pub last_is : get_or starts n 0 ≡ m
  last_is = rising.ends

  begun-is : (i : ℕ) → begun starts i ≡ count_if (λ (v : ℕ). ltb (get_or starts v 0) i) (range n)
  unfolding begun
  begun-is i = ap (λ (k : ℕ). count_if (λ (v : ℕ). ltb (get_or starts v 0) i) (range k)) (let e : length starts - 1 ≡ n = omega (arith, o.long) in e)

  -- The first lists begin before an entry, and the others do not.
  pub begun-split : (i : ℕ) → Split (λ (v : ℕ). ltb (get_or starts v 0) i) n (begun starts i)
  begun-split i =
      rw (begun-is i)
      (split (λ (v : ℕ). ltb (get_or starts v 0) i) n (λ v h t. lt-ltb (get_or starts v 0) i (omega (arith, rising.rises v (omega arith), ltb-true (get_or starts (suc v) 0) i t))))

  pub begins-before : (i v : ℕ) → v < begun starts i → get_or starts v 0 < i
  begins-before i v h = ltb-true (get_or starts v 0) i ((begun-split i).passes v h)

  pub begins-after : (i v : ℕ) → begun starts i ≤ v → v < n → i ≤ get_or starts v 0
  begins-after i v h l = ltb-false (get_or starts v 0) i ((begun-split i).fails v h l)

  pub begun-few : (i : ℕ) → begun starts i ≤ n
  begun-few i = (begun-split i).inside

  pub begun-none : begun starts 0 ≡ 0
  begun-none = none (begun starts 0) refl
    where
      none : (c : ℕ) → begun starts 0 ≡ c → begun starts 0 ≡ 0
      none zero e = e
      none (suc c) e = absurd (omega (arith, begins-before 0 0 (rw e (omega arith))))

  -- The vertex of entry i.
  pub begun-some : (i : ℕ) → i < m → 0 < begun starts (suc i)
  begun-some i l = some (begun starts (suc i)) refl
    where
      some : (c : ℕ) → begun starts (suc i) ≡ c → 0 < c
      some zero e = absurd (none n refl)
        where
          none : (n' : ℕ) → n ≡ n' → ⊥
          none zero z = omega (arith, rising.starts, rising.ends, ap (λ (k : ℕ). get_or starts k 0) z)
          none (suc n') z = omega (arith, rising.starts, begins-after (suc i) 0 (rw e (omega arith)) (omega arith))
      some (suc c) e = omega arith

  pub its-start : (i : ℕ) → i < m → get_or starts (begun starts (suc i) - 1) 0 ≤ i
  its-start i l = omega (arith, begins-before (suc i) (begun starts (suc i) - 1) (omega (arith, begun-some i l)))

  pub its-end : (i : ℕ) → i < m → i < get_or starts (suc (begun starts (suc i) - 1)) 0
  its-end i l = ends (ltb (begun starts (suc i)) n) refl
    where
      c : suc (begun starts (suc i) - 1) ≡ begun starts (suc i)
      c = omega (arith, begun-some i l)

      ends : (b : Bool) → ltb (begun starts (suc i)) n ≡ b → i < get_or starts (suc (begun starts (suc i) - 1)) 0
      ends true t = rw c (begins-after (suc i) (begun starts (suc i)) (omega arith) (ltb-true (begun starts (suc i)) n t))
      ends false t =
          rw (c, let e : begun starts (suc i) ≡ n = omega (arith, begun-few (suc i), ltb-false (begun starts (suc i)) n t) in e, rising.ends) l

  -- A vertex whose list has entry i is that one.
  pub its-vertex : (i v : ℕ) → v < n → get_or starts v 0 ≤ i → i < get_or starts (suc v) 0 → begun starts (suc i) ≡ suc v
  its-vertex i v h a b = both (ltb v (begun starts (suc i))) refl (ltb (suc v) (begun starts (suc i))) refl
    where
      both : (x : Bool) → ltb v (begun starts (suc i)) ≡ x → (y : Bool) → ltb (suc v) (begun starts (suc i)) ≡ y → begun starts (suc i) ≡ suc v
      both false s y t = absurd (omega (arith, begins-after (suc i) v (ltb-false v (begun starts (suc i)) s) h))
      both true s true t = absurd (omega (arith, begins-before (suc i) (suc v) (ltb-true (suc v) (begun starts (suc i)) t)))
      both true s false t = omega (arith, ltb-true v (begun starts (suc i)) s, ltb-false (suc v) (begun starts (suc i)) t)
