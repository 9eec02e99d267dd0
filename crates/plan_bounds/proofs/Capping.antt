-- Stopping at a top value at each step is stopping there at the end; more build rows have no fewer heads. Assumes nothing.
use mathlib.Core.Path.{◌≡◌, refl, ◌∙◌, ap, ap₂}
use mathlib.Core.Bool.{Bool, true, false}
use Prim.Native.Nat.{ℕ, zero, suc, ◌+◌, ◌*◌, ◌/◌, ◌^◌, min, max, ◌≤◌, ◌<◌}
use native.Mathlib.Nat.{le_refl, mul_comm, le-mul_of_pos_right}
use native.Mathlib.Omega.{arith}
use lib.Dec.{ltb}
use lib.Pow.{pow_pos, pow_mono}
use borrow.Author.Tests.{ltb-true, ltb-false}
use Rattle.operator_spec.specs.Join.{heads}
use Rattle.join_key.proofs.Doubled.{Doubled, doubled-one, doubled-some, doubled-next, doubled-last}
use Rattle.plan_bounds.specs.Capped.{Term, number, sum, product, larger, smaller, heads_of, plain, capped, CappedAtTheEnd}

-- ---- heads

-- The number of heads is a power of two not below b, and every smaller one is below b.
pub record Headed (b : ℕ) : Type 0 where
  pub doubled : Doubled b (heads b)
  pub enough : b ≤ heads b

last : (b h : ℕ) → Doubled b h → b ≤ h → Headed b
last b h d e = let i : h ≡ heads b = doubled-last b h d e in record { doubled = rw (← i) d; enough = rw (← i) e }

reach : (b n h : ℕ) → Doubled b h → b ≤ h + n → Headed b
reach b zero h d l = last b h d (omega arith)
reach b (suc n) h d l =
    go (ltb h b) refl (λ m. reach b n (h * 2) (doubled-next b h d m) (omega (arith, doubled-some b h d)))
  where
    go : (c : Bool) → ltb h b ≡ c → (h < b → Headed b) → Headed b
    go true e more = more (ltb-true h b e)
    go false e more = last b h d (ltb-false h b e)

pub headed : (b : ℕ) → Headed b
headed b = reach b b 1 (doubled-one b) (omega arith)

-- A power of two whose smaller ones are all below b is not above the number of heads of b or more.
pub doubled-most : (a b h : ℕ) → Doubled a h → a ≤ b → h ≤ heads b
doubled-most a b h d l = go (ltb e.k d.k) refl
  where
    e : Doubled b (heads b)
    e = (headed b).doubled

    go : (c : Bool) → ltb e.k d.k ≡ c → h ≤ heads b
    go true t =
        let low : 2 ^ e.k < a = d.below e.k (ltb-true e.k d.k t) in
        omega (arith, e.power, (headed b).enough)
    go false t =
        let more : 2 ^ d.k ≤ 2 ^ e.k = pow_mono (ltb-false e.k d.k t) in
        omega (arith, e.power, d.power)

pub heads-mono : (a b : ℕ) → a ≤ b → heads a ≤ heads b
heads-mono a b l = doubled-most a b (heads a) (headed a).doubled l

-- ---- steps that stop at a top value

module _ (top : ℕ) where
  pub cap-add : (a b : ℕ) → min (min a top + min b top) top ≡ min (a + b) top
  cap-add a b = omega arith

  pub cap-max : (a b : ℕ) → max (min a top) (min b top) ≡ min (max a b) top
  cap-max a b = omega arith

  pub cap-min : (a b : ℕ) → min (min a top) (min b top) ≡ min (min a b) top
  cap-min a b = omega arith

  pub cap-left : (a b : ℕ) → min (min a top * b) top ≡ min (a * b) top
  cap-left a zero = omega arith
  cap-left a (suc b) = go (ltb top a) refl
    where
      go : (c : Bool) → ltb top a ≡ c → min (min a top * suc b) top ≡ min (a * suc b) top
      go true e =
          let l : top < a = ltb-true top a e in
          let m : min a top ≡ top = omega arith in
          let low : top ≤ top * suc b = le-mul_of_pos_right top (omega arith) in
          let high : a ≤ a * suc b = le-mul_of_pos_right a (omega arith) in
          rw m (omega (arith, low, high))
      go false e =
          let l : a ≤ top = ltb-false top a e in
          let m : min a top ≡ a = omega arith in
          rw m

  pub cap-mul : (a b : ℕ) → min (min a top * min b top) top ≡ min (a * b) top
  cap-mul a b =
      cap-left a (min b top) ∙ ap (λ (n : ℕ). min n top) (mul_comm a (min b top)) ∙ cap-left b a ∙ ap (λ (n : ℕ). min n top) (mul_comm b a)

  pub cap-heads : (a : ℕ) → min (heads (min a top)) top ≡ min (heads a) top
  cap-heads a = go (ltb top a) refl
    where
      go : (c : Bool) → ltb top a ≡ c → min (heads (min a top)) top ≡ min (heads a) top
      go true e =
          let l : top < a = ltb-true top a e in
          let m : min a top ≡ top = omega arith in
          rw m (omega (arith, (headed top).enough, (headed a).enough))
      go false e =
          let l : a ≤ top = ltb-false top a e in
          let m : min a top ≡ a = omega arith in
          rw m

  pub capped-at-the-end : (t : Term) → CappedAtTheEnd top t
  unfolding plain capped
  capped-at-the-end (number n) = refl
  capped-at-the-end (sum a b) =
      ap₂ (λ (x y : ℕ). min (x + y) top) (capped-at-the-end a) (capped-at-the-end b) ∙ cap-add (plain a) (plain b)
  capped-at-the-end (product a b) =
      ap₂ (λ (x y : ℕ). min (x * y) top) (capped-at-the-end a) (capped-at-the-end b) ∙ cap-mul (plain a) (plain b)
  capped-at-the-end (larger a b) = ap₂ max (capped-at-the-end a) (capped-at-the-end b) ∙ cap-max (plain a) (plain b)
  capped-at-the-end (smaller a b) = ap₂ min (capped-at-the-end a) (capped-at-the-end b) ∙ cap-min (plain a) (plain b)
  capped-at-the-end (heads_of a) = ap (λ (x : ℕ). min (heads x) top) (capped-at-the-end a) ∙ cap-heads (plain a)

-- ---- the code's tests of a product, and of a power of two that is the last

-- A power of two whose half is below b, as the library's least one not below b is, and the last one of 64 bits.
pub least-power : (b h : ℕ) → (k : ℕ) × (h ≡ 2 ^ k) → h / 2 < max 1 b → Doubled b h
least-power b h p l = record { k = p.0; power = p.1; below = λ j m. go p.0 j p.1 m }
  where
    go : (k j : ℕ) → h ≡ 2 ^ k → j < k → 2 ^ j < b
    go zero j e m = absurd (omega arith)
    go (suc k) j e m =
        let half : h / 2 ≡ 2 ^ k = rw e (omega arith) in
        let low : 2 ^ j ≤ 2 ^ k = pow_mono (omega arith) in
        omega (arith, pow_pos j)

pub last-power : (b : ℕ) → 9223372036854775808 < b → Doubled b 9223372036854775808
last-power b l =
    record { k = 63; power = refl; below = λ j m. let low : 2 ^ j ≤ 2 ^ 63 = pow_mono {i = j} {j = 63} (omega arith) in omega arith }

-- Where the last power of two of 64 bits is still below b, the heads of b pass 64 bits.
pub heads-over : (b h : ℕ) → Doubled b h → h < b → 2 ^ 63 ≤ h → 18446744073709551615 ≡ min (heads b) 18446744073709551615
heads-over b h d l m = omega (arith, doubled-most b b (h * 2) (doubled-next b h d l) (le_refl b))

-- ---- the sums of an extend's and of a join's need

module _ (top : ℕ) where
  pub cap-need : (n w l : ℕ) → min (min n top + (w + l)) top ≡ min (n + w + l) top
  cap-need n w l = omega arith

  cap-table : (w r h : ℕ) → min (min w top + min (min r top + min h top) top) top ≡ min (w + r + h) top
  cap-table w r h = rw (cap-add top r h, cap-add top w (r + h)) (omega arith)

  cap-second : (t p w : ℕ) → min (min t top + min (min p top + w) top) top ≡ min (t + p + w) top
  cap-second t p w =
      let e : min (min p top + w) top ≡ min (p + w) top = omega arith in
      rw (e, cap-add top t (p + w)) (omega arith)

  -- A join's need of numbers that stop at the top: those of the build rows, their width, the build's and the probe's need, and a width.
  pub cap-join : (r a n p w : ℕ)
      → max (min (min n top + min (min r top * a) top) top)
      (min (min (min (min r top * a) top + min (min r top + min (heads (min r top)) top) top) top + min (min p top + w) top) top)
      ≡ min (max (n + r * a) (r * a + r + heads r + p + w)) top
  cap-join r a n p w =
      rw (cap-left top r a, cap-heads top r, cap-table (r * a) r (heads r), cap-second (r * a + r + heads r) p w, cap-add top n (r * a))
      (cap-max top (n + r * a) (r * a + r + heads r + p + w))
