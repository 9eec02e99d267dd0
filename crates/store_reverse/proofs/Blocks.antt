-- The lists that begin in a block of entries, counted by Load's counting pass. Assumes nothing.
use mathlib.Core.Path.{◌≡◌, refl, sym, ◌∙◌, ap, fun_ext}
use mathlib.Core.Bool.{Bool, true, false}
use mathlib.Core.List.{List, [], ◌∷◌}
use Prim.Native.Nat.{ℕ, zero, suc, ◌+◌, ◌-◌, ◌≤◌, ◌<◌}
use native.Mathlib.Omega.{arith}
use lib.Dec.{eqb, ltb}
use lib.ListN.{length, get_or, set, replicate, length-set, length-replicate, get_or-replicate}
use lib.Seq.{ext_get_or, get_or-set_other}
use borrow.Author.Tests.{ltb-true, lt-ltb, ltb-false, eq-eqb, ne_eqb, eqb-true, eqb-false}
use Rattle.lists.specs.Lists.{range, all, count_if, total}
use Rattle.lists.proofs.Tests.{clash, iff}
use Rattle.lists.proofs.All.{length-range, all-range}
use Rattle.lists.proofs.Count.{count-snoc, count-all, count-passes}
use Rattle.lists.proofs.Maps.{image-ext}
use Rattle.counting_sort.specs.Inner.Groups.{group_sizes, group_ends, running_sums}
use Rattle.counting_sort.proofs.Counting.{Tallied, length-sizes, size-at, sums-ends, sums-fit}
use Rattle.store_reverse.specs.Inner.Check.{offsets_fit}
use Rattle.store_reverse.specs.Inner.Begun.{begun, begun_in, Begins, start_in}
use Rattle.store_reverse.proofs.Begun.{Offsets, begins-before, begins-after, begun-few, rises-on, last_is}

some-offset : (m : ℕ) (starts : List ℕ) → offsets_fit m starts ≡ true → 0 < length starts
unfolding offsets_fit
some-offset m [] e = clash e refl
some-offset m (x ∷ xs) e = omega arith

module _ {starts : List ℕ} {next base : ℕ} (h : Begins starts next base) where
  pub offsets : Offsets starts (length starts - 1) h.end
  offsets = record { long = omega (arith, some-offset h.end starts h.rises); fit = h.rises }

  pub next-few : next ≤ length starts - 1
  next-few = rw h.before (begun-few offsets base)

  pub starts-some : 0 < length starts
  starts-some = some-offset h.end starts h.rises

  pub start_small : (v : ℕ) → v + 1 < length starts → get_or starts v 0 ≤ 1048575
  start_small v k = omega (arith, h.small, rises-on offsets v (length starts - 1) (omega arith) (omega arith), last_is offsets)

  -- A list that is not counted yet begins in the block or after it.
  pub not-before : (v : ℕ) → next ≤ v → v + 1 < length starts → base ≤ get_or starts v 0
  not-before v l k = begins-after offsets base v (rw h.before at l) (omega arith)

  earlier : (v : ℕ) → v < next → start_in starts base v ≡ 0
  earlier v l = omega (arith, begins-before offsets base v (rw h.before at l))

  -- The lists before the block are in its first group.
  first-sizes : (j : ℕ) → j < 1024 → get_or (set (replicate 1024 0) 0 next) j 0 ≡ count_if (λ (v : ℕ). eqb (start_in starts base v) j) (range next)
  first-sizes j l = go (eqb j 0) refl
    where
      all_first : all (λ (v : ℕ). eqb (start_in starts base v) 0) (range next) ≡ true
      all_first = all-range (λ (v : ℕ). eqb (start_in starts base v) 0) next (λ v k. eq-eqb (start_in starts base v) 0 (earlier v k))

      go : (b : Bool) → eqb j 0 ≡ b → get_or (set (replicate 1024 0) 0 next) j 0 ≡ count_if (λ (v : ℕ). eqb (start_in starts base v) j) (range next)
      go true t =
          rw (eqb-true j 0 t)
          (sym (count-all (λ (v : ℕ). eqb (start_in starts base v) 0) (range next) all_first ∙ length-range next))
      go false t =
          get_or-set_other (replicate 1024 0) 0 j next 0 (eqb-false j 0 t) ∙ get_or-replicate 1024 j 0 0 l
          ∙ sym (count-passes (λ (v : ℕ). eqb (start_in starts base v) j) (λ (v : ℕ). eqb (start_in starts base v) 0) (range next) all_first
          (λ v e. ne_eqb (start_in starts base v) j (λ q. eqb-false j 0 t (sym q ∙ eqb-true (start_in starts base v) 0 e))))

  pub tallied-first : {ys : List ℕ} → ys ≡ replicate 1024 0 → Tallied (start_in starts base) 1024 next (set ys 0 next)
  unfolding group_sizes
  tallied-first {ys} e =
      record {
        long = length-set ys 0 next ∙ ap length e ∙ length-replicate {A = ℕ} 1024 0;
        words =
            ap (λ (l : List ℕ). set l 0 next) e
            ∙ ext_get_or 0 (set (replicate 1024 0) 0 next) (group_sizes (start_in starts base) 1024 (range next))
            (length-set (replicate 1024 0) 0 next ∙ length-replicate {A = ℕ} 1024 0 ∙ sym (length-sizes (start_in starts base) 1024 (range next)))
            (λ j l.
            let k : j < 1024 = rw (length-set, length-replicate) at l in
            first-sizes j k ∙ sym (size-at (start_in starts base) 1024 (range next) j k));
      }

  -- Lists that begin after the block are in none of its groups.
  later-size : (j : ℕ) → j < 1024 → (v n : ℕ) → v ≤ n → ((w : ℕ) → v ≤ w → w < n → 1024 ≤ start_in starts base w)
      → count_if (λ (w : ℕ). eqb (start_in starts base w) j) (range v) ≡ count_if (λ (w : ℕ). eqb (start_in starts base w) j) (range n)
  unfolding range
  later-size j k v zero l f = ap (λ (i : ℕ). count_if (λ (w : ℕ). eqb (start_in starts base w) j) (range i)) (let e : v ≡ 0 = omega arith in e)
  later-size j k v (suc n) l f = last (ltb n v) refl (later-size j k v n)
    where
      last : (b : Bool) → ltb n v ≡ b
          → (v ≤ n → ((w : ℕ) → v ≤ w → w < n → 1024 ≤ start_in starts base w)
          → count_if (λ (w : ℕ). eqb (start_in starts base w) j) (range v) ≡ count_if (λ (w : ℕ). eqb (start_in starts base w) j) (range n))
          → count_if (λ (w : ℕ). eqb (start_in starts base w) j) (range v) ≡ count_if (λ (w : ℕ). eqb (start_in starts base w) j) (range (suc n))
      last true t r = ap (λ (i : ℕ). count_if (λ (w : ℕ). eqb (start_in starts base w) j) (range i)) (let e : v ≡ suc n = omega (arith, ltb-true n v t) in e)
      last false t r =
          r (ltb-false n v t) (λ w a b. f w a (omega arith))
          ∙ sym (count-snoc (λ (w : ℕ). eqb (start_in starts base w) j) (range n) n
          ∙ rw (ne_eqb (start_in starts base n) j (λ e. omega (arith, f n (ltb-false n v t) (omega arith)))) (omega arith))

  later-sizes : (v n : ℕ) → v ≤ n → ((w : ℕ) → v ≤ w → w < n → 1024 ≤ start_in starts base w)
      → group_sizes (start_in starts base) 1024 (range v) ≡ group_sizes (start_in starts base) 1024 (range n)
  unfolding group_sizes
  later-sizes v n l f =
      image-ext (λ (j : ℕ). count_if (λ (w : ℕ). eqb (start_in starts base w) j) (range v)) (λ (j : ℕ). count_if (λ (w : ℕ). eqb (start_in starts base w) j) (range n)) 1024
      (λ j k. later-size j k v n l f)

  -- The loop ends at a list that begins after the block, or after the last list.
  module _ {v : ℕ} {ys : List ℕ} (t : Tallied (start_in starts base) 1024 v ys) where
    pub tallied-passed : v + 1 < length starts → base + 1024 ≤ get_or starts v 0
        → ys ≡ group_sizes (start_in starts base) 1024 (range (length starts - 1))
    tallied-passed l a =
        t.words ∙ later-sizes v (length starts - 1) (omega arith) (λ w b c. omega (arith, rises-on offsets v w b (omega arith)))

    pub tallied-all : v ≤ length starts - 1 → length starts ≤ v + 1 → ys ≡ group_sizes (start_in starts base) 1024 (range (length starts - 1))
    tallied-all a b = t.words ∙ ap (λ (i : ℕ). group_sizes (start_in starts base) 1024 (range i)) (let e : v ≡ length starts - 1 = omega (arith, starts-some) in e)

  -- The sums of the groups.
  pub begun-sums : {sizes sums : List ℕ} → sizes ≡ group_sizes (start_in starts base) 1024 (range (length starts - 1)) → sums ≡ running_sums sizes
      → sums ≡ begun_in starts base
  unfolding group_ends begun_in begun
  begun-sums e f =
      f ∙ ap running_sums e ∙ sums-ends (start_in starts base) 1024 (range (length starts - 1))
      ∙ image-ext (λ (j : ℕ). count_if (λ (v : ℕ). ltb (start_in starts base v) (suc j)) (range (length starts - 1)))
      (λ (j : ℕ). count_if (λ (v : ℕ). ltb (get_or starts v 0) (base + suc j)) (range (length starts - 1))) 1024
      (λ j l.
      ap (λ (p : ℕ → Bool). count_if p (range (length starts - 1)))
      (fun_ext (λ (v : ℕ).
      iff (ltb (start_in starts base v) (suc j)) (ltb (get_or starts v 0) (base + suc j))
      (λ t. lt-ltb (get_or starts v 0) (base + suc j) (omega (arith, ltb-true (start_in starts base v) (suc j) t)))
      (λ t. lt-ltb (start_in starts base v) (suc j) (omega (arith, ltb-true (get_or starts v 0) (base + suc j) t))))))

  pub sums-low : {sizes : List ℕ} → sizes ≡ group_sizes (start_in starts base) 1024 (range (length starts - 1))
      → total (λ (u : ℕ). get_or sizes u 0) (range (length sizes)) < 4294967296
  sums-low {sizes} e = omega (arith, sums-fit sizes (start_in starts base) 1024 (length starts - 1) e, h.few)
