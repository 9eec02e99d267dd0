-- An ascending list cut at thresholds: how many elements are below one is where the others begin. Assumes nothing.
use mathlib.Core.Path.{◌≡◌, refl, sym, ◌∙◌, ap, ap₂}
use mathlib.Core.Bool.{Bool, true, false, cond, not, ◌&&◌}
use mathlib.Core.List.{List, [], ◌∷◌, ◌++◌, map, flat_map, append_assoc}
use Prim.Native.Nat.{ℕ, zero, suc, ◌+◌, ◌-◌, ◌≤◌, ◌<◌}
use native.Mathlib.Omega.{arith}
use lib.Dec.{ltb}
use lib.ListN.{length, take, drop, length-append}
use lib.Seq.{take_at, drop_at}
use borrow.Author.Tests.{ltb-true, lt-ltb, le-ltb, ltb-false}
use Rattle.lists.specs.Lists.{range, keep, count_if, ascending}
use Rattle.lists.proofs.Tests.{iff, and_l, and_both}
use Rattle.lists.proofs.All.{all_true, keep-none, keep-ext, keep-keep, keep_append}
use Rattle.lists.proofs.Count.{all_map, length-keep}
use Rattle.lists.proofs.Sort.{ascends-above, ascends-tail}
use Rattle.lists.proofs.Maps.{flat_map-suc}

module _ {A : Type 0} (f : A → ℕ) where
  -- The elements below t stand before the others.
  pub cut : (xs : List A) (t : ℕ) → ascending (map f xs) ≡ true
      → xs ≡ keep (λ x. ltb (f x) t) xs ++ keep (λ x. not (ltb (f x) t)) xs
  unfolding keep ascending
  cut [] t e = refl
  cut (x ∷ xs) t e = go (ltb (f x) t) refl (cut xs t (ascends-tail (f x) (map f xs) e))
    where
      low : A → Bool
      low y = ltb (f y) t

      go : (b : Bool) → ltb (f x) t ≡ b → xs ≡ keep low xs ++ keep (λ y. not (low y)) xs
          → x ∷ xs ≡ cond b (x ∷ keep low xs) (keep low xs) ++ cond (not b) (x ∷ keep (λ y. not (low y)) xs) (keep (λ y. not (low y)) xs)
      go true i h = ap (λ (l : List A). x ∷ l) h
      go false i h = rw none (ap (λ (l : List A). x ∷ l) (rw none at h))
        where
          none : keep low xs ≡ []
          none =
              keep-none low (λ y. ltb (f x) (f y)) xs (sym (all_map (ltb (f x)) f xs) ∙ ascends-above (f x) (map f xs) e)
              (λ y l.
              let a : t ≤ f x = ltb-false (f x) t i in
              let b : f x < f y = ltb-true (f x) (f y) l in
              le-ltb (f y) t (omega arith))

  -- The elements below u are those below t and then those from t up to u.
  pub keep-below : (xs : List A) (t u : ℕ) → ascending (map f xs) ≡ true → t ≤ u
      → keep (λ x. ltb (f x) u) xs ≡ keep (λ x. ltb (f x) t) xs ++ keep (λ x. not (ltb (f x) t) && ltb (f x) u) xs
  keep-below xs t u e h =
      ap (keep (under u)) (cut xs t e)
      ∙ keep_append (under u) (keep (under t) xs) (keep (λ x. not (under t x)) xs)
      ∙ ap₂ (λ (l m : List A). l ++ m)
      (keep-keep (under u) (under t) xs ∙ keep-ext (λ x. under t x && under u x) (under t) xs both)
      (keep-keep (under u) (λ x. not (under t x)) xs)
    where
      under : ℕ → A → Bool
      under k x = ltb (f x) k

      both : (x : A) → (under t x && under u x) ≡ under t x
      both x =
          iff (under t x && under u x) (under t x) (and_l (under t x) (under u x))
          (λ i. and_both (under t x) (under u x) i (let l : f x < t = ltb-true (f x) t i in lt-ltb (f x) u (omega arith)))

  -- So the numbers of elements below t and below u are where those in between begin and end.
  pub cut-part : (xs : List A) (t u : ℕ) → ascending (map f xs) ≡ true → t ≤ u
      → take (count_if (λ x. ltb (f x) u) xs - count_if (λ x. ltb (f x) t) xs) (drop (count_if (λ x. ltb (f x) t) xs) xs)
      ≡ keep (λ x. not (ltb (f x) t) && ltb (f x) u) xs
  cut-part xs t u e h =
      ap (take (count_if under xs - count_if low xs))
      (ap (drop (count_if low xs)) whole ∙ drop_at (keep low xs) (mid ++ high) (count_if low xs) (length-keep low xs))
      ∙ take_at mid high (count_if under xs - count_if low xs) size
    where
      low : A → Bool
      low x = ltb (f x) t

      under : A → Bool
      under x = ltb (f x) u

      mid : List A
      mid = keep (λ x. not (ltb (f x) t) && ltb (f x) u) xs

      high : List A
      high = keep (λ x. not (ltb (f x) u)) xs

      whole : xs ≡ keep low xs ++ (mid ++ high)
      whole = cut xs u e ∙ ap (λ (l : List A). l ++ high) (keep-below xs t u e h) ∙ append_assoc (keep low xs) mid high

      size : length mid ≡ count_if under xs - count_if low xs
      size =
          let s : count_if under xs ≡ count_if low xs + length mid =
          sym (length-keep under xs) ∙ ap length (keep-below xs t u e h) ∙ length-append (keep low xs) mid
          ∙ ap (λ (n : ℕ). n + length mid) (length-keep low xs) in
          omega arith

  -- The parts between thresholds that rise from 0 make up the list.
  pub cut_parts : (xs : List A) → ascending (map f xs) ≡ true → (t : ℕ → ℕ) → t 0 ≡ 0 → ((v : ℕ) → t v ≤ t (suc v))
      → (part : ℕ → List A) (n : ℕ) → ((v : ℕ) → v < n → part v ≡ keep (λ x. not (ltb (f x) (t v)) && ltb (f x) (t (suc v))) xs)
      → flat_map part (range n) ≡ keep (λ x. ltb (f x) (t n)) xs
  unfolding range flat_map
  cut_parts xs e t z rise part zero h = rw z (sym (none xs))
    where
      none : (ys : List A) → keep (λ x. ltb (f x) 0) ys ≡ []
      none ys = keep-none (λ x. ltb (f x) 0) (λ x. true) ys (all_true ys) (λ x t. le-ltb (f x) 0 (omega arith))
  cut_parts xs e t z rise part (suc n) h =
      flat_map-suc part n ∙ ap₂ (λ (l m : List A). l ++ m) (cut_parts xs e t z rise part n (λ v l. h v (omega arith))) (h n (omega arith))
      ∙ sym (keep-below xs (t n) (t (suc n)) e (rise n))
