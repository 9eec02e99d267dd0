-- How often a number stands in a list of which some were toggled. Assumes nothing.
use mathlib.Core.Path.{◌≡◌, refl, ◌∙◌, ap}
use mathlib.Core.Bool.{Bool, true, false, cond}
use mathlib.Core.List.{List, [], ◌∷◌}
use Prim.Native.Nat.{ℕ, zero, suc, ◌+◌, ◌-◌, ◌≤◌}
use native.Mathlib.Omega.{arith}
use lib.Dec.{eqb}
use borrow.Author.Tests.{eqb-true}
use Rattle.lists.specs.Lists.{bit, count_if, ascending}
use Rattle.lists.proofs.Sort.{ascending-once}
use Rattle.change_merge.specs.Inner.Toggle.{toggle, toggled}
use Rattle.change_merge.proofs.Toggles.{toggle-absent, toggle-present, ascending-toggled}

-- How often k stands in the list after y is toggled.
abbrev flipped : Bool → ℕ → ℕ
flipped b c = cond b (1 - c) c

toggle-count : (y k : ℕ) (zs : List ℕ) → ascending zs ≡ true
    → count_if (λ (z : ℕ). eqb z k) (toggle y zs) ≡ flipped (eqb y k) (count_if (λ (z : ℕ). eqb z k) zs)
toggle-count y k zs up = go (count_if (λ (z : ℕ). eqb z y) zs) refl (eqb y k) refl
  where
    go : (n : ℕ) → count_if (λ (z : ℕ). eqb z y) zs ≡ n → (b : Bool) → eqb y k ≡ b
        → count_if (λ (z : ℕ). eqb z k) (toggle y zs) ≡ flipped b (count_if (λ (z : ℕ). eqb z k) zs)
    go zero e true t =
        let q : y ≡ k = eqb-true y k t in
        let c : count_if (λ (z : ℕ). eqb z k) zs ≡ 0 = rw q at e in
        toggle-absent (λ (z : ℕ). eqb z k) y zs e ∙ rw (t, c)
    go zero e false t = toggle-absent (λ (z : ℕ). eqb z k) y zs e ∙ rw t (omega arith)
    go (suc n) e true t =
        let q : y ≡ k = eqb-true y k t in
        let c : count_if (λ (z : ℕ). eqb z k) zs ≡ suc n = rw q at e in
        let p : count_if (λ (z : ℕ). eqb z k) (toggle y zs) + bit (eqb y k) ≡ count_if (λ (z : ℕ). eqb z k) zs = toggle-present (λ (z : ℕ). eqb z k) y zs up (omega arith) in
        let o : bit (eqb y k) ≡ 1 = rw t in
        omega (arith, ascending-once zs up k)
    go (suc n) e false t =
        let p : count_if (λ (z : ℕ). eqb z k) (toggle y zs) + bit (eqb y k) ≡ count_if (λ (z : ℕ). eqb z k) zs = toggle-present (λ (z : ℕ). eqb z k) y zs up (omega arith) in
        let o : bit (eqb y k) ≡ 0 = rw t in
        omega arith

-- The same of all numbers of a list.
unfoldable flips : List ℕ → ℕ → ℕ → ℕ
flips [] k c = c
flips (y ∷ ys) k c = flipped (eqb y k) (flips ys k c)

toggled-flips : (k : ℕ) (zs ys : List ℕ) → ascending zs ≡ true → count_if (λ (z : ℕ). eqb z k) (toggled zs ys) ≡ flips ys k (count_if (λ (z : ℕ). eqb z k) zs)
unfolding toggled flips
toggled-flips k zs [] up = refl
toggled-flips k zs (y ∷ ys) up = toggle-count y k (toggled zs ys) (ascending-toggled zs ys up) ∙ ap (flipped (eqb y k)) (toggled-flips k zs ys up)

-- They leave the count of k, or they flip it, by how often k is among them.
flips-none : (ys : List ℕ) (k c : ℕ) → count_if (λ (y : ℕ). eqb y k) ys ≡ 0 → flips ys k c ≡ c
unfolding flips count_if
flips-none [] k c e = refl
flips-none (y ∷ ys) k c e = go (flips-none ys k c) (eqb y k) e
  where
    go : (count_if (λ (y : ℕ). eqb y k) ys ≡ 0 → flips ys k c ≡ c) → (b : Bool) → bit b + count_if (λ (y : ℕ). eqb y k) ys ≡ 0 → flipped b (flips ys k c) ≡ c
    go f true i = absurd (omega arith)
    go f false i = f (omega arith)

flips-once : (ys : List ℕ) (k c : ℕ) → c ≤ 1 → count_if (λ (y : ℕ). eqb y k) ys ≡ 1 → flips ys k c ≡ 1 - c
unfolding flips count_if
flips-once [] k c l e = absurd (omega arith)
flips-once (y ∷ ys) k c l e = go (flips-once ys k c l) (flips-none ys k c) (eqb y k) e
  where
    go : (count_if (λ (y : ℕ). eqb y k) ys ≡ 1 → flips ys k c ≡ 1 - c) → (count_if (λ (y : ℕ). eqb y k) ys ≡ 0 → flips ys k c ≡ c) → (b : Bool)
        → bit b + count_if (λ (y : ℕ). eqb y k) ys ≡ 1 → flipped b (flips ys k c) ≡ 1 - c
    go f g true i = rw (g (omega arith))
    go f g false i = f (omega arith)

-- So k, which is toggled n times, at most once.
abbrev pub turned_by : ℕ → ℕ → ℕ
turned_by zero c = c
turned_by (suc n) c = 1 - c

pub toggled-count : (zs ys : List ℕ) → ascending zs ≡ true → ascending ys ≡ true → (k : ℕ)
    → count_if (λ (z : ℕ). eqb z k) (toggled zs ys) ≡ turned_by (count_if (λ (y : ℕ). eqb y k) ys) (count_if (λ (z : ℕ). eqb z k) zs)
toggled-count zs ys up rise k = toggled-flips k zs ys up ∙ go (count_if (λ (y : ℕ). eqb y k) ys) refl
  where
    go : (n : ℕ) → count_if (λ (y : ℕ). eqb y k) ys ≡ n → flips ys k (count_if (λ (z : ℕ). eqb z k) zs) ≡ turned_by n (count_if (λ (z : ℕ). eqb z k) zs)
    go zero e = flips-none ys k (count_if (λ (z : ℕ). eqb z k) zs) e
    go (suc n) e = flips-once ys k (count_if (λ (z : ℕ). eqb z k) zs) (ascending-once zs up k) (omega (arith, ascending-once ys rise k))
