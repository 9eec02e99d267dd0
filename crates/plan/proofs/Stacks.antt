-- Laws of a pile in an array. Assumes nothing.
use mathlib.Core.Path.{◌≡◌, refl, sym, ap, ap₂, ◌∙◌}
use mathlib.Core.List.{List, ◌∷◌}
use Prim.Native.Nat.{ℕ, zero, suc, ◌+◌, ◌-◌, ◌≤◌, ◌<◌}
use native.Mathlib.Nat.{not-suc-le-zero, le_of_suc-le-suc, sub-zero, suc-sub-suc}
use native.Mathlib.Numerals.{add-one}
use native.Mathlib.Omega.{arith}
use lib.ListN.{length, get_or, set, drop}
use lib.Seq.{get_or-set_same, get_or-set_other}
use Rattle.plan.specs.Inner.Pile.{stack}

pub length-stack : (d : ℕ) (xs : List ℕ) → length (stack d xs) ≡ d
unfolding stack
length-stack zero xs = refl
length-stack (suc d) xs = ap suc (length-stack d xs)

-- A pile of d is not changed by a number written above it.
pub stack_set : (d : ℕ) (xs : List ℕ) (j v : ℕ) → d ≤ j → stack d (set xs j v) ≡ stack d xs
unfolding stack
stack_set zero xs j v h = refl
stack_set (suc d) xs j v h = ap₂ ◌∷◌ (get_or-set_other xs j d v 0 (λ e. omega arith)) (stack_set d xs j v (omega arith))

-- The pile under its k top results.
pub drop-stack : (k d : ℕ) (xs : List ℕ) → k ≤ d → drop k (stack d xs) ≡ stack (d - k) xs
unfolding stack
drop-stack zero d xs h = rw (sub-zero d)
drop-stack (suc k) zero xs h = absurd (not-suc-le-zero h)
drop-stack (suc k) (suc d) xs h = rw (suc-sub-suc d k) (drop-stack k d xs (le_of_suc-le-suc h))

-- A number put down over the k top results.
pub stack-put : (d k : ℕ) (xs : List ℕ) (v : ℕ) → k ≤ d → d - k < length xs → stack (d - k + 1) (set xs (d - k) v) ≡ v ∷ drop k (stack d xs)
unfolding stack
stack-put d k xs v h l =
    rw (add-one (d - k)) (ap₂ ◌∷◌ (get_or-set_same xs (d - k) v 0 l) (stack_set (d - k) xs (d - k) v (omega arith) ∙ sym (drop-stack k d xs h)))

-- The result under k others.
pub get_or-stack : (k d : ℕ) (xs : List ℕ) → k < d → get_or (stack d xs) k 0 ≡ get_or xs (d - 1 - k) 0
unfolding stack
get_or-stack k zero xs h = absurd (not-suc-le-zero h)
get_or-stack zero (suc d) xs h = let top : suc d - 1 - 0 ≡ d = omega arith in rw top
get_or-stack (suc k) (suc d) xs h =
    let under : suc d - 1 - suc k ≡ d - 1 - k = omega arith in rw under (get_or-stack k d xs (le_of_suc-le-suc h))
