-- Laws of toggling: what is first, what ascends, what is counted. Assumes nothing.
use mathlib.Core.Path.{◌≡◌, refl, sym, ◌∙◌, ap}
use mathlib.Core.Bool.{Bool, true, false, ◌&&◌}
use mathlib.Core.List.{List, [], ◌∷◌}
use Prim.Native.Nat.{ℕ, ◌+◌, ◌≤◌, ◌<◌}
use native.Mathlib.Omega.{arith}
use lib.Dec.{eqb, ltb}
use borrow.Author.Tests.{eqb-true, eqb-false, ne_eqb, ltb-true, lt-ltb, ltb-false, le-ltb}
use Rattle.lists.specs.Lists.{bit, all, count_if, ascends_from, ascending}
use Rattle.lists.proofs.Tests.{and_l, and_r, and_both, eqb_refl}
use Rattle.lists.proofs.Sort.{ascends-from, ascends-above, ascends-tail, ascends-absent}
use Rattle.change_merge.specs.Inner.Toggle.{toggle, toggled}

-- ---- one number

-- A number below all others comes first.
pub toggle-first : (y : ℕ) (zs : List ℕ) → all (λ (z : ℕ). ltb y z) zs ≡ true → toggle y zs ≡ y ∷ zs
unfolding toggle all
toggle-first y [] e = refl
toggle-first y (z ∷ zs) e = rw (and_l (ltb y z) _ e)

-- One above the first leaves it there.
pub toggle-later : (y z : ℕ) (zs : List ℕ) → z < y → toggle y (z ∷ zs) ≡ z ∷ toggle y zs
unfolding toggle
toggle-later y z zs l = rw (le-ltb y z (omega arith), ne_eqb y z (λ e. omega arith))

pub toggle-same : (y : ℕ) (zs : List ℕ) → toggle y (y ∷ zs) ≡ zs
unfolding toggle
toggle-same y zs = rw (le-ltb y y (omega arith), eqb_refl y)

-- A list by where y stands to its first number.
pub toggle-cases : {A : Type 0} (y z : ℕ) → (y < z → A) → (y ≡ z → A) → (z < y → A) → A
toggle-cases {A} y z f g h = go (ltb y z) (eqb y z) refl refl
  where
    go : (a b : Bool) → ltb y z ≡ a → eqb y z ≡ b → A
    go true b t u = f (ltb-true y z t)
    go false true t u = g (eqb-true y z u)
    go false false t u = h (let l : z ≤ y = ltb-false y z t in let n : (y ≡ z → ⊥) = eqb-false y z u in omega arith)

pub toggle-before : (y z : ℕ) (zs : List ℕ) → y < z → toggle y (z ∷ zs) ≡ y ∷ z ∷ zs
unfolding toggle
toggle-before y z zs l = rw (lt-ltb y z l)

pub toggle-equal : (y z : ℕ) (zs : List ℕ) → y ≡ z → toggle y (z ∷ zs) ≡ zs
toggle-equal y z zs e = rw e (toggle-same z zs)

pub all-toggle : (p : ℕ → Bool) (y : ℕ) (zs : List ℕ) → p y ≡ true → all p zs ≡ true → all p (toggle y zs) ≡ true
unfolding all toggle
all-toggle p y [] h e = and_both (p y) true h refl
all-toggle p y (z ∷ zs) h e =
    toggle-cases y z
    (λ l. rw (toggle-before y z zs l) (and_both (p y) (p z && all p zs) h e))
    (λ i. rw (toggle-equal y z zs i) (and_r (p z) (all p zs) e))
    (λ l. rw (toggle-later y z zs l) (and_both (p z) (all p (toggle y zs)) (and_l (p z) (all p zs) e) (all-toggle p y zs h (and_r (p z) (all p zs) e))))

pub ascending-toggle : (y : ℕ) (zs : List ℕ) → ascending zs ≡ true → ascending (toggle y zs) ≡ true
unfolding ascending ascends_from toggle
ascending-toggle y [] e = refl
ascending-toggle y (z ∷ zs) e =
    toggle-cases y z
    (λ l. rw (toggle-before y z zs l) (and_both (ltb y z) (ascends_from z zs) (lt-ltb y z l) e))
    (λ i. rw (toggle-equal y z zs i) (ascends-tail z zs e))
    (λ l.
    rw (toggle-later y z zs l)
    (ascends-from z (toggle y zs) (ascending-toggle y zs (ascends-tail z zs e))
    (all-toggle (λ (x : ℕ). ltb z x) y zs (lt-ltb z y l) (ascends-above z zs e))))

-- Of a number that is absent, the list has one more; of one that is present, one less.
pub toggle-absent : (p : ℕ → Bool) (y : ℕ) (zs : List ℕ) → count_if (λ (z : ℕ). eqb z y) zs ≡ 0 → count_if p (toggle y zs) ≡ bit (p y) + count_if p zs
unfolding count_if toggle
toggle-absent p y [] h = refl
toggle-absent p y (z ∷ zs) h =
    toggle-cases y z
    (λ l. rw (toggle-before y z zs l))
    (λ i. let h' : bit (eqb y y) + count_if (λ (x : ℕ). eqb x y) zs ≡ 0 = rw (sym i) at h in absurd (omega (arith, rw (eqb_refl y) at h')))
    (λ l. rw (toggle-later y z zs l) (omega (arith, toggle-absent p y zs (omega arith))))

pub toggle-present : (p : ℕ → Bool) (y : ℕ) (zs : List ℕ) → ascending zs ≡ true → 0 < count_if (λ (z : ℕ). eqb z y) zs
    → count_if p (toggle y zs) + bit (p y) ≡ count_if p zs
unfolding count_if toggle ascending ascends_from
toggle-present p y [] e h = absurd (omega arith)
toggle-present p y (z ∷ zs) e h =
    toggle-cases y z
    (λ l. absurd (omega (arith, ascends-absent y (z ∷ zs) (and_both (ltb y z) (ascends_from z zs) (lt-ltb y z l) e) y (omega arith))))
    (λ i. rw (toggle-equal y z zs i, i) (omega arith))
    (λ l.
    let n : bit (eqb z y) ≡ 0 = rw (ne_eqb z y (λ i. omega arith)) in
    rw (toggle-later y z zs l) (omega (arith, toggle-present p y zs (ascends-tail z zs e) (omega arith))))

-- ---- all numbers of a list

pub all-toggled : (p : ℕ → Bool) (xs ys : List ℕ) → all p xs ≡ true → all p ys ≡ true → all p (toggled xs ys) ≡ true
unfolding all toggled
all-toggled p xs [] e f = e
all-toggled p xs (y ∷ ys) e f =
    all-toggle p y (toggled xs ys) (and_l (p y) (all p ys) f) (all-toggled p xs ys e (and_r (p y) (all p ys) f))

pub ascending-toggled : (xs ys : List ℕ) → ascending xs ≡ true → ascending (toggled xs ys) ≡ true
unfolding toggled
ascending-toggled xs [] e = e
ascending-toggled xs (y ∷ ys) e = ascending-toggle y (toggled xs ys) (ascending-toggled xs ys e)

-- The merge of two ascending lists: the lesser of their first numbers comes first, and two equal ones go.
pub toggled-left : (x : ℕ) (xs ys : List ℕ) → all (λ (y : ℕ). ltb x y) ys ≡ true → toggled (x ∷ xs) ys ≡ x ∷ toggled xs ys
unfolding toggled all
toggled-left x xs [] e = refl
toggled-left x xs (y ∷ ys) e =
    ap (toggle y) (toggled-left x xs ys (and_r (ltb x y) _ e)) ∙ toggle-later y x (toggled xs ys) (ltb-true x y (and_l (ltb x y) _ e))

pub toggled-both : (x : ℕ) (xs ys : List ℕ) → all (λ (y : ℕ). ltb x y) ys ≡ true → toggled (x ∷ xs) (x ∷ ys) ≡ toggled xs ys
unfolding toggled
toggled-both x xs ys e = ap (toggle x) (toggled-left x xs ys e) ∙ toggle-same x (toggled xs ys)

pub toggled-right : (y : ℕ) (xs ys : List ℕ) → all (λ (x : ℕ). ltb y x) xs ≡ true → all (λ (x : ℕ). ltb y x) ys ≡ true
    → toggled xs (y ∷ ys) ≡ y ∷ toggled xs ys
unfolding toggled
toggled-right y xs ys e f = toggle-first y (toggled xs ys) (all-toggled (λ (x : ℕ). ltb y x) xs ys e f)

pub toggled-none : (ys : List ℕ) → ascending ys ≡ true → toggled [] ys ≡ ys
unfolding toggled ascending
toggled-none [] e = refl
toggled-none (y ∷ ys) e =
    ap (toggle y) (toggled-none ys (ascends-tail y ys e)) ∙ toggle-first y ys (ascends-above y ys e)
