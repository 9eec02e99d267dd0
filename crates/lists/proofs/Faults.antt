-- Laws of `first`, the refusal of a list of faults: of groups of faults, and of a fault for each number below n. Assumes nothing.
use mathlib.Core.Path.{◌≡◌, refl, sym, ◌∙◌, ap}
use mathlib.Core.Logic.{◌⊎◌, inl, inr}
use mathlib.Core.Bool.{Bool, true, false, cond, ◌&&◌}
use mathlib.Core.List.{List, [], ◌∷◌, ◌++◌, map}
use Prim.Native.Nat.{ℕ, zero, suc, ◌+◌, ◌<◌}
use native.Mathlib.Nat.{eq-or-lt_of_le, le_of_suc-le-suc, not-suc-le-zero}
use native.Mathlib.Numerals.{add-one}
use lib.Dec.{eqb, eqb-suc-zero}
use borrow.Author.Tests.{eqb-true, eq-eqb, ne_eqb}
use Rattle.lists.specs.Lists.{range, all}
use Rattle.lists.specs.Refusal.{refuse, first}
use Rattle.lists.proofs.Tests.{clash, and_l, and_r, and_both}
use Rattle.lists.proofs.All.{all-at, all-range}
use Rattle.lists.proofs.Count.{all_map}
use Rattle.lists.proofs.Maps.{image-suc}

-- There is no refusal exactly where every fault is 0.
pub first-zero : (ks : List ℕ) → first ks ≡ 0 → all (λ (k : ℕ). eqb k 0) ks ≡ true
unfolding first all
first-zero [] e = refl
first-zero (k ∷ ks) e = go (eqb k 0) refl (first-zero ks) e
  where
    go : (b : Bool) → eqb k 0 ≡ b → (first ks ≡ 0 → all (λ (k : ℕ). eqb k 0) ks ≡ true) → cond b (first ks) k ≡ 0
        → (eqb k 0 && all (λ (k : ℕ). eqb k 0) ks) ≡ true
    go true p f i = and_both (eqb k 0) (all (λ (k : ℕ). eqb k 0) ks) p (f i)
    go false p f i = clash (eq-eqb k 0 i) p

pub zero-first : (ks : List ℕ) → all (λ (k : ℕ). eqb k 0) ks ≡ true → first ks ≡ 0
unfolding first all
zero-first [] e = refl
zero-first (k ∷ ks) e =
    rw (and_l (eqb k 0) (all (λ (k : ℕ). eqb k 0) ks) e) (zero-first ks (and_r (eqb k 0) (all (λ (k : ℕ). eqb k 0) ks) e))

-- The fault in front decides, or the rest does.
pub first_head : (k : ℕ) (ks : List ℕ) → first (k ∷ ks) ≡ 0 → k ≡ 0
unfolding first all
first_head k ks e = eqb-true k 0 (and_l (eqb k 0) (all (λ (k : ℕ). eqb k 0) ks) (first-zero (k ∷ ks) e))

pub first_tail : (k : ℕ) (ks : List ℕ) → first (k ∷ ks) ≡ 0 → first ks ≡ 0
unfolding first all
first_tail k ks e = zero-first ks (and_r (eqb k 0) (all (λ (k : ℕ). eqb k 0) ks) (first-zero (k ∷ ks) e))

pub first-cons : (k : ℕ) (ks : List ℕ) → k ≡ 0 → first (k ∷ ks) ≡ first ks
unfolding first
first-cons k ks e = rw (eq-eqb k 0 e) refl

pub first-nil : first [] ≡ 0
unfolding first
first-nil = refl

pub first-append-l : (js ks : List ℕ) → first (js ++ ks) ≡ 0 → first js ≡ 0
unfolding first
first-append-l [] ks e = refl
first-append-l (j ∷ js) ks e = first-cons j js (first_head j (js ++ ks) e) ∙ first-append-l js ks (first_tail j (js ++ ks) e)

pub first-append-r : (js ks : List ℕ) → first (js ++ ks) ≡ 0 → first ks ≡ 0
unfolding first
first-append-r [] ks e = e
first-append-r (j ∷ js) ks e = first-append-r js ks (first_tail j (js ++ ks) e)

pub first-append : (js ks : List ℕ) → first js ≡ 0 → first (js ++ ks) ≡ first ks
unfolding first
first-append [] ks e = refl
first-append (j ∷ js) ks e = first-cons j (js ++ ks) (first_head j js e) ∙ first-append js ks (first_tail j js e)

-- Of a fault for each number below n.
pub first-each : (f : ℕ → ℕ) (n : ℕ) → first (map f (range n)) ≡ 0 → (i : ℕ) → i < n → f i ≡ 0
first-each f n e i h =
    eqb-true (f i) 0 (all-at (λ (k : ℕ). eqb (f k) 0) n (sym (all_map (λ (k : ℕ). eqb k 0) f (range n)) ∙ first-zero (map f (range n)) e) i h)

pub each_first : (f : ℕ → ℕ) (n : ℕ) → ((i : ℕ) → i < n → f i ≡ 0) → first (map f (range n)) ≡ 0
each_first f n h =
    zero-first (map f (range n))
    (all_map (λ (k : ℕ). eqb k 0) f (range n) ∙ all-range (λ (k : ℕ). eqb (f k) 0) n (λ i l. eq-eqb (f i) 0 (h i l)))

-- A refusal that is not given: its condition fails.
pub refuse-zero : (k : ℕ) (b : Bool) → refuse (suc k) b ≡ 0 → b ≡ false
refuse-zero k true e = clash (eq-eqb (suc k) 0 e) (eqb-suc-zero k)
refuse-zero k false e = refl

pub zero-refuse : (k : ℕ) (b : Bool) → b ≡ false → refuse k b ≡ 0
zero-refuse k b e = rw e refl

-- A fault in front decides.
pub first_some : (k : ℕ) (ks : List ℕ) → (k ≡ 0 → ⊥) → first (k ∷ ks) ≡ k
unfolding first
first_some k ks h = rw (ne_eqb k 0 h) refl

pub first_one : (k : ℕ) → first (k ∷ []) ≡ k
unfolding first
first_one k = go (eqb k 0) refl
  where
    go : (b : Bool) → eqb k 0 ≡ b → cond b 0 k ≡ k
    go true e = sym (eqb-true k 0 e)
    go false e = refl

-- A group of faults counts as its first one.
pub first_group : (js ks : List ℕ) → first (js ++ ks) ≡ first (first js ∷ ks)
unfolding first
first_group [] ks = refl
first_group (j ∷ js) ks = go (eqb j 0) refl (first_group js ks)
  where
    go : (b : Bool) → eqb j 0 ≡ b → first (js ++ ks) ≡ first (first js ∷ ks) → cond b (first (js ++ ks)) j ≡ first (cond b (first js) j ∷ ks)
    go true e h = h
    go false e h = ap (λ (b : Bool). cond b (first ks) j) (sym e)

pub first-left : (js ks : List ℕ) → (first js ≡ 0 → ⊥) → first (js ++ ks) ≡ first js
first-left js ks h = first_group js ks ∙ first_some (first js) ks h

-- What comes after a fault counts by its first one.
pub first-after : (k : ℕ) (js ks : List ℕ) → first js ≡ first ks → first (k ∷ js) ≡ first (k ∷ ks)
unfolding first
first-after k js ks h = ap (λ (n : ℕ). cond (eqb k 0) n k) h

-- Of a fault for each number below n: the first that is given decides, and none is given where none was up to n.
pub first-stop : (f : ℕ → ℕ) (n i : ℕ) → i < n → first (map f (range i)) ≡ 0 → (f i ≡ 0 → ⊥) → first (map f (range n)) ≡ f i
first-stop f zero i h e d = absurd (not-suc-le-zero h)
first-stop f (suc n) i h e d = ap first (image-suc f n) ∙ go (λ (l : i < n). first-stop f n i l e d) (eq-or-lt_of_le (le_of_suc-le-suc h))
  where
    go : (i < n → first (map f (range n)) ≡ f i) → (i ≡ n) ⊎ (i < n) → first (map f (range n) ++ (f n ∷ [])) ≡ f i
    go r (inl s) = rw (← s) (first-append (map f (range i)) (f i ∷ []) e ∙ first_some (f i) [] d)
    go r (inr l) = first_group (map f (range n)) (f n ∷ []) ∙ first_some (first (map f (range n))) (f n ∷ []) (λ z. d (sym (r l) ∙ z)) ∙ r l

pub first_next : (f : ℕ → ℕ) (n : ℕ) → first (map f (range n)) ≡ 0 → f n ≡ 0 → first (map f (range (n + 1))) ≡ 0
unfolding first
first_next f n e z = ap (λ (k : ℕ). first (map f (range k))) (add-one n) ∙ ap first (image-suc f n) ∙ first-append (map f (range n)) (f n ∷ []) e ∙ first-cons (f n) [] z
