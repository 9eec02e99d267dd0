-- Laws of `all`, `any`, `keep` and `range`. Assumes nothing.
use mathlib.Core.Path.{◌≡◌, refl, sym, ◌∙◌, ap, ap₂, fun_ext, subst}
use mathlib.Core.Logic.{◌⊎◌, inl, inr}
use mathlib.Core.Bool.{Bool, true, false, cond, ◌&&◌, and_assoc}
use mathlib.Core.List.{List, [], ◌∷◌, ◌++◌, map, map-append, Memᴰ}
use Prim.Native.Nat.{ℕ, zero, suc, suc-le-suc, ◌+◌, ◌≤◌, ◌<◌}
use native.Mathlib.Nat.{eq-or-lt_of_le, le_of_suc-le-suc, not-suc-le-zero, zero-lt-suc}
use native.Mathlib.Omega.{arith}
use native.Mathlib.Numerals.{add-one}
use lib.Dec.{eqb}
use borrow.Author.Tests.{eqb-true}
use lib.ListN.{length, get_or, take, length-append}
use lib.Seq.{get_or-append_seam, take-suc}
use lib.ListN.{get_or-append}
use Rattle.lists.specs.Lists.{◌implies◌, range, all, any, keep}
use Rattle.lists.proofs.Tests.{iff, and_l, and_r, and_both, or_intro_l, or_intro_r, imp_use, imp_intro, eqb_refl}

module _ {A : Type 0} where
  pub all_append : (p : A → Bool) (xs ys : List A) → all p (xs ++ ys) ≡ (all p xs && all p ys)
  unfolding all
  all_append p [] ys = refl
  all_append p (x ∷ xs) ys = ap (λ (b : Bool). p x && b) (all_append p xs ys) ∙ sym (and_assoc (p x) (all p xs) (all p ys))

  -- What follows from a test of each element passes of all.
  pub all-follows : (p r : A → Bool) (xs : List A) → all p xs ≡ true → ((x : A) → p x ≡ true → r x ≡ true) → all r xs ≡ true
  unfolding all
  all-follows p r [] e h = refl
  all-follows p r (x ∷ xs) e h =
      and_both (r x) (all r xs) (h x (and_l (p x) (all p xs) e)) (all-follows p r xs (and_r (p x) (all p xs) e) h)

  -- Two tests that agree on each element that passes s agree on a list of such elements.
  pub all_under : (s p r : A → Bool) (xs : List A) → all s xs ≡ true → ((x : A) → s x ≡ true → p x ≡ r x) → all p xs ≡ all r xs
  unfolding all
  all_under s p r [] e h = refl
  all_under s p r (x ∷ xs) e h =
      ap₂ (λ (a b : Bool). a && b) (h x (and_l (s x) (all s xs) e)) (all_under s p r xs (and_r (s x) (all s xs) e) h)

  -- The same for a fact about each element of the list.
  pub all-mem : (p : A → Bool) (xs : List A) → ((x : A) → Memᴰ x xs → p x ≡ true) → all p xs ≡ true
  unfolding all
  all-mem p [] h = refl
  all-mem p (x ∷ xs) h = and_both (p x) (all p xs) (h x (Memᴰ.head refl)) (all-mem p xs (λ y m. h y (Memᴰ.tail m)))

  pub mem-all : (p : A → Bool) {x : A} {xs : List A} → Memᴰ x xs → all p xs ≡ true → p x ≡ true
  unfolding all
  mem-all p {xs = []} m h = elim m [ ]
  mem-all p {xs = y ∷ ys} (Memᴰ.head e) h = ap p e ∙ and_l (p y) (all p ys) h
  mem-all p {xs = y ∷ ys} (Memᴰ.tail m) h = mem-all p m (and_r (p y) (all p ys) h)

  pub mem-any : (p : A → Bool) {x : A} {xs : List A} → Memᴰ x xs → p x ≡ true → any p xs ≡ true
  unfolding any
  mem-any p {xs = []} m h = elim m [ ]
  mem-any p {xs = y ∷ ys} (Memᴰ.head e) h = or_intro_l (p y) (any p ys) (sym (ap p e) ∙ h)
  mem-any p {xs = y ∷ ys} (Memᴰ.tail m) h = or_intro_r (p y) (any p ys) (mem-any p m h)

  pub all-mem-ext : (p r : A → Bool) (xs : List A) → ((x : A) → Memᴰ x xs → p x ≡ r x) → all p xs ≡ all r xs
  all-mem-ext p r xs h =
      iff (all p xs) (all r xs)
      (λ e. all-mem r xs (λ x m. sym (h x m) ∙ mem-all p m e)) (λ e. all-mem p xs (λ x m. h x m ∙ mem-all r m e))

  pub all_get_d : (p : A → Bool) (xs : List A) (i : ℕ) (d : A) → i < length xs → all p xs ≡ true → p (get_or xs i d) ≡ true
  unfolding all
  all_get_d p [] i d h e = absurd (not-suc-le-zero h)
  all_get_d p (x ∷ xs) zero d h e = and_l (p x) (all p xs) e
  all_get_d p (x ∷ xs) (suc i) d h e = all_get_d p xs i d (le_of_suc-le-suc h) (and_r (p x) (all p xs) e)

  pub get_or-all : (p : A → Bool) (xs : List A) (d : A) → ((i : ℕ) → i < length xs → p (get_or xs i d) ≡ true) → all p xs ≡ true
  unfolding all
  get_or-all p [] d h = refl
  get_or-all p (x ∷ xs) d h = and_both (p x) (all p xs) (h 0 (zero-lt-suc (length xs))) (get_or-all p xs d (λ i l. h (suc i) (suc-le-suc l)))

  pub all-and : (p r : A → Bool) (xs : List A) → all (λ x. p x && r x) xs ≡ (all p xs && all r xs)
  unfolding all
  all-and p r [] = refl
  all-and p r (x ∷ xs) =
      ap (λ (b : Bool). p x && r x && b) (all-and p r xs) ∙ shuffle (p x) (r x) (all p xs) (all r xs)
    where
      shuffle : (a b c d : Bool) → (a && b && (c && d)) ≡ (a && c && (b && d))
      shuffle true true c d = refl
      shuffle true false true d = refl
      shuffle true false false d = refl
      shuffle false b c d = refl

  pub all_keep : (p r : A → Bool) (xs : List A) → all p (keep r xs) ≡ all (λ x. r x implies p x) xs
  unfolding all keep
  all_keep p r [] = refl
  all_keep p r (x ∷ xs) = go (r x) (all_keep p r xs)
    where
      go : (b : Bool) → all p (keep r xs) ≡ all (λ y. r y implies p y) xs
          → all p (cond b (x ∷ keep r xs) (keep r xs)) ≡ ((b implies p x) && all (λ y. r y implies p y) xs)
      go true e = ap (λ (b : Bool). p x && b) e
      go false e = e

  pub keep_append : (p : A → Bool) (xs ys : List A) → keep p (xs ++ ys) ≡ keep p xs ++ keep p ys
  unfolding keep
  keep_append p [] ys = refl
  keep_append p (x ∷ xs) ys = go (p x) (keep_append p xs ys)
    where
      go : (b : Bool) → keep p (xs ++ ys) ≡ keep p xs ++ keep p ys
          → cond b (x ∷ keep p (xs ++ ys)) (keep p (xs ++ ys)) ≡ cond b (x ∷ keep p xs) (keep p xs) ++ keep p ys
      go true e = ap (λ (l : List A). x ∷ l) e
      go false e = e

  pub keep-ext : (p r : A → Bool) (xs : List A) → ((x : A) → p x ≡ r x) → keep p xs ≡ keep r xs
  keep-ext p r xs h = ap (λ (t : A → Bool). keep t xs) (fun_ext h)

  pub keep_all : (p : A → Bool) (xs : List A) → all p xs ≡ true → keep p xs ≡ xs
  unfolding all keep
  keep_all p [] e = refl
  keep_all p (x ∷ xs) e =
      ap₂ (λ (b : Bool) (l : List A). cond b (x ∷ l) l) (and_l (p x) (all p xs) e) (keep_all p xs (and_r (p x) (all p xs) e))

  pub keep-keep : (p r : A → Bool) (xs : List A) → keep p (keep r xs) ≡ keep (λ x. r x && p x) xs
  unfolding keep
  keep-keep p r [] = refl
  keep-keep p r (x ∷ xs) = go (r x) (keep-keep p r xs)
    where
      go : (b : Bool) → keep p (keep r xs) ≡ keep (λ y. r y && p y) xs
          → keep p (cond b (x ∷ keep r xs) (keep r xs)) ≡ cond (b && p x) (x ∷ keep (λ y. r y && p y) xs) (keep (λ y. r y && p y) xs)
      go true e = ap (λ (l : List A). cond (p x) (x ∷ l) l) e
      go false e = e

  -- Tests that agree on each element that passes s keep the same of a list of such elements.
  pub keep-under : (s p r : A → Bool) (xs : List A) → all s xs ≡ true → ((x : A) → s x ≡ true → p x ≡ r x) → keep p xs ≡ keep r xs
  unfolding all keep
  keep-under s p r [] e h = refl
  keep-under s p r (x ∷ xs) e h =
      ap₂ (λ (b : Bool) (l : List A). cond b (x ∷ l) l) (h x (and_l (s x) (all s xs) e)) (keep-under s p r xs (and_r (s x) (all s xs) e) h)

  -- Where the elements pass a test r that those of p fail, nothing is kept.
  pub keep-none : (p r : A → Bool) (xs : List A) → all r xs ≡ true → ((x : A) → r x ≡ true → p x ≡ false) → keep p xs ≡ []
  unfolding all keep
  keep-none p r [] e h = refl
  keep-none p r (x ∷ xs) e h = rw (h x (and_l (r x) (all r xs) e)) (keep-none p r xs (and_r (r x) (all r xs) e) h)

  pub keep-nothing : (p : A → Bool) (xs : List A) (d : A) → ((k : ℕ) → k < length xs → p (get_or xs k d) ≡ false) → keep p xs ≡ []
  unfolding keep
  keep-nothing p [] d h = refl
  keep-nothing p (x ∷ xs) d h = rw (h 0 (omega arith)) (keep-nothing p xs d (λ k l. h (suc k) (omega arith)))

  pub all_true : (xs : List A) → all (λ x. true) xs ≡ true
  all_true xs = all-mem (λ x. true) xs (λ x m. refl)

  -- What is kept passes the test, and what all elements pass.
  pub all-kept : (s p r : A → Bool) (xs : List A) → all s xs ≡ true → ((x : A) → s x ≡ true → p x ≡ true → r x ≡ true) → all r (keep p xs) ≡ true
  all-kept s p r xs e h = all_keep r p xs ∙ all-follows s (λ x. p x implies r x) xs e (λ x t. imp_intro (p x) (r x) (h x t))

  pub kept : (p : A → Bool) (xs : List A) → all p (keep p xs) ≡ true
  kept p xs = all-kept (λ x. true) p p xs (all_true xs) (λ x s t. t)

  -- What fails of each element fails of any.
  pub any_none : (p : A → Bool) (xs : List A) → ((x : A) → p x ≡ false) → any p xs ≡ false
  unfolding any
  any_none p [] h = refl
  any_none p (x ∷ xs) h = rw (h x) (any_none p xs h)

-- ---- range

pub length-range : (n : ℕ) → length (range n) ≡ n
unfolding range
length-range zero = refl
length-range (suc n) = length-append (range n) (n ∷ []) ∙ ap (λ (k : ℕ). k + 1) (length-range n) ∙ add-one n

pub get_or-range : (n i : ℕ) → i < n → get_or (range n) i 0 ≡ i
unfolding range
get_or-range zero i h = absurd (not-suc-le-zero h)
get_or-range (suc n) i h = go (get_or-range n i) (eq-or-lt_of_le (le_of_suc-le-suc h))
  where
    go : (i < n → get_or (range n) i 0 ≡ i) → (i ≡ n) ⊎ (i < n) → get_or (range n ++ (n ∷ [])) i 0 ≡ i
    go f (inl e) =
        subst (λ (k : ℕ). get_or (range n ++ (n ∷ [])) k 0 ≡ i) (length-range n ∙ sym e)
        (get_or-append_seam (range n) n [] 0 ∙ sym e)
    go f (inr l) = get_or-append (range n) (n ∷ []) 0 i (rw length-range l) ∙ f l

-- A list by its elements in turn.
pub map-get_or : (a : List ℕ) (n : ℕ) → n ≤ length a → map (λ (i : ℕ). get_or a i 0) (range n) ≡ take n a
unfolding range
map-get_or a zero h = refl
map-get_or a (suc n) h =
    map-append (λ (i : ℕ). get_or a i 0) (range n) (n ∷ [])
    ∙ ap (λ (l : List ℕ). l ++ (get_or a n 0 ∷ [])) (map-get_or a n (omega arith))
    ∙ sym (take-suc a n 0 h)

-- A test passes of the numbers below n exactly where it passes of each.
pub all-range : (p : ℕ → Bool) (n : ℕ) → ((k : ℕ) → k < n → p k ≡ true) → all p (range n) ≡ true
unfolding all range
all-range p zero h = refl
all-range p (suc n) h =
    all_append p (range n) (n ∷ [])
    ∙ and_both (all p (range n)) (p n && true) (all-range p n (λ k l. h k (omega arith))) (and_both (p n) true (h n (omega arith)) refl)

pub all-at : (p : ℕ → Bool) (n : ℕ) → all p (range n) ≡ true → (k : ℕ) → k < n → p k ≡ true
unfolding all range
all-at p zero e k h = absurd (not-suc-le-zero h)
all-at p (suc n) e k h = go (λ (r : all p (range n) ≡ true). all-at p n r k) (eq-or-lt_of_le (le_of_suc-le-suc h))
  where
    both : (all p (range n) && (p n && true)) ≡ true
    both = sym (all_append p (range n) (n ∷ [])) ∙ e

    go : (all p (range n) ≡ true → k < n → p k ≡ true) → (k ≡ n) ⊎ (k < n) → p k ≡ true
    go f (inl i) = rw i (and_l (p n) true (and_r (all p (range n)) (p n && true) both))
    go f (inr l) = f (and_l (all p (range n)) (p n && true) both) l

-- Of the numbers below n only k passes an equality with k.
pub all-range-one : (t : ℕ → Bool) (k n : ℕ) → k < n → all (λ (w : ℕ). eqb w k implies t w) (range n) ≡ t k
all-range-one t k n h =
    iff (all (λ (w : ℕ). eqb w k implies t w) (range n)) (t k)
    (λ e. imp_use (eqb k k) (t k) (all-at (λ (w : ℕ). eqb w k implies t w) n e k h) (eqb_refl k))
    (λ e. all-range (λ (w : ℕ). eqb w k implies t w) n (λ w l. imp_intro (eqb w k) (t w) (λ i. ap t (eqb-true w k i) ∙ e)))

-- Tests that agree below n agree on the numbers below n.
pub all-range-ext : (p r : ℕ → Bool) (n : ℕ) → ((k : ℕ) → k < n → p k ≡ r k) → all p (range n) ≡ all r (range n)
all-range-ext p r n h =
    iff (all p (range n)) (all r (range n))
    (λ e. all-range r n (λ k l. sym (h k l) ∙ all-at p n e k l)) (λ e. all-range p n (λ k l. h k l ∙ all-at r n e k l))
