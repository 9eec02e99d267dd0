-- Laws of `count` and `total`. Assumes nothing.
use mathlib.Core.Path.{◌≡◌, refl, sym, ◌∙◌, ap, ap₂, fun_ext}
use mathlib.Core.Logic.{◌⊎◌, inl, inr}
use mathlib.Core.Bool.{Bool, true, false, cond, ◌&&◌, and-true, and-false}
use mathlib.Core.List.{List, [], ◌∷◌, ◌++◌, map, flat_map, Memᴰ}
use Prim.Native.Nat.{ℕ, zero, suc, ◌+◌, ◌*◌, ◌≤◌, ◌<◌, max}
use native.Mathlib.Nat.{zero-add, add-zero, add_assoc, add_comm, eq-or-lt_of_le, le_of_suc-le-suc, le_antisymm, le_trans, max-le, max_comm, le-max_left, le-max_right}
use native.Mathlib.Numerals.{add-one}
use native.Mathlib.Omega.{arith}
use lib.Dec.{eqb, ltb}
use lib.ListN.{length, get_or, take}
use borrow.Author.Tests.{eqb-true, ltb-true, lt-ltb, le-ltb}
use Rattle.lists.specs.Lists.{bit, range, all, keep, count_if, total, largest}
use Rattle.lists.proofs.All.{all_append}
use Rattle.lists.proofs.Tests.{iff, and_l, and_r, and-turn, eqb-sym}

module _ {A : Type 0} where
  pub count-append : (p : A → Bool) (xs ys : List A) → count_if p (xs ++ ys) ≡ count_if p xs + count_if p ys
  unfolding count_if
  count-append p [] ys = sym (zero-add (count_if p ys))
  count-append p (x ∷ xs) ys =
      ap (λ (n : ℕ). bit (p x) + n) (count-append p xs ys) ∙ sym (add_assoc (bit (p x)) (count_if p xs) (count_if p ys))

  -- Tests that agree on each element that passes s count the same in a list of such elements.
  pub count_under : (s p r : A → Bool) (xs : List A) → all s xs ≡ true → ((x : A) → s x ≡ true → p x ≡ r x) → count_if p xs ≡ count_if r xs
  unfolding all count_if
  count_under s p r [] e h = refl
  count_under s p r (x ∷ xs) e h =
      ap₂ (λ (b : Bool) (n : ℕ). bit b + n) (h x (and_l (s x) (all s xs) e)) (count_under s p r xs (and_r (s x) (all s xs) e) h)

  pub count_none : (p : A → Bool) (xs : List A) → ((x : A) → p x ≡ false) → count_if p xs ≡ 0
  unfolding count_if
  count_none p [] h = refl
  count_none p (x ∷ xs) h = rw (h x) (zero-add (count_if p xs) ∙ count_none p xs h)

  pub count-keep : (p r : A → Bool) (xs : List A) → count_if p (keep r xs) ≡ count_if (λ x. r x && p x) xs
  unfolding count_if keep
  count-keep p r [] = refl
  count-keep p r (x ∷ xs) = go (r x) (count-keep p r xs)
    where
      go : (b : Bool) → count_if p (keep r xs) ≡ count_if (λ y. r y && p y) xs
          → count_if p (cond b (x ∷ keep r xs) (keep r xs)) ≡ bit (b && p x) + count_if (λ y. r y && p y) xs
      go true e = ap (λ (n : ℕ). bit (p x) + n) e
      go false e = e ∙ sym (zero-add (count_if (λ y. r y && p y) xs))

  -- A test that does not look at the element counts all or none.
  pub count-const : (p : A → Bool) (b : Bool) (xs : List A) → count_if (λ x. p x && b) xs ≡ cond b (count_if p xs) 0
  unfolding count_if
  count-const p true [] = refl
  count-const p false [] = refl
  count-const p true (x ∷ xs) = ap₂ (λ (c : Bool) (n : ℕ). bit c + n) (and-true (p x)) (count-const p true xs)
  count-const p false (x ∷ xs) = ap₂ (λ (c : Bool) (n : ℕ). bit c + n) (and-false (p x)) (count-const p false xs)

  pub mem-count : (p : A → Bool) {x : A} {xs : List A} → Memᴰ x xs → p x ≡ true → 0 < count_if p xs
  unfolding count_if
  mem-count p {xs = []} m h = elim m [ ]
  mem-count p {xs = y ∷ ys} (Memᴰ.head e) h = rw (sym (ap p e) ∙ h) (omega arith)
  mem-count p {xs = y ∷ ys} (Memᴰ.tail m) h = let ih : 0 < count_if p ys = mem-count p m h in omega arith

  pub count-le : (p : A → Bool) (xs : List A) → count_if p xs ≤ length xs
  unfolding count_if
  count-le p [] = omega arith
  count-le p (x ∷ xs) = go (p x) (count-le p xs)
    where
      go : (b : Bool) → count_if p xs ≤ length xs → bit b + count_if p xs ≤ suc (length xs)
      go true h = omega arith
      go false h = omega arith

  pub count-all : (p : A → Bool) (xs : List A) → all p xs ≡ true → count_if p xs ≡ length xs
  unfolding all count_if
  count-all p [] e = refl
  count-all p (x ∷ xs) e =
      rw (and_l (p x) (all p xs) e) (let ih : count_if p xs ≡ length xs = count-all p xs (and_r (p x) (all p xs) e) in omega arith)

  pub length-keep : (p : A → Bool) (xs : List A) → length (keep p xs) ≡ count_if p xs
  unfolding count_if keep
  length-keep p [] = refl
  length-keep p (x ∷ xs) = go (p x) (length-keep p xs)
    where
      go : (b : Bool) → length (keep p xs) ≡ count_if p xs → length (cond b (x ∷ keep p xs) (keep p xs)) ≡ bit b + count_if p xs
      go true e = omega arith
      go false e = omega arith

  -- A list that counts something has an element that passes, as a fact about all of them.
  pub count-passes : (p r : A → Bool) (xs : List A) → all r xs ≡ true → ((x : A) → r x ≡ true → p x ≡ false) → count_if p xs ≡ 0
  count-passes p r xs e h = count_under r p (λ x. false) xs e h ∙ count_none (λ x. false) xs (λ x. refl)

  pub total-append : (f : A → ℕ) (xs ys : List A) → total f (xs ++ ys) ≡ total f xs + total f ys
  unfolding total
  total-append f [] ys = sym (zero-add (total f ys))
  total-append f (x ∷ xs) ys = ap (λ (n : ℕ). f x + n) (total-append f xs ys) ∙ sym (add_assoc (f x) (total f xs) (total f ys))

  pub total-under : (s : A → Bool) (f h : A → ℕ) (xs : List A) → all s xs ≡ true → ((x : A) → s x ≡ true → f x ≡ h x) → total f xs ≡ total h xs
  unfolding all total
  total-under s f h [] e k = refl
  total-under s f h (x ∷ xs) e k =
      ap₂ (λ (m n : ℕ). m + n) (k x (and_l (s x) (all s xs) e)) (total-under s f h xs (and_r (s x) (all s xs) e) k)

  pub total-zero : (xs : List A) → total (λ x. 0) xs ≡ 0
  unfolding total
  total-zero [] = refl
  total-zero (x ∷ xs) = zero-add (total (λ y. 0) xs) ∙ total-zero xs

  pub total-add : (f h : A → ℕ) (xs : List A) → total (λ x. f x + h x) xs ≡ total f xs + total h xs
  unfolding total
  total-add f h [] = refl
  total-add f h (x ∷ xs) =
      let ih : total (λ y. f y + h y) xs ≡ total f xs + total h xs = total-add f h xs in omega arith

  -- A count is a sum of bits.
  pub total-bit : (p : A → Bool) (xs : List A) → total (λ x. bit (p x)) xs ≡ count_if p xs
  unfolding count_if total
  total-bit p [] = refl
  total-bit p (x ∷ xs) = ap (λ (n : ℕ). bit (p x) + n) (total-bit p xs)

  pub total-one : (xs : List A) → total (λ x. 1) xs ≡ length xs
  unfolding total
  total-one [] = refl
  total-one (x ∷ xs) = let ih : total (λ y. 1) xs ≡ length xs = total-one xs in omega arith

module _ {A B : Type 0} where
  pub count_map : (p : B → Bool) (f : A → B) (xs : List A) → count_if p (map f xs) ≡ count_if (λ x. p (f x)) xs
  unfolding count_if
  count_map p f [] = refl
  count_map p f (x ∷ xs) = ap (λ (n : ℕ). bit (p (f x)) + n) (count_map p f xs)

  pub all_map : (p : B → Bool) (f : A → B) (xs : List A) → all p (map f xs) ≡ all (λ x. p (f x)) xs
  unfolding all
  all_map p f [] = refl
  all_map p f (x ∷ xs) = ap (λ (b : Bool). p (f x) && b) (all_map p f xs)

  pub all-flat_map : (p : B → Bool) (f : A → List B) (xs : List A) → all p (flat_map f xs) ≡ all (λ x. all p (f x)) xs
  unfolding all flat_map
  all-flat_map p f [] = refl
  all-flat_map p f (x ∷ xs) = all_append p (f x) (flat_map f xs) ∙ ap (λ (b : Bool). all p (f x) && b) (all-flat_map p f xs)

  pub count-flat_map : (p : B → Bool) (f : A → List B) (xs : List A) → count_if p (flat_map f xs) ≡ total (λ x. count_if p (f x)) xs
  unfolding count_if total flat_map
  count-flat_map p f [] = refl
  count-flat_map p f (x ∷ xs) = count-append p (f x) (flat_map f xs) ∙ ap (λ (n : ℕ). count_if p (f x) + n) (count-flat_map p f xs)

  pub length-flat_map : (f : A → List B) (xs : List A) → length (flat_map f xs) ≡ total (λ x. length (f x)) xs
  unfolding total flat_map
  length-flat_map f [] = refl
  length-flat_map f (x ∷ xs) = lib.ListN.length-append (f x) (flat_map f xs) ∙ ap (λ (n : ℕ). length (f x) + n) (length-flat_map f xs)

  -- Pairs counted by rows or by columns.
  pub total-swap : (p : A → B → Bool) (xs : List A) (ys : List B) → total (λ x. count_if (p x) ys) xs ≡ total (λ y. count_if (λ x. p x y) xs) ys
  unfolding count_if total
  total-swap p [] ys = sym (total-zero ys)
  total-swap p (x ∷ xs) ys =
      ap (λ (n : ℕ). count_if (p x) ys + n) (total-swap p xs ys)
      ∙ ap (λ (n : ℕ). n + total (λ y. count_if (λ z. p z y) xs) ys) (sym (total-bit (p x) ys))
      ∙ sym (total-add (λ y. bit (p x y)) (λ y. count_if (λ z. p z y) xs) ys)

-- Of the numbers below n only k passes an equality with k.
pub count-range-one : (t : ℕ → Bool) (k n : ℕ) → count_if (λ y. eqb y k && t y) (range n) ≡ bit (ltb k n && t k)
unfolding count_if range
count-range-one t k zero = rw (le-ltb k 0 (omega arith)) refl
count-range-one t k (suc n) =
    count-append (λ y. eqb y k && t y) (range n) (n ∷ [])
    ∙ ap (λ (m : ℕ). m + (bit (eqb n k && t n) + 0)) (count-range-one t k n)
    ∙ go (eqb n k) refl
  where
    go : (b : Bool) → eqb n k ≡ b → bit (ltb k n && t k) + (bit (b && t n) + 0) ≡ bit (ltb k (suc n) && t k)
    go true e =
        let i : n ≡ k = eqb-true n k e in
        rw (le-ltb k n (omega arith), lt-ltb k (suc n) (omega arith), i) (zero-add (bit (t k) + 0) ∙ add-zero (bit (t k)))
    go false e =
        ap (λ (m : ℕ). bit (ltb k n && t k) + m) (zero-add 0) ∙ add-zero (bit (ltb k n && t k))
        ∙ ap (λ (b : Bool). bit (b && t k)) (iff (ltb k n) (ltb k (suc n))
        (λ h. let l : k < n = ltb-true k n h in lt-ltb k (suc n) (omega arith))
        (λ h. let l : k < suc n = ltb-true k (suc n) h in lt-ltb k n (let d : (n ≡ k → ⊥) = borrow.Author.Tests.eqb-false n k e in omega (arith, d))))

-- Of the elements that the numbers below n produce only that of k₀ can pass, and only where c holds.
pub count-produced : {B : Type 0} (p : B → Bool) (make : ℕ → B) (t : ℕ → Bool) (c : Bool) (k₀ n : ℕ)
    → ((k : ℕ) → p (make k) ≡ (c && eqb k₀ k)) → count_if p (map make (keep t (range n))) ≡ bit (ltb k₀ n && (t k₀ && c))
count-produced p make t c k₀ n h =
    count_map p make (keep t (range n)) ∙ count-keep (λ k. p (make k)) t (range n)
    ∙ ap (λ (r : ℕ → Bool). count_if r (range n))
    (fun_ext (λ (k : ℕ). ap (λ (b : Bool). t k && b) (h k ∙ ap (λ (b : Bool). c && b) (eqb-sym k₀ k)) ∙ and-turn (t k) c (eqb k k₀)))
    ∙ count-range-one (λ (k : ℕ). t k && c) k₀ n

-- ---- one element more

pub count-snoc : {A : Type 0} (p : A → Bool) (xs : List A) (x : A) → count_if p (xs ++ (x ∷ [])) ≡ count_if p xs + bit (p x)
unfolding count_if
count-snoc p xs x = count-append p xs (x ∷ []) ∙ ap (λ (n : ℕ). count_if p xs + n) (add-zero (bit (p x)))

pub total-suc : (f : ℕ → ℕ) (n : ℕ) → total f (range (suc n)) ≡ total f (range n) + f n
unfolding total range
total-suc f n = total-append f (range n) (n ∷ []) ∙ ap (λ (k : ℕ). total f (range n) + k) (add-zero (f n))

pub total_mono : (f : ℕ → ℕ) (i n : ℕ) → i ≤ n → total f (range i) ≤ total f (range n)
total_mono f i zero h = let z : i ≡ 0 = omega arith in rw z (omega arith)
total_mono f i (suc n) h = go (total_mono f i n) (eq-or-lt_of_le h)
  where
    go : (i ≤ n → total f (range i) ≤ total f (range n)) → (i ≡ suc n) ⊎ (i < suc n) → total f (range i) ≤ total f (range (suc n))
    go g (inl e) = rw e (omega arith)
    go g (inr l) = omega (arith, total-suc f n, g (le_of_suc-le-suc l))

-- Where what passes s and p passes r, r counts no less than p in a list of what passes s.
pub count-mono : {A : Type 0} (s p r : A → Bool) (xs : List A) → all s xs ≡ true → ((x : A) → s x ≡ true → p x ≡ true → r x ≡ true)
    → count_if p xs ≤ count_if r xs
unfolding all count_if
count-mono s p r [] e h = omega arith
count-mono s p r (x ∷ xs) e h = go (p x) refl (count-mono s p r xs (and_r (s x) (all s xs) e) h)
  where
    go : (b : Bool) → p x ≡ b → count_if p xs ≤ count_if r xs → bit b + count_if p xs ≤ bit (r x) + count_if r xs
    go true i l = rw (h x (and_l (s x) (all s xs) e) i) (omega arith)
    go false i l = omega arith

-- A test that passes where one of two tests does, and no two do, counts their sum.
pub count-sum : {A : Type 0} (c a b : A → Bool) (xs : List A) → ((x : A) → bit (c x) ≡ bit (a x) + bit (b x)) → count_if c xs ≡ count_if a xs + count_if b xs
unfolding count_if
count-sum c a b [] h = refl
count-sum c a b (x ∷ xs) h = let e : count_if c xs ≡ count_if a xs + count_if b xs = count-sum c a b xs h in omega (arith, h x)

-- An element that passes a test stands, of those that pass, after as many as pass before it.
pub keep_at : (p : ℕ → Bool) (xs : List ℕ) (i : ℕ) → i < length xs → p (get_or xs i 0) ≡ true
    → get_or (keep p xs) (count_if p (take i xs)) 0 ≡ get_or xs i 0
unfolding keep count_if
keep_at p [] i h e = absurd (omega arith)
keep_at p (x ∷ xs) zero h e = rw e
keep_at p (x ∷ xs) (suc i) h e = go (p x) (keep_at p xs i (le_of_suc-le-suc h) e)
  where
    go : (b : Bool) → get_or (keep p xs) (count_if p (take i xs)) 0 ≡ get_or xs i 0
        → get_or (cond b (x ∷ keep p xs) (keep p xs)) (bit b + count_if p (take i xs)) 0 ≡ get_or xs i 0
    go true k = rw (add_comm 1 (count_if p (take i xs)), add-one (count_if p (take i xs))) k
    go false k = rw (zero-add (count_if p (take i xs))) k

-- Fewer pass before an element that passes than pass in all.
pub count-before : (p : ℕ → Bool) (xs : List ℕ) (i : ℕ) → i < length xs → p (get_or xs i 0) ≡ true → count_if p (take i xs) < count_if p xs
unfolding count_if
count-before p [] i h e = absurd (omega arith)
count-before p (x ∷ xs) zero h e = rw e (omega arith)
count-before p (x ∷ xs) (suc i) h e = omega (arith, count-before p xs i (le_of_suc-le-suc h) e)

pub total-map : {A B : Type 0} (t : B → ℕ) (f : A → B) (xs : List A) → total t (map f xs) ≡ total (λ x. t (f x)) xs
unfolding total
total-map t f [] = refl
total-map t f (x ∷ xs) = ap (λ (k : ℕ). t (f x) + k) (total-map t f xs)

pub total-most : (f : ℕ → ℕ) (most n : ℕ) → ((k : ℕ) → k < n → f k ≤ most) → total f (range n) ≤ n * most
unfolding range total
total-most f most zero h = omega arith
total-most f most (suc n) h = rw (total-suc f n) (omega (arith, total-most f most n (λ k l. h k (omega arith)), h n (omega arith)))

max_assoc : (a b c : ℕ) → max (max a b) c ≡ max a (max b c)
max_assoc a b c =
    le_antisymm
    (max-le (max-le (le-max_left a (max b c)) (le_trans (le-max_left b c) (le-max_right a (max b c)))) (le_trans (le-max_right b c) (le-max_right a (max b c))))
    (max-le (le_trans (le-max_left a b) (le-max_left (max a b) c)) (max-le (le_trans (le-max_right a b) (le-max_left (max a b) c)) (le-max_right (max a b) c)))

-- The largest of a list with one element more.
pub largest-snoc : {A : Type 0} (f : A → ℕ) (xs : List A) (x : A) → largest f (xs ++ (x ∷ [])) ≡ max (largest f xs) (f x)
unfolding largest
largest-snoc f [] x = max_comm (f x) 0
largest-snoc f (y ∷ xs) x = ap (max (f y)) (largest-snoc f xs x) ∙ sym (max_assoc (f y) (largest f xs) (f x))
