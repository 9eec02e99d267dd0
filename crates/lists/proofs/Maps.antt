-- Laws of `map` and `flat_map` with `take`, `drop`, `keep` and an index, and of images of the numbers below n. Assumes nothing.
use mathlib.Core.Path.{◌≡◌, refl, sym, ◌∙◌, ap, ap₂}
use mathlib.Core.Bool.{Bool, true, false, cond}
use mathlib.Core.List.{List, [], ◌∷◌, ◌++◌, map, flat_map, map-append, append_assoc, append-nil}
use Prim.Native.Nat.{ℕ, zero, suc, ◌<◌}
use native.Mathlib.Omega.{arith}
use lib.Dec.{ltb}
use lib.ListN.{length, get_or, take, drop, length-map}
use lib.Seq.{ext_get_or}
use borrow.Author.Tests.{ltb-true, lt-ltb}
use Rattle.lists.specs.Lists.{range, all, keep, ascending}
use Rattle.lists.proofs.Tests.{and_l, and_r}
use Rattle.lists.proofs.All.{length-range, get_or-range, all-range}
use Rattle.lists.proofs.Sort.{at-ascending, ascending-at}

module _ {A B : Type 0} where
  -- An element of an image, whatever stands past the end of either list.
  pub get_d_map : (f : A → B) (xs : List A) (i : ℕ) (d : A) (e : B) → i < length xs → get_or (map f xs) i e ≡ f (get_or xs i d)
  get_d_map f [] i d e h = absurd (omega arith)
  get_d_map f (x ∷ xs) zero d e h = refl
  get_d_map f (x ∷ xs) (suc i) d e h = get_d_map f xs i d e (omega arith)

  pub take-map : (f : A → B) (n : ℕ) (xs : List A) → take n (map f xs) ≡ map f (take n xs)
  take-map f zero [] = refl
  take-map f zero (x ∷ xs) = refl
  take-map f (suc n) [] = refl
  take-map f (suc n) (x ∷ xs) = ap (λ (l : List B). f x ∷ l) (take-map f n xs)

  pub drop-map : (f : A → B) (n : ℕ) (xs : List A) → drop n (map f xs) ≡ map f (drop n xs)
  drop-map f zero [] = refl
  drop-map f zero (x ∷ xs) = refl
  drop-map f (suc n) [] = refl
  drop-map f (suc n) (x ∷ xs) = drop-map f n xs

  pub keep-map : (p : B → Bool) (f : A → B) (xs : List A) → keep p (map f xs) ≡ map f (keep (λ x. p (f x)) xs)
  unfolding keep
  keep-map p f [] = refl
  keep-map p f (x ∷ xs) = go (p (f x)) (keep-map p f xs)
    where
      go : (b : Bool) → keep p (map f xs) ≡ map f (keep (λ y. p (f y)) xs)
          → cond b (f x ∷ keep p (map f xs)) (keep p (map f xs)) ≡ map f (cond b (x ∷ keep (λ y. p (f y)) xs) (keep (λ y. p (f y)) xs))
      go true e = ap (λ (l : List B). f x ∷ l) e
      go false e = e

  -- Functions that agree on each element that passes s have the same image of a list of such elements.
  pub map-under : (s : A → Bool) (f h : A → B) (xs : List A) → all s xs ≡ true → ((x : A) → s x ≡ true → f x ≡ h x) → map f xs ≡ map h xs
  unfolding all
  map-under s f h [] e k = refl
  map-under s f h (x ∷ xs) e k =
      ap₂ (λ (y : B) (l : List B). y ∷ l) (k x (and_l (s x) (all s xs) e)) (map-under s f h xs (and_r (s x) (all s xs) e) k)

  pub flat_map-append : (f : A → List B) (xs ys : List A) → flat_map f (xs ++ ys) ≡ flat_map f xs ++ flat_map f ys
  unfolding flat_map
  flat_map-append f [] ys = refl
  flat_map-append f (x ∷ xs) ys =
      ap (λ (l : List B). f x ++ l) (flat_map-append f xs ys) ∙ sym (append_assoc (f x) (flat_map f xs) (flat_map f ys))

  pub flat_map-snoc : (f : A → List B) (xs : List A) (x : A) → flat_map f (xs ++ (x ∷ [])) ≡ flat_map f xs ++ f x
  unfolding flat_map
  flat_map-snoc f xs x = flat_map-append f xs (x ∷ []) ∙ ap (λ (l : List B). flat_map f xs ++ l) (append-nil (f x))

pub map-flat_map : {A B C : Type 0} (f : B → C) (h : A → List B) (xs : List A) → map f (flat_map h xs) ≡ flat_map (λ x. map f (h x)) xs
unfolding flat_map
map-flat_map f h [] = refl
map-flat_map f h (x ∷ xs) = map-append f (h x) (flat_map h xs) ∙ ap (λ (l : List _). map f (h x) ++ l) (map-flat_map f h xs)

module _ {B : Type 0} where
  pub length-image : (f : ℕ → B) (n : ℕ) → length (map f (range n)) ≡ n
  length-image f n = length-map (range n) f ∙ length-range n

  pub get_or-image : (f : ℕ → B) (n i : ℕ) (b : B) → i < n → get_or (map f (range n)) i b ≡ f i
  get_or-image f n i b h = get_d_map f (range n) i 0 b (rw length-range h) ∙ ap f (get_or-range n i h)

  pub image-suc : (f : ℕ → B) (n : ℕ) → map f (range (suc n)) ≡ map f (range n) ++ (f n ∷ [])
  unfolding range
  image-suc f n = map-append f (range n) (n ∷ [])

  pub image-ext : (f h : ℕ → B) (n : ℕ) → ((i : ℕ) → i < n → f i ≡ h i) → map f (range n) ≡ map h (range n)
  image-ext f h n e =
      map-under (λ (i : ℕ). ltb i n) f h (range n) (all-range (λ (i : ℕ). ltb i n) n (λ i l. lt-ltb i n l)) (λ i t. e i (ltb-true i n t))

  -- A list is the image of its indices.
  pub map-indices : (f : ℕ → B) (xs : List B) (b : B) → ((i : ℕ) → i < length xs → f i ≡ get_or xs i b) → map f (range (length xs)) ≡ xs
  map-indices f xs b h =
      ext_get_or b (map f (range (length xs))) xs (length-image f (length xs))
      (λ i l.
      let m : i < length xs = rw length-image at l in
      get_or-image f (length xs) i b m ∙ h i m)

  pub flat_map-suc : (f : ℕ → List B) (n : ℕ) → flat_map f (range (suc n)) ≡ flat_map f (range n) ++ f n
  unfolding range
  flat_map-suc f n = flat_map-snoc f (range n) n

  pub flat_map-range-ext : (f h : ℕ → List B) (n : ℕ) → ((k : ℕ) → k < n → f k ≡ h k) → flat_map f (range n) ≡ flat_map h (range n)
  unfolding flat_map range
  flat_map-range-ext f h zero e = refl
  flat_map-range-ext f h (suc n) e =
      flat_map-suc f n ∙ ap₂ (λ (a b : List B). a ++ b) (flat_map-range-ext f h n (λ i l. e i (omega arith))) (e n (omega arith)) ∙ sym (flat_map-suc h n)

-- The image of the numbers below n ascends where the function rises at each step.
pub ascending-image : (f : ℕ → ℕ) (n : ℕ) → ((i : ℕ) → suc i < n → f i < f (suc i)) → ascending (map f (range n)) ≡ true
ascending-image f n h =
    at-ascending (map f (range n))
    (λ i l.
    let m : suc i < n = rw length-image at l in
    rw (get_or-image f n i 0 (omega arith), get_or-image f n (suc i) 0 m) (h i m))

pub image-ascending : (f : ℕ → ℕ) (n : ℕ) → ascending (map f (range n)) ≡ true → (i : ℕ) → suc i < n → f i < f (suc i)
image-ascending f n e i h =
    rw (get_or-image f n i 0 (omega arith), get_or-image f n (suc i) 0 h) at
    (ascending-at (map f (range n)) e i (rw length-image h))
