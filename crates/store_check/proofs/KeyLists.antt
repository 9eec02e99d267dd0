-- The lists of the vertices below n, one after the other, as keys: a vertex and an entry as one number. Assumes nothing.
use mathlib.Core.Path.{◌≡◌, refl, sym, ◌∙◌, ap, ap₂}
use mathlib.Core.Logic.{◌⊎◌, inl, inr}
use mathlib.Core.Bool.{Bool, true, not}
use mathlib.Core.List.{List, ◌++◌, map, map-map, map-id, map-append, flat_map}
use Prim.Native.Nat.{ℕ, zero, suc, ◌+◌, ◌*◌, ◌%◌, ◌≤◌, ◌<◌}
use native.Mathlib.Nat.{eq-or-lt_of_le, add-zero}
use native.Mathlib.Omega.{arith}
use lib.Dec.{eqb, ltb}
use lib.ListN.{length, length-map}
use borrow.Author.Tests.{eqb-true, eq-eqb, ltb-true, lt-ltb, le-ltb}
use Rattle.lists.specs.Lists.{range, all, count_if, ascending}
use Rattle.lists.proofs.Tests.{and_both}
use Rattle.lists.proofs.All.{all_append, all-follows, all_true}
use Rattle.lists.proofs.Count.{all_map, count-append, count_map, count_none, count-all}
use Rattle.lists.proofs.Sort.{ascending-map}
use Rattle.lists.proofs.Maps.{map-under, flat_map-suc}
use Rattle.lists.proofs.Any.{any-map, any-flat_map, any_some, any_at, any_below, any-follows}
use Rattle.lists.proofs.Ascending.{ascending-append}
use Rattle.adjacency.specs.Inner.Portion.{member}

-- The key of entry k of vertex v.
abbrev pub key_at : ℕ → ℕ → ℕ
key_at v k = v * 16777216 + k

unfoldable pub keys_of : (ℕ → List ℕ) → ℕ → List ℕ
keys_of part n = flat_map (λ (v : ℕ). map (key_at v) (part v)) (range n)

keys-suc : (part : ℕ → List ℕ) (n : ℕ) → keys_of part (suc n) ≡ keys_of part n ++ map (key_at n) (part n)
unfolding keys_of
keys-suc part n = flat_map-suc (λ (v : ℕ). map (key_at v) (part v)) n

-- The entries of each vertex fit below its next key.
abbrev pub Fit : (ℕ → List ℕ) → ℕ → Type 0
Fit part n = (v : ℕ) → v < n → all (λ (k : ℕ). ltb k 16777216) (part v) ≡ true

module _ (part : ℕ → List ℕ) where
  pub keys-under : (n : ℕ) → Fit part n → all (λ (k : ℕ). ltb k (n * 16777216)) (keys_of part n) ≡ true
  unfolding keys_of range flat_map all
  keys-under zero fit = refl
  keys-under (suc n) fit =
      ap (all under) (keys-suc part n)
      ∙ all_append under (keys_of part n) (map (key_at n) (part n))
      ∙ and_both (all under (keys_of part n)) (all under (map (key_at n) (part n)))
      (all-follows (λ (k : ℕ). ltb k (n * 16777216)) under (keys_of part n) (keys-under n (λ v l. fit v (omega arith)))
      (λ k t. let l : k < n * 16777216 = ltb-true k (n * 16777216) t in lt-ltb k (suc n * 16777216) (omega arith)))
      (all_map under (key_at n) (part n)
      ∙ all-follows (λ (k : ℕ). ltb k 16777216) (λ (k : ℕ). under (key_at n k)) (part n) (fit n (omega arith))
      (λ k t. let l : k < 16777216 = ltb-true k 16777216 t in lt-ltb (key_at n k) (suc n * 16777216) (omega arith)))
    where
      under : ℕ → Bool
      under k = ltb k (suc n * 16777216)

  -- A key ends in its entry.
  pub keys-entries : (n : ℕ) → Fit part n → map (λ (k : ℕ). k % 16777216) (keys_of part n) ≡ flat_map part (range n)
  unfolding keys_of range flat_map
  keys-entries zero fit = refl
  keys-entries (suc n) fit =
      ap (map low) (keys-suc part n)
      ∙ map-append low (keys_of part n) (map (key_at n) (part n))
      ∙ ap₂ (λ (l m : List ℕ). l ++ m) (keys-entries n (λ v l. fit v (omega arith)))
      (map-map low (key_at n) (part n)
      ∙ map-under (λ (k : ℕ). ltb k 16777216) (λ (k : ℕ). low (key_at n k)) (λ (k : ℕ). k) (part n) (fit n (omega arith))
      (λ k t. let l : k < 16777216 = ltb-true k 16777216 t in omega arith)
      ∙ map-id (part n))
      ∙ sym (flat_map-suc part n)
    where
      low : ℕ → ℕ
      low k = k % 16777216

  pub keys-ascending : (n : ℕ) → Fit part n → ((v : ℕ) → v < n → ascending (part v) ≡ true) → ascending (keys_of part n) ≡ true
  unfolding keys_of range flat_map ascending
  keys-ascending zero fit up = refl
  keys-ascending (suc n) fit up =
      ap ascending (keys-suc part n)
      ∙ ascending-append (n * 16777216) (keys_of part n) (map (key_at n) (part n))
      (keys-ascending n (λ v l. fit v (omega arith)) (λ v l. up v (omega arith)))
      (ascending-map (λ (k : ℕ). true) (key_at n) (part n) (all_true (part n)) (λ x y s t l. omega arith) (up n (omega arith)))
      (keys-under n (λ v l. fit v (omega arith)))
      (all_map (λ (k : ℕ). not (ltb k (n * 16777216))) (key_at n) (part n)
      ∙ all-follows (λ (k : ℕ). true) (λ (k : ℕ). not (ltb (key_at n k) (n * 16777216))) (part n) (all_true (part n))
      (λ k t. ap not (le-ltb (key_at n k) (n * 16777216) (omega arith))))

  whole : (n : ℕ) → Fit part n → count_if (λ (k : ℕ). ltb k (n * 16777216)) (keys_of part n) ≡ length (flat_map part (range n))
  whole n fit =
      count-all (λ (k : ℕ). ltb k (n * 16777216)) (keys_of part n) (keys-under n fit)
      ∙ sym (length-map (keys_of part n) (λ (k : ℕ). k % 16777216)) ∙ ap length (keys-entries n fit)

  -- Before the first key of v stand the entries of the vertices below v.
  pub keys-before : (n v : ℕ) → Fit part n → v ≤ n → count_if (λ (k : ℕ). ltb k (v * 16777216)) (keys_of part n) ≡ length (flat_map part (range v))
  keys-before zero v fit h = rw (let e : v ≡ 0 = omega arith in e) (whole zero fit)
  keys-before (suc n) v fit h = go (keys-before n v (λ v l. fit v (omega arith))) (eq-or-lt_of_le h)
    where
      go : (v ≤ n → count_if (λ (k : ℕ). ltb k (v * 16777216)) (keys_of part n) ≡ length (flat_map part (range v))) → (v ≡ suc n) ⊎ (v < suc n)
          → count_if (λ (k : ℕ). ltb k (v * 16777216)) (keys_of part (suc n)) ≡ length (flat_map part (range v))
      go f (inl e) = rw e (whole (suc n) fit)
      go f (inr l) =
          ap (count_if (λ (k : ℕ). ltb k (v * 16777216))) (keys-suc part n)
          ∙ count-append (λ (k : ℕ). ltb k (v * 16777216)) (keys_of part n) (map (key_at n) (part n))
          ∙ ap₂ (λ (a b : ℕ). a + b) (f (omega arith))
          (count_map (λ (k : ℕ). ltb k (v * 16777216)) (key_at n) (part n)
          ∙ count_none (λ (k : ℕ). ltb (key_at n k) (v * 16777216)) (part n) (λ k. le-ltb (key_at n k) (v * 16777216) (omega arith)))
          ∙ add-zero (length (flat_map part (range v)))

-- ---- members of numbers that are made of a vertex and an entry

-- What follows from a vertex below n and one of its entries follows from a member.
pub pair-some : {R : Type 0} (s : ℕ → ℕ → Bool) (f : ℕ → ℕ → ℕ) (part : ℕ → List ℕ) (n k : ℕ) → ((v : ℕ) → v < n → all (s v) (part v) ≡ true)
    → member k (flat_map (λ (v : ℕ). map (f v) (part v)) (range n)) ≡ true
    → ((v j : ℕ) → v < n → s v j ≡ true → f v j ≡ k → R) → R
pair-some s f part n k h t r =
    any_below (λ (v : ℕ). member k (map (f v) (part v))) n (sym (any-flat_map (λ (j : ℕ). eqb j k) (λ (v : ℕ). map (f v) (part v)) (range n)) ∙ t)
    (λ v l u.
    any_some (s v) (λ (j : ℕ). eqb (f v j) k) (part v) (h v l) (sym (any-map (λ (j : ℕ). eqb j k) (f v) (part v)) ∙ u)
    (λ j a b. r v j l a (eqb-true (f v j) k b)))

pub some_pair : (f : ℕ → ℕ → ℕ) (part : ℕ → List ℕ) (n v j : ℕ) → v < n → member j (part v) ≡ true
    → member (f v j) (flat_map (λ (v : ℕ). map (f v) (part v)) (range n)) ≡ true
some_pair f part n v j h t =
    any-flat_map (λ (i : ℕ). eqb i (f v j)) (λ (u : ℕ). map (f u) (part u)) (range n)
    ∙ any_at (λ (u : ℕ). member (f v j) (map (f u) (part u))) n v h
    (any-map (λ (i : ℕ). eqb i (f v j)) (f v) (part v)
    ∙ any-follows (λ (i : ℕ). eqb i j) (λ (i : ℕ). eqb (f v i) (f v j)) (part v) t (λ i e. eq-eqb (f v i) (f v j) (ap (f v) (eqb-true i j e))))
