-- Lists of numbers, rows and edges: testing, choosing, counting, sorting. `all`, `any` and `range` mean what
-- mathlib's do, which are not cited since its `all` and `any` cannot be computed outside their module and its
-- `range` is of other numbers. Assumes nothing.
use Rattle.std.specs.Prelude.{Bool, true, false, cond, ◌&&◌, ◌||◌, List, [], ◌∷◌, ◌++◌, ℕ, zero, suc, ◌+◌, max, eqb, leb, ltb}

infixr 25 ◌implies◌
-- If a then b, as a test.
abbrev pub ◌implies◌ : Bool → Bool → Bool
true implies b = b
false implies b = true

-- 1 where the test passes, 0 where it fails.
abbrev pub bit : Bool → ℕ
bit true = 1
bit false = 0

-- The numbers below n, ascending.
unfoldable pub range : ℕ → List ℕ
range zero = []
range (suc n) = range n ++ (n ∷ [])

-- Every element passes the test.
unfoldable pub all : {A : Type 0} → (A → Bool) → List A → Bool
all p [] = true
all p (x ∷ xs) = p x && all p xs

-- Some element passes the test.
unfoldable pub any : {A : Type 0} → (A → Bool) → List A → Bool
any p [] = false
any p (x ∷ xs) = p x || any p xs

-- The elements that pass the test, in order.
unfoldable pub keep : {A : Type 0} → (A → Bool) → List A → List A
keep p [] = []
keep p (x ∷ xs) = cond (p x) (x ∷ keep p xs) (keep p xs)

-- How many elements pass the test.
unfoldable pub count_if : {A : Type 0} → (A → Bool) → List A → ℕ
count_if p [] = 0
count_if p (x ∷ xs) = bit (p x) + count_if p xs

-- The sum of a number taken of each element.
unfoldable pub total : {A : Type 0} → (A → ℕ) → List A → ℕ
total f [] = 0
total f (x ∷ xs) = f x + total f xs

-- The largest of a number taken of each element; 0 where there is none.
unfoldable pub largest : {A : Type 0} → (A → ℕ) → List A → ℕ
largest f [] = 0
largest f (x ∷ xs) = max (f x) (largest f xs)

-- Two lists of numbers are equal.
unfoldable pub same : List ℕ → List ℕ → Bool
same [] [] = true
same [] (y ∷ ys) = false
same (x ∷ xs) [] = false
same (x ∷ xs) (y ∷ ys) = eqb x y && same xs ys

-- Each number is above the one before it, and the first above x.
unfoldable pub ascends_from : ℕ → List ℕ → Bool
ascends_from x [] = true
ascends_from x (y ∷ ys) = ltb x y && ascends_from y ys

-- The numbers ascend strictly.
unfoldable pub ascending : List ℕ → Bool
ascending [] = true
ascending (x ∷ xs) = ascends_from x xs

-- x put before the first number that is not below it.
unfoldable pub insert_sorted : ℕ → List ℕ → List ℕ
insert_sorted x [] = x ∷ []
insert_sorted x (y ∷ ys) = cond (leb x y) (x ∷ y ∷ ys) (y ∷ insert_sorted x ys)

-- The numbers of a list, ascending.
unfoldable pub sort : List ℕ → List ℕ
sort [] = []
sort (x ∷ xs) = insert_sorted x (sort xs)
