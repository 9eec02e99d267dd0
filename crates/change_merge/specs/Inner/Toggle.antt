-- Ascending lists of numbers, some of which are put in or taken out. Assumes nothing.
use Rattle.std.specs.Prelude.{cond, List, [], ◌∷◌, ℕ, eqb, ltb}

-- x put into an ascending list that lacks it, or taken out of one that has it.
unfoldable pub toggle : ℕ → List ℕ → List ℕ
toggle x [] = x ∷ []
toggle x (y ∷ ys) = cond (ltb x y) (x ∷ y ∷ ys) (cond (eqb x y) ys (y ∷ toggle x ys))

-- The same of each number of a list: what stands in one of two ascending lists alone.
unfoldable pub toggled : List ℕ → List ℕ → List ℕ
toggled xs [] = xs
toggled xs (y ∷ ys) = toggle y (toggled xs ys)
