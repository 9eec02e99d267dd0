-- Searching a list of words. Assumes nothing.
use Rattle.std.specs.Prelude.{cond, Option, Some, None, List, ℕ, ◌+◌, eqb, ltb, drop}
use Rattle.lists.specs.Lists.{any, count_if}

-- How many words are below x.
unfoldable pub below : ℕ → List ℕ → ℕ
below x s = count_if (λ (w : ℕ). ltb w x) s

-- The first index from `from` on whose word is not below x. In an ascending list the words below x come
-- first, so that it is `from` and one more for each of them from there on.
unfoldable pub first_from : List ℕ → ℕ → ℕ → ℕ
first_from s from x = from + below x (drop from s)

-- Where x stands in an ascending list, if it does: after the words below it.
unfoldable pub place_of : List ℕ → ℕ → Option ℕ
place_of s x = cond (any (eqb x) s) (Some (first_from s 0 x)) None
