-- Laws of a list in an array. Assumes nothing.
use mathlib.Core.Path.{◌≡◌, refl}
use mathlib.Core.List.{List, map}
use Prim.Native.Nat.{ℕ, suc, ◌+◌, ◌-◌, ◌≤◌, ◌<◌}
use native.Mathlib.Omega.{arith}
use native.Mathlib.Numerals.{add-one}
use lib.ListN.{length, get_or, take, set, replicate, length-append, length-replicate, get_or-append}
use lib.Seq.{set_at, append_snoc, take-append_seam}
use Rattle.lists.specs.Lists.{range}
use Rattle.lists.proofs.Maps.{image-suc, length-image}
use Rattle.query.specs.Answer.{padded}

-- One number more in an array of k.
pub padded-step : (f : ℕ → ℕ) (k n v : ℕ) (a : List ℕ) → n < k → v ≡ f n → a ≡ padded k (map f (range n))
    → set a n v ≡ padded k (map f (range (n + 1)))
unfolding padded
padded-step f k n v a h e r =
    let more : k - length (map f (range n)) ≡ suc (k - suc n) = rw length-image (omega arith) in
    let rest : k - length (map f (range (suc n))) ≡ k - suc n = rw length-image refl in
    rw (r, e, add-one, more, rest, image-suc f n, append_snoc)
    (set_at (map f (range n)) 0 (replicate (k - suc n) 0) (f n) n (length-image f n))

-- What is in an array.
pub get_or-padded : (k : ℕ) (xs : List ℕ) (i : ℕ) → i < length xs → get_or (padded k xs) i 0 ≡ get_or xs i 0
unfolding padded
get_or-padded k xs i h = get_or-append xs (replicate (k - length xs) 0) 0 i h

pub take-padded : (k : ℕ) (xs : List ℕ) → take (length xs) (padded k xs) ≡ xs
unfolding padded
take-padded k xs = take-append_seam xs (replicate (k - length xs) 0)

pub length-padded : (k : ℕ) (xs : List ℕ) → length xs ≤ k → length (padded k xs) ≡ k
unfolding padded
length-padded k xs h = rw (length-append, length-replicate) (omega arith)
