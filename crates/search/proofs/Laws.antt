-- Laws of `first_from`, the first index from `from` on whose word is not below x, in an ascending list. Assumes nothing.
use mathlib.Core.Path.{◌≡◌, sym, ◌∙◌, ap, ap₂}
use mathlib.Core.Bool.{Bool, true, false, ◌&&◌}
use mathlib.Core.List.{List}
use Prim.Native.Nat.{ℕ, ◌+◌, ◌-◌, ◌≤◌, ◌<◌, zero-le}
use native.Mathlib.Nat.{zero-add, add-sub_of_le}
use native.Mathlib.Omega.{arith}
use lib.Dec.{eqb, ltb}
use lib.ListN.{length, get_or, take, drop, length-drop}
use lib.Seq.{get_or-take, get_or-drop, length-take-le}
use borrow.Author.Tests.{ltb-true, lt-ltb, eqb-true, eq-eqb}
use Rattle.lists.specs.Lists.{any, ascending}
use Rattle.lists.proofs.Tests.{iff, fails, and_l, and_r, and_both}
use Rattle.lists.proofs.Ascending.{ascending-drop, ascending-part}
use Rattle.search.specs.Inner.Search.{below, first_from}
use Rattle.search.proofs.Below.{below-le, below-past, below-upto, any_below}

-- From the list's start on it is how many words are below x.
pub first-below : (s : List ℕ) (x : ℕ) → below x s ≡ first_from s 0 x
unfolding first_from
first-below s x = sym (zero-add (below x s))

-- It is an index from `from` on, or the length.
pub first-from : (s : List ℕ) (from x : ℕ) → from ≤ first_from s from x
unfolding first_from
first-from s from x = omega arith

pub first-length : (s : List ℕ) (from x : ℕ) → from ≤ length s → first_from s from x ≤ length s
unfolding first_from
first-length s from x h = omega (arith, below-le x (drop from s), length-drop from s)

pub first-within : (s : List ℕ) (from x : ℕ) {r : ℕ} → r ≡ first_from s from x → from ≤ length s → (from ≤ r) × (r ≤ length s)
first-within s from x e h = omega (arith, first-from s from x, first-length s from x h)

-- Words and tests, counted from `from`.
get_or-from : (s : List ℕ) (from i : ℕ) → from ≤ i → get_or (drop from s) (i - from) 0 ≡ get_or s i 0
get_or-from s from i h = rw get_or-drop (ap (λ (k : ℕ). get_or s k 0) (add-sub_of_le h))

ltb-shift : (k m n : ℕ) → k ≤ n → ltb m (n - k) ≡ ltb (k + m) n
ltb-shift k m n h =
    iff (ltb m (n - k)) (ltb (k + m) n)
    (λ e. lt-ltb (k + m) n (omega (arith, ltb-true m (n - k) e))) (λ e. lt-ltb m (n - k) (omega (arith, ltb-true (k + m) n e)))

module _ (s : List ℕ) (up : ascending s ≡ true) where
  -- A word below x is before it, and a word that is not below x is not.
  pub below-first : (from x i : ℕ) → from ≤ i → i < length s → get_or s i 0 < x → i < first_from s from x
  unfolding first_from
  below-first from x i h l p =
      omega (arith, below-past x (drop from s) (i - from) (ascending-drop from s up) (omega (arith, length-drop from s)) (rw get_or-from p))

  pub above-first : (from x i : ℕ) → from ≤ i → i < length s → x ≤ get_or s i 0 → first_from s from x ≤ i
  unfolding first_from
  above-first from x i h l p =
      omega (arith, below-upto x (drop from s) (i - from) (ascending-drop from s up) (omega (arith, length-drop from s)) (rw get_or-from p))

  -- Every word before it, from `from` on, is below x, and every word from it on is not.
  pub first_below : (from x i : ℕ) → from ≤ length s → from ≤ i → i < first_from s from x → get_or s i 0 < x
  first_below from x i h l p =
      let long : first_from s from x ≤ length s = first-length s from x h in
      let f : ¬ (x ≤ get_or s i 0) = λ q. omega (arith, above-first from x i l (omega arith) q) in
      omega arith

  pub first_above : (from x i : ℕ) → first_from s from x ≤ i → i < length s → x ≤ get_or s i 0
  first_above from x i h l =
      let f : ¬ (get_or s i 0 < x) = λ q. omega (arith, below-first from x i (omega (arith, first-from s from x)) l q) in
      omega arith

  -- No other index is such.
  pub first-is : (from x r : ℕ) → from ≤ r → r ≤ length s → ((i : ℕ) → from ≤ i → i < r → get_or s i 0 < x) → (r < length s → x ≤ get_or s r 0)
      → first_from s from x ≡ r
  first-is from x r h l before after =
      let long : first_from s from x ≤ length s = first-length s from x (omega arith) in
      let low : ¬ (first_from s from x < r) =
      λ q. omega (arith, before (first_from s from x) (first-from s from x) q, first_above from x (first_from s from x) (omega arith) (omega arith)) in
      let high : ¬ (r < first_from s from x) = λ q. omega (arith, after (omega arith), first_below from x r (omega arith) h q) in
      omega arith

  -- From an index that is not past it, it is the same.
  pub first_on : (from to x : ℕ) → from ≤ to → to ≤ first_from s from x → from ≤ length s → first_from s to x ≡ first_from s from x
  first_on from to x h l m =
      first-is to x (first_from s from x) l (first-length s from x m)
      (λ i p q. first_below from x i m (omega arith) q) (λ q. first_above from x (first_from s from x) (omega arith) q)

  -- A search for y, not below x, ends no earlier than one for x, and may start where that one ended.
  pub first-mono : (from x y : ℕ) → from ≤ length s → x ≤ y → first_from s from x ≤ first_from s from y
  first-mono from x y h l =
      let long : first_from s from x ≤ length s = first-length s from x h in
      let f : ¬ (first_from s from y < first_from s from x) =
      λ q.
      omega (
        arith,
        first_below from x (first_from s from y) h (first-from s from y) q,
        first_above from y (first_from s from y) (omega arith) (omega arith),
      ) in
      omega arith

  pub first-move : (from x y : ℕ) → from ≤ length s → x ≤ y → first_from s (first_from s from x) y ≡ first_from s from y
  first-move from x y h l = first_on from (first_from s from x) y (first-from s from x) (first-mono from x y h l) h

  -- A word equal to x stands there, if it stands anywhere from `from` on.
  pub first_any : (from x : ℕ) → from ≤ length s → any (eqb x) (drop from s) ≡ (ltb (first_from s from x) (length s) && eqb (get_or s (first_from s from x) 0) x)
  unfolding first_from
  first_any from x h =
      any_below x (drop from s) (ascending-drop from s up)
      ∙ ap₂ (λ (a : Bool) (w : ℕ). a && eqb w x)
      (ap (ltb (below x (drop from s))) (length-drop from s) ∙ ltb-shift from (below x (drop from s)) (length s) h)
      (get_or-drop from s (below x (drop from s)) 0)

  pub first_found : (from x : ℕ) {r : ℕ} → r ≡ first_from s from x → r < length s → get_or s r 0 ≡ x → any (eqb x) (drop from s) ≡ true
  first_found from x {r} e l i =
      let at : (ltb r (length s) && eqb (get_or s r 0) x) ≡ true = and_both _ _ (lt-ltb r (length s) l) (eq-eqb (get_or s r 0) x i) in
      first_any from x (omega (arith, first-from s from x)) ∙ (rw e at at)

  pub first_absent : (from x : ℕ) {r : ℕ} → r ≡ first_from s from x → from ≤ length s → (r < length s → get_or s r 0 ≡ x → ⊥) → any (eqb x) (drop from s) ≡ false
  first_absent from x {r} e h f =
      fails (any (eqb x) (drop from s))
      (λ i.
      let at : (ltb r (length s) && eqb (get_or s r 0) x) ≡ true = rw e (sym (first_any from x h) ∙ i) in
      f (ltb-true r (length s) (and_l (ltb r (length s)) (eqb (get_or s r 0) x) at)) (eqb-true (get_or s r 0) x (and_r (ltb r (length s)) (eqb (get_or s r 0) x) at)))

-- In a part that does not end before it, it is the same.
pub first_part : (s : List ℕ) → ascending s ≡ true → (from n x : ℕ) → from + n ≤ length s → first_from s from x ≤ from + n
    → from + first_from (take n (drop from s)) 0 x ≡ first_from s from x
first_part s up from n x h l =
    let low : from ≤ first_from s from x = first-from s from x in
    let size : length (take n (drop from s)) ≡ n = length-take-le n (drop from s) (omega (arith, length-drop from s)) in
    let is : first_from (take n (drop from s)) 0 x ≡ first_from s from x - from =
    first-is (take n (drop from s)) (ascending-part from n s up) 0 x (first_from s from x - from)
    zero-le (omega arith)
    (λ i p q. omega (arith, word i (omega arith), first_below s up from x (from + i) (omega arith) (omega arith) (omega arith)))
    (λ q. omega (arith, word (first_from s from x - from) (omega arith), first_above s up from x (from + (first_from s from x - from)) (omega arith) (omega arith))) in
    omega arith
  where
    word : (i : ℕ) → i < n → get_or (take n (drop from s)) i 0 ≡ get_or s (from + i) 0
    word i q = rw (get_or-take, get_or-drop)
