-- The words below x of an ascending list come first. Assumes nothing.
use mathlib.Core.Path.{◌≡◌, refl, sym, ◌∙◌, ap}
use mathlib.Core.Bool.{Bool, true, false, ◌&&◌, or-false}
use mathlib.Core.List.{List, [], ◌∷◌}
use Prim.Native.Nat.{ℕ, zero, suc, ◌+◌, ◌≤◌, ◌<◌, zero-le}
use native.Mathlib.Nat.{zero-add}
use native.Mathlib.Omega.{arith}
use lib.Dec.{eqb, leb, ltb, leb-suc-suc}
use lib.ListN.{length, get_or, take, drop}
use lib.Seq.{take-nil, drop-nil}
use borrow.Author.Tests.{ltb-true, ltb-false, lt-ltb, le-ltb, le-leb, lt-leb, ne_eqb}
use Rattle.std.proofs.lemmas.List.{take_more}
use Rattle.lists.specs.Lists.{bit, any, keep, count_if, ascending}
use Rattle.lists.proofs.Tests.{eqb-sym}
use Rattle.lists.proofs.All.{all_get_d, all-follows, keep_all, keep-none}
use Rattle.lists.proofs.Count.{count-le, count-passes, count-snoc}
use Rattle.lists.proofs.Sort.{ascends-tail}
use Rattle.lists.proofs.Ascending.{ascending-above, ascending-rest}
use Rattle.lists.proofs.Any.{any-fails}
use Rattle.search.specs.Inner.Search.{below}

pub below-le : (x : ℕ) (s : List ℕ) → below x s ≤ length s
unfolding below
below-le x s = count-le (λ (w : ℕ). ltb w x) s

-- Words counted one after the other.
pub below_none : (x : ℕ) (s : List ℕ) → 0 ≡ below x (take 0 s)
unfolding below count_if
below_none x s = refl

pub below-word : (x : ℕ) (s : List ℕ) {i n a : ℕ} → i < length s → n ≡ below x (take i s) → a ≡ bit (ltb (get_or s i 0) x) → n + a ≡ below x (take (i + 1) s)
unfolding below
below-word x s {i} h e f =
    rw (e, f, take_more s i 0 h) (sym (count-snoc (λ (w : ℕ). ltb w x) (take i s) (get_or s i 0)))

-- A word above x is neither below x nor x.
not-below : (x w : ℕ) → ltb x w ≡ true → ltb w x ≡ false
not-below x w h = le-ltb w x (omega (arith, ltb-true x w h))

not_equal : (x w : ℕ) → ltb x w ≡ true → eqb x w ≡ false
not_equal x w h = ne_eqb x w (λ i. omega (arith, ltb-true x w h))

-- The first word counts where it is below x. Where it is not, no word is.
below_in : (x w : ℕ) (s : List ℕ) → ltb w x ≡ true → below x (w ∷ s) ≡ suc (below x s)
unfolding below count_if
below_in x w s h = rw h (omega arith)

below_out : (x w : ℕ) (s : List ℕ) → ascending (w ∷ s) ≡ true → ltb w x ≡ false → below x (w ∷ s) ≡ 0
unfolding below count_if
below_out x w s e h =
    rw h (zero-add (count_if (λ (v : ℕ). ltb v x) s) ∙ count-passes (λ (v : ℕ). ltb v x) (ltb x) s (ascending-rest x w s e h) (not-below x))

-- A word below x is one of the first that are.
pub below-past : (x : ℕ) (s : List ℕ) (i : ℕ) → ascending s ≡ true → i < length s → get_or s i 0 < x → i < below x s
below-past x [] i e h l = absurd (omega arith)
below-past x (w ∷ s) zero e h l = rw (below_in x w s (lt-ltb w x l)) (omega arith)
below-past x (w ∷ s) (suc i) e h l =
    let ih : i < below x s = below-past x s i (ascends-tail w s e) (omega arith) l in
    let up : w < get_or s i 0 = ltb-true w (get_or s i 0) (all_get_d (ltb w) s i 0 (omega arith) (ascending-above w s e)) in
    rw (below_in x w s (lt-ltb w x (omega arith))) (omega arith)

-- A word that is not below x is none of them.
pub below-upto : (x : ℕ) (s : List ℕ) (i : ℕ) → ascending s ≡ true → i < length s → x ≤ get_or s i 0 → below x s ≤ i
below-upto x [] i e h l = absurd (omega arith)
below-upto x (w ∷ s) zero e h l = omega (arith, below_out x w s e (le-ltb w x l))
below-upto x (w ∷ s) (suc i) e h l = go (ltb w x) refl (below-upto x s i (ascends-tail w s e) (omega arith) l)
  where
    go : (b : Bool) → ltb w x ≡ b → below x s ≤ i → below x (w ∷ s) ≤ suc i
    go true j ih = omega (arith, below_in x w s j)
    go false j ih = omega (arith, below_out x w s e j)

-- They are the first of the list, and the others come after them.
pub take_below : (x : ℕ) (s : List ℕ) → ascending s ≡ true → take (below x s) s ≡ keep (λ (w : ℕ). ltb w x) s
unfolding keep
take_below x [] e = take-nil (below x [])
take_below x (w ∷ s) e = go (ltb w x) refl (take_below x s (ascends-tail w s e))
  where
    go : (b : Bool) → ltb w x ≡ b → take (below x s) s ≡ keep (λ (v : ℕ). ltb v x) s
        → take (below x (w ∷ s)) (w ∷ s) ≡ keep (λ (v : ℕ). ltb v x) (w ∷ s)
    go true i ih = rw (below_in x w s i, i) (ap (λ (l : List ℕ). w ∷ l) ih)
    go false i ih = rw (below_out x w s e i, i) (sym (keep-none (λ (v : ℕ). ltb v x) (ltb x) s (ascending-rest x w s e i) (not-below x)))

pub drop-below : (x : ℕ) (s : List ℕ) → ascending s ≡ true → drop (below x s) s ≡ keep (λ (w : ℕ). leb x w) s
unfolding keep
drop-below x [] e = drop-nil (below x [])
drop-below x (w ∷ s) e = go (ltb w x) refl (drop-below x s (ascends-tail w s e))
  where
    go : (b : Bool) → ltb w x ≡ b → drop (below x s) s ≡ keep (λ (v : ℕ). leb x v) s
        → drop (below x (w ∷ s)) (w ∷ s) ≡ keep (λ (v : ℕ). leb x v) (w ∷ s)
    go true i ih = rw (below_in x w s i, lt-leb x w (ltb-true w x i)) ih
    go false i ih =
        rw (below_out x w s e i, le-leb x w (ltb-false w x i))
        (ap (λ (l : List ℕ). w ∷ l)
        (sym (keep_all (leb x) s (all-follows (ltb x) (leb x) s (ascending-rest x w s e i) (λ v l. le-leb x v (omega (arith, ltb-true x v l)))))))

-- A word equal to x stands right after them, if anywhere.
pub any_below : (x : ℕ) (s : List ℕ) → ascending s ≡ true → any (eqb x) s ≡ (ltb (below x s) (length s) && eqb (get_or s (below x s) 0) x)
unfolding any
any_below x [] e = rw (le-ltb (below x []) 0 zero-le)
any_below x (w ∷ s) e = go (ltb w x) refl (any_below x s (ascends-tail w s e))
  where
    go : (b : Bool) → ltb w x ≡ b → any (eqb x) s ≡ (ltb (below x s) (length s) && eqb (get_or s (below x s) 0) x)
        → any (eqb x) (w ∷ s) ≡ (ltb (below x (w ∷ s)) (length (w ∷ s)) && eqb (get_or (w ∷ s) (below x (w ∷ s)) 0) x)
    go true i ih = rw (below_in x w s i, ne_eqb x w (λ j. omega (arith, ltb-true w x i)), leb-suc-suc) ih
    go false i ih =
        rw (below_out x w s e i, any-fails (eqb x) (ltb x) s (ascending-rest x w s e i) (not_equal x), lt-ltb 0 (suc (length s)) (omega arith), eqb-sym x w) (or-false (eqb w x))
