-- The entries of one label in an ascending list: a search cuts the words below a number from the others, and two of them cut
-- out what a label covers. Assumes nothing.
use mathlib.Core.Path.{◌≡◌, refl, sym, ◌∙◌, ap}
use mathlib.Core.Bool.{Bool, true, not, ◌&&◌}
use mathlib.Core.List.{List, [], ◌∷◌, ◌++◌, map-id}
use Prim.Native.Nat.{ℕ, zero, suc, ◌+◌, ◌-◌, ◌*◌, ◌/◌, ◌≤◌, ◌<◌, zero-le}
use native.Mathlib.Nat.{zero-add}
use native.Mathlib.Omega.{arith}
use lib.Dec.{eqb, ltb}
use lib.ListN.{length, get_or, take, drop, length-drop}
use lib.Seq.{take_at, drop_at, take_all}
use borrow.Author.Tests.{eqb-true, eq-eqb, ne_eqb, ltb-true, ltb-false, lt-ltb, le-ltb}
use Rattle.lists.specs.Lists.{keep, ascending}
use Rattle.lists.proofs.Tests.{iff, and_l, and_r, and_both, not-true}
use Rattle.lists.proofs.All.{keep_all, all_true, keep-keep, keep-ext}
use Rattle.lists.proofs.Count.{length-keep}
use Rattle.lists.proofs.Cut.{cut}
use Rattle.graph.specs.Graph.{covers}
use Rattle.search.specs.Inner.Search.{below, first_from}
use Rattle.search.proofs.Laws.{first-length, below-first, above-first}

pub first_fits : (s : List ℕ) (x : ℕ) {r : ℕ} → r ≡ first_from s 0 x → r ≤ length s
first_fits s x e = rw e (first-length s 0 x zero-le)

-- Where a search of an ascending list ends, the words below x end and the others begin.
module _ (s : List ℕ) (up : ascending s ≡ true) (x r : ℕ) (ends : r ≡ first_from s 0 x) where
  split : s ≡ keep (λ (k : ℕ). ltb k x) s ++ keep (λ (k : ℕ). not (ltb k x)) s
  split = cut (λ (k : ℕ). k) s x (ap ascending (map-id s) ∙ up)

  size : length (keep (λ (k : ℕ). ltb k x) s) ≡ r
  unfolding first_from below
  size = length-keep (λ (k : ℕ). ltb k x) s ∙ sym (zero-add (below x s)) ∙ sym ends

  pub take_below : take r s ≡ keep (λ (k : ℕ). ltb k x) s
  take_below = ap (take r) split ∙ take_at (keep (λ (k : ℕ). ltb k x) s) (keep (λ (k : ℕ). not (ltb k x)) s) r size

  pub drop-below : take (length s - r) (drop r s) ≡ keep (λ (k : ℕ). not (ltb k x)) s
  drop-below =
      take_all (length s - r) (drop r s) (rw length-drop (omega arith))
      ∙ ap (drop r) split ∙ drop_at (keep (λ (k : ℕ). ltb k x) s) (keep (λ (k : ℕ). not (ltb k x)) s) r size

-- Where the last word is below x all are, and where the first is not none is. Of an empty list both are so.
module _ (s : List ℕ) (up : ascending s ≡ true) (x : ℕ) where
  pub all-below : 0 < length s → get_or s (length s - 1) 0 < x → s ≡ keep (λ (k : ℕ). ltb k x) s
  all-below h l =
      sym (take_all (first_from s 0 x) s (omega (arith, below-first s up 0 x (length s - 1) zero-le (omega arith) l)))
      ∙ take_below s up x (first_from s 0 x) refl

  pub none_below : 0 < length s → x ≤ get_or s 0 0 → s ≡ keep (λ (k : ℕ). not (ltb k x)) s
  none_below h l =
      sym (take_all (length s - 0) s (omega arith)) ∙ drop-below s up x 0 (omega (arith, above-first s up 0 x 0 zero-le h l))

pub keep-empty : (p : ℕ → Bool) (s : List ℕ) → length s ≡ 0 → s ≡ keep p s
unfolding keep
keep-empty p [] h = refl
keep-empty p (k ∷ s) h = absurd (omega arith)

-- Label 0 covers every entry.
pub any-covered : (s : List ℕ) → s ≡ keep (λ (k : ℕ). covers 0 (k / 65536)) s
unfolding covers
any-covered s = sym (keep_all (λ (k : ℕ). true) s (all_true s))

-- Another label covers the entries from its first to the next label's.
covers-span : (l k : ℕ) → 0 < l → (not (ltb k (l * 65536)) && ltb k (l * 65536 + 65536)) ≡ covers l (k / 65536)
unfolding covers
covers-span l k some =
    rw (ne_eqb l 0 (omega arith))
    (iff (not (ltb k (l * 65536)) && ltb k (l * 65536 + 65536)) (eqb (k / 65536) l)
    (λ t.
    let a : l * 65536 ≤ k = ltb-false k (l * 65536) (not-true (ltb k (l * 65536)) (and_l (not (ltb k (l * 65536))) (ltb k (l * 65536 + 65536)) t)) in
    let b : k < l * 65536 + 65536 = ltb-true k (l * 65536 + 65536) (and_r (not (ltb k (l * 65536))) (ltb k (l * 65536 + 65536)) t) in
    eq-eqb (k / 65536) l (omega arith))
    (λ t.
    let i : k / 65536 ≡ l = eqb-true (k / 65536) l t in
    and_both (not (ltb k (l * 65536))) (ltb k (l * 65536 + 65536))
    (ap not (le-ltb k (l * 65536) (omega arith))) (lt-ltb k (l * 65536 + 65536) (omega arith))))

pub cut-covers : (l : ℕ) (s : List ℕ) → 0 < l
    → keep (λ (k : ℕ). ltb k (l * 65536 + 65536)) (keep (λ (k : ℕ). not (ltb k (l * 65536))) s) ≡ keep (λ (k : ℕ). covers l (k / 65536)) s
cut-covers l s some =
    keep-keep (λ (k : ℕ). ltb k (l * 65536 + 65536)) (λ (k : ℕ). not (ltb k (l * 65536))) s
    ∙ keep-ext _ (λ (k : ℕ). covers l (k / 65536)) s (λ k. covers-span l k some)

-- The whole list is covered where its first word and its last one are.
pub all-covered : (l : ℕ) (s : List ℕ) → ascending s ≡ true → 0 < length s
    → l * 65536 ≤ get_or s 0 0 → get_or s (length s - 1) 0 < l * 65536 + 65536 → s ≡ keep (λ (k : ℕ). covers l (k / 65536)) s
all-covered zero s up h a b = any-covered s
all-covered (suc l) s up h a b =
    all-below s up (suc l * 65536 + 65536) h b
    ∙ ap (keep (λ (k : ℕ). ltb k (suc l * 65536 + 65536))) (none_below s up (suc l * 65536) h a)
    ∙ cut-covers (suc l) s (omega arith)
