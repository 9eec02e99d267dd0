-- What it says of a list that it fits, entry by entry; and which faults of an entry are faults of the sides. Assumes nothing.
use mathlib.Core.Path.{◌≡◌, refl, sym, ◌∙◌, ap}
use mathlib.Core.Bool.{Bool, true, false, ◌&&◌}
use mathlib.Core.List.{List, [], ◌∷◌}
use Prim.Native.Nat.{ℕ, zero, suc, ◌-◌, ◌%◌, ◌<◌}
use native.Mathlib.Omega.{arith}
use lib.Dec.{eqb, ltb}
use lib.ListN.{length, get_or}
use borrow.Author.Tests.{lt-ltb, eq-eqb, ne_eqb}
use Rattle.lists.specs.Lists.{range, all, any, ascends_from, ascending}
use Rattle.lists.proofs.Tests.{fails, clash, and_l, and_r, and_both, or_intro_l, or_intro_r, or-false}
use Rattle.lists.proofs.All.{all-at, all_get_d, get_or-all}
use Rattle.lists.proofs.Sort.{ascending-at, at-ascending}
use Rattle.adjacency.specs.Inner.Side.{list_on}
use Rattle.adjacency.specs.Inner.Portion.{member}
use Rattle.store_reverse.specs.Inner.Check.{reverse, entry_fits, list_fits, side_fits, list_reversed, side_reversed}
use Rattle.store_step.specs.Inner.Walk.{before, sides_agree, Refutes}

-- ---- a list

before-cons : (s : List ℕ) (i : ℕ) → before s i ≡ get_or (65535 ∷ s) i 0
unfolding before
before-cons s zero = refl
before-cons s (suc i) = refl

pub before-first : (s : List ℕ) (i : ℕ) → i ≡ 0 → 65535 ≡ before s i
unfolding before
before-first s zero e = refl
before-first s (suc i) e = absurd (omega arith)

pub before-later : (s : List ℕ) (i : ℕ) → (i ≡ 0 → ⊥) → get_or s (i - 1) 0 ≡ before s i
unfolding before
before-later s zero h = absurd (h refl)
before-later s (suc i) h = ap (λ (k : ℕ). get_or s k 0) (let e : suc i - 1 ≡ i = omega arith in e)

abbrev in_range : ℕ → ℕ → Bool
in_range n k = ltb k 16777216 && ltb (k % 65536) n

module _ (n : ℕ) (s : List ℕ) where
  -- Each entry of a list that fits is above the one before it, and in its range.
  pub fits-at : list_fits n s ≡ true → (i : ℕ) → i < length s → entry_fits n (before s i) (get_or s i 0) ≡ true
  unfolding list_fits ascending
  fits-at e i l =
      let a : get_or (65535 ∷ s) i 0 < get_or s i 0 = ascending-at (65535 ∷ s) (and_l (ascends_from 65535 s) (all (in_range n) s) e) i (omega arith) in
      and_both (ltb (before s i) (get_or s i 0)) (in_range n (get_or s i 0))
      (lt-ltb (before s i) (get_or s i 0) (omega (arith, before-cons s i)))
      (all_get_d (in_range n) s i 0 l (and_r (ascends_from 65535 s) (all (in_range n) s) e))

  pub at-fits : ((i : ℕ) → i < length s → (before s i < get_or s i 0) × (get_or s i 0 < 16777216) × (get_or s i 0 % 65536 < n)) → list_fits n s ≡ true
  unfolding list_fits ascending
  at-fits h =
      and_both (ascends_from 65535 s) (all (in_range n) s)
      (at-ascending (65535 ∷ s) (λ i l. let k : i < length s = omega arith in omega (arith, before-cons s i, (h i k).0)))
      (get_or-all (in_range n) s 0
      (λ i l. and_both (ltb (get_or s i 0) 16777216) (ltb (get_or s i 0 % 65536) n) (lt-ltb (get_or s i 0) 16777216 (h i l).1) (lt-ltb (get_or s i 0 % 65536) n (h i l).2)))

-- A word that stands in a list is a member.
pub member-at : (x : ℕ) (s : List ℕ) (i : ℕ) → i < length s → get_or s i 0 ≡ x → member x s ≡ true
unfolding any
member-at x [] i l e = absurd (omega arith)
member-at x (y ∷ s) zero l e = or_intro_l (eqb y x) (member x s) (eq-eqb y x e)
member-at x (y ∷ s) (suc i) l e = or_intro_r (eqb y x) (member x s) (member-at x s i (omega arith) e)

pub none-member : (x : ℕ) (s : List ℕ) → ((i : ℕ) → i < length s → get_or s i 0 ≡ x → ⊥) → member x s ≡ false
unfolding any
none-member x [] h = refl
none-member x (y ∷ s) h = or-false (eqb y x) (member x s) (ne_eqb y x (h 0 (omega arith))) (none-member x s (λ i l. h (suc i) (omega arith)))

-- ---- an entry of a list

module _ (store : List ℕ) (n other v : ℕ) (s : List ℕ) (i : ℕ) (l : i < length s) where
  -- It is out of order or range.
  pub entry-breaks : entry_fits n (before s i) (get_or s i 0) ≡ false → (list_fits n s && list_reversed store n other v s) ≡ false
  entry-breaks e =
      fails (list_fits n s && list_reversed store n other v s)
      (λ t. clash (fits-at n s (and_l (list_fits n s) (list_reversed store n other v s) t) i l) e)

  -- It lacks its reverse.
  pub reverse-lacks : member (reverse v (get_or s i 0)) (list_on store n other (get_or s i 0 % 65536)) ≡ false
      → (list_fits n s && list_reversed store n other v s) ≡ false
  unfolding list_reversed
  reverse-lacks e =
      fails (list_fits n s && list_reversed store n other v s)
      (λ t.
      clash
      (all_get_d (λ (k : ℕ). member (reverse v k) (list_on store n other (k % 65536))) s i 0 l (and_r (list_fits n s) (list_reversed store n other v s) t)) e)

  -- The answers to the tests of both.
  pub entry-refutes : {last : ℕ} → last ≡ before s i → {r : Bool} → r ≡ entry_fits n last (get_or s i 0) → r ≡ false
      → Refutes 19 (list_fits n s && list_reversed store n other v s)
  entry-refutes {last} q e h one =
      (refl, entry-breaks (ap (λ (k : ℕ). entry_fits n k (get_or s i 0)) (sym q) ∙ sym e ∙ h))

  pub reverse-refutes : {list : List ℕ} → list ≡ list_on store n other (get_or s i 0 % 65536) → {r : Bool}
      → r ≡ member (reverse v (get_or s i 0)) list → r ≡ false → Refutes 19 (list_fits n s && list_reversed store n other v s)
  reverse-refutes q e h one = (refl, reverse-lacks (ap (member (reverse v (get_or s i 0))) (sym q) ∙ sym e ∙ h))

-- ---- both sides

module _ (store : List ℕ) (n side other : ℕ) where
  -- A list that does not fit, or is not reversed.
  pub list-breaks : (v : ℕ) → v < n → (list_fits n (list_on store n side v) && list_reversed store n other v (list_on store n side v)) ≡ false
      → sides_agree store n side other ≡ false
  unfolding sides_agree side_fits side_reversed
  list-breaks v l e = fails (sides_agree store n side other) go
    where
      fit : ℕ → Bool
      fit u = list_fits n (list_on store n side u)

      reversed : ℕ → Bool
      reversed u = list_reversed store n other u (list_on store n side u)

      go : sides_agree store n side other ≡ true → ⊥
      go t =
          clash
          (and_both (fit v) (reversed v) (all-at fit n (and_l (all fit (range n)) _ t) v l)
          (all-at reversed n (and_l (all reversed (range n)) _ (and_r (all fit (range n)) _ t)) v l)) e

  pub agree : side_fits store n side ≡ true → side_reversed store n side other ≡ true → side_fits store n other ≡ true → sides_agree store n side other ≡ true
  unfolding sides_agree
  agree a b c = and_both (side_fits store n side) (side_reversed store n side other && side_fits store n other) a (and_both (side_reversed store n side other) (side_fits store n other) b c)

  pub agreed : sides_agree store n side other ≡ true → (side_fits store n side ≡ true) × (side_reversed store n side other ≡ true) × (side_fits store n other ≡ true)
  unfolding sides_agree
  agreed t =
      let u : (side_reversed store n side other && side_fits store n other) ≡ true = and_r (side_fits store n side) (side_reversed store n side other && side_fits store n other) t in (
        and_l (side_fits store n side) (side_reversed store n side other && side_fits store n other) t,
        and_l (side_reversed store n side other) (side_fits store n other) u,
        and_r (side_reversed store n side other) (side_fits store n other) u,
      )
