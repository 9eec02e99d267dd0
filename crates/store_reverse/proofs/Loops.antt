-- The loops of the store check: a test of the whole list is the test of what is left of it, and fails where one word fails.
-- Each invariant has the laws of its start, its step, a failed test and its end. Assumes nothing.
use mathlib.Core.Path.{◌≡◌, refl, sym, ◌∙◌, ap, fun_ext}
use mathlib.Core.Bool.{Bool, true, false, ◌&&◌}
use mathlib.Core.List.{List, [], ◌∷◌}
use Prim.Native.Nat.{ℕ, ◌+◌, ◌%◌, ◌≤◌, ◌<◌, zero-le}
use native.Mathlib.Numerals.{add-one}
use native.Mathlib.Omega.{arith}
use lib.Dec.{eqb, ltb}
use lib.ListN.{length, get_or, drop, drop_of_length-le}
use lib.Seq.{drop-cons}
use borrow.Author.Tests.{eq-eqb, ne_eqb, ltb-true, le-leb}
use Rattle.lists.specs.Lists.{range, all, any, ascends_from, ascending}
use Rattle.lists.proofs.Tests.{clash, fails, and_l, and_r, and_both, eqb-sym}
use Rattle.lists.proofs.All.{all-at, all-and, all_append}
use Rattle.std.specs.Prelude.{Some, None}
use Rattle.search.specs.Inner.Search.{place_of}
use Rattle.search.proofs.Places.{place_none, place-some}
use Rattle.adjacency.specs.Inner.Side.{list_on}
use Rattle.adjacency.specs.Inner.Portion.{member}
use Rattle.store_reverse.specs.Inner.Check.{rises_to, offsets_fit, entry_fits, list_fits, side_fits, list_reversed, side_reversed}

-- ---- tests

-- The place of a word tells whether it is a member.
module _ (x : ℕ) (s : List ℕ) where
  is_member : member x s ≡ any (eqb x) s
  is_member = ap (λ (t : ℕ → Bool). any t s) (sym (fun_ext (eqb-sym x)))

  module _ (up : ascending s ≡ true) where
    pub unplaced : None ≡ place_of s x → false ≡ member x s
    unplaced e = sym (is_member ∙ place_none s x up e)

    pub placed : {r : ℕ} → Some r ≡ place_of s x → true ≡ member x s
    placed e = sym (is_member ∙ (place-some s x up e).0)

-- A test fails where one fails that it needs.
pub fails-with : (a b : Bool) {r : Bool} → r ≡ a → r ≡ false → (b ≡ true → a ≡ true) → false ≡ b
fails-with a b e z f = sym (fails b (λ t. clash (f t) (sym e ∙ z)))

-- ---- a word after the other

-- What is left from index i on, where there is a word.
rest : (s : List ℕ) {i : ℕ} → i < length s → drop i s ≡ get_or s i 0 ∷ drop (i + 1) s
rest s {i} h = rw add-one (drop-cons s i 0 h)

pub record AllFrom (p : ℕ → Bool) (s : List ℕ) (i : ℕ) : Type 0 where
  pub inside : i ≤ length s
  pub left : all p s ≡ all p (drop i s)

pub all_start : {p : ℕ → Bool} {s : List ℕ} → AllFrom p s 0
all_start = record { inside = zero-le; left = refl }

pub all-next : {p : ℕ → Bool} {s : List ℕ} {i : ℕ} → AllFrom p s i → i < length s → p (get_or s i 0) ≡ true → AllFrom p s (i + 1)
unfolding all
all-next {p} {s} {i} a h t = record { inside = omega arith; left = a.left ∙ ap (all p) (rest s h) ∙ ap (λ (b : Bool). b && all p (drop (i + 1) s)) t }

pub all-stop : {p : ℕ → Bool} {s : List ℕ} {i : ℕ} → AllFrom p s i → i < length s → p (get_or s i 0) ≡ false → false ≡ all p s
unfolding all
all-stop {p} {s} {i} a h t = sym (a.left ∙ ap (all p) (rest s h) ∙ ap (λ (b : Bool). b && all p (drop (i + 1) s)) t)

pub all_end : {p : ℕ → Bool} {s : List ℕ} {i : ℕ} → AllFrom p s i → length s ≤ i → true ≡ all p s
unfolding all
all_end {p} {s} a h = sym (a.left ∙ ap (all p) (drop_of_length-le s h))

-- ---- a number after the other

pub record AllBelow (p : ℕ → Bool) (n v : ℕ) : Type 0 where
  pub inside : v ≤ n
  pub passed : all p (range v) ≡ true

pub below-start : {p : ℕ → Bool} {n : ℕ} → AllBelow p n 0
unfolding all range
below-start = record { inside = zero-le; passed = refl }

pub below_next : {p : ℕ → Bool} {n v : ℕ} → AllBelow p n v → v < n → {r : Bool} → r ≡ p v → r ≡ true → AllBelow p n (v + 1)
unfolding all range
below_next {p} {n} {v} a h e z =
    record {
      inside = omega arith;
      passed =
          ap (λ (k : ℕ). all p (range k)) (add-one v) ∙ all_append p (range v) (v ∷ [])
          ∙ and_both (all p (range v)) (p v && true) a.passed (and_both (p v) true (sym e ∙ z) refl);
    }

pub below-stop : {p : ℕ → Bool} {n v : ℕ} → AllBelow p n v → v < n → {r : Bool} → r ≡ p v → r ≡ false → false ≡ all p (range n)
below-stop {p} {n} {v} a h e z = fails-with (p v) (all p (range n)) e z (λ t. all-at p n t v h)

pub below_end : {p : ℕ → Bool} {n v : ℕ} → AllBelow p n v → n ≤ v → true ≡ all p (range n)
below_end {p} {n} {v} a h = sym (ap (λ (k : ℕ). all p (range k)) (let e : n ≡ v = omega arith in e) ∙ a.passed)

-- The tests of a side's lists, both at once.
pub lists-both : (store : List ℕ) (n side other : ℕ)
    → all (λ (v : ℕ). list_fits n (list_on store n side v) && list_reversed store n other v (list_on store n side v)) (range n)
    ≡ (side_fits store n side && side_reversed store n side other)
unfolding side_fits side_reversed
lists-both store n side other =
    all-and (λ (v : ℕ). list_fits n (list_on store n side v)) (λ (v : ℕ). list_reversed store n other v (list_on store n side v)) (range n)

-- ---- offsets

pub record OffsetsFrom (m : ℕ) (s : List ℕ) (last i : ℕ) : Type 0 where
  pub inside : i ≤ length s
  pub left : offsets_fit m s ≡ rises_to m last (drop i s)

pub offsets-first : (m : ℕ) (s : List ℕ) → 0 < length s → (get_or s 0 0 ≡ 0 → ⊥) → false ≡ offsets_fit m s
unfolding offsets_fit
offsets-first m [] h z = refl
offsets-first m (x ∷ s) h z = sym (ap (λ (b : Bool). b && rises_to m x s) (ne_eqb x 0 z))

pub offsets-start : (m : ℕ) (s : List ℕ) → 0 < length s → get_or s 0 0 ≡ 0 → OffsetsFrom m s 0 1
unfolding offsets_fit
offsets-start m [] h z = absurd (omega arith)
offsets-start m (x ∷ s) h z =
    record { inside = h; left = ap (λ (b : Bool). b && rises_to m x s) (eq-eqb x 0 z) ∙ ap (λ (k : ℕ). rises_to m k s) z }

pub offsets-next : {m : ℕ} {s : List ℕ} {last i : ℕ} → OffsetsFrom m s last i → i < length s → last ≤ get_or s i 0 → OffsetsFrom m s (get_or s i 0) (i + 1)
unfolding rises_to
offsets-next {m} {s} {last} {i} a h l =
    record {
      inside = omega arith;
      left =
          a.left ∙ ap (rises_to m last) (rest s h)
          ∙ ap (λ (b : Bool). b && rises_to m (get_or s i 0) (drop (i + 1) s)) (le-leb last (get_or s i 0) l);
    }

offsets-last : {m : ℕ} {s : List ℕ} {last i : ℕ} → OffsetsFrom m s last i → length s ≤ i → offsets_fit m s ≡ eqb last m
unfolding rises_to
offsets-last {m} {s} {last} a h = a.left ∙ ap (rises_to m last) (drop_of_length-le s h)

pub offsets-short : {m : ℕ} {s : List ℕ} {last i : ℕ} → OffsetsFrom m s last i → length s ≤ i → (last ≡ m → ⊥) → false ≡ offsets_fit m s
offsets-short {m} {s} {last} a h z = sym (offsets-last a h ∙ ne_eqb last m z)

pub offsets-end : {m : ℕ} {s : List ℕ} {last i : ℕ} → OffsetsFrom m s last i → length s ≤ i → last ≡ m → true ≡ offsets_fit m s
offsets-end {m} {s} {last} a h z = sym (offsets-last a h ∙ eq-eqb last m z)

-- ---- the entries of a vertex

abbrev fits : ℕ → ℕ → Bool
fits n k = ltb k 16777216 && ltb (k % 65536) n

-- An entry that passes.
pub entry_in_lem : (n last k : ℕ) {r : Bool} → r ≡ entry_fits n last k → r ≡ true → (k < 16777216) × (k % 65536 < n)
entry_in_lem n last k e z =
    let t : fits n k ≡ true = and_r (ltb last k) (fits n k) (sym e ∙ z) in
    (ltb-true k 16777216 (and_l (ltb k 16777216) (ltb (k % 65536) n) t), ltb-true (k % 65536) n (and_r (ltb k 16777216) (ltb (k % 65536) n) t))

pub record ListFrom (n : ℕ) (s : List ℕ) (last i : ℕ) : Type 0 where
  pub inside : i ≤ length s
  pub left : list_fits n s ≡ (ascends_from last (drop i s) && all (fits n) (drop i s))

pub list-start : {n : ℕ} {s : List ℕ} → ListFrom n s 65535 0
unfolding list_fits
list-start = record { inside = zero-le; left = refl }

module _ {n : ℕ} {s : List ℕ} {last i : ℕ} (a : ListFrom n s last i) (h : i < length s) where
  -- The next entry: whether it is above the last one, and fits.
  list_left : list_fits n s ≡ ((ltb last (get_or s i 0) && ascends_from (get_or s i 0) (drop (i + 1) s)) && (fits n (get_or s i 0) && all (fits n) (drop (i + 1) s)))
  unfolding ascends_from all
  list_left = a.left ∙ ap (λ (l : List ℕ). ascends_from last l && all (fits n) l) (rest s h)

  module _ {r : Bool} (e : r ≡ entry_fits n last (get_or s i 0)) where
    pub list-next : r ≡ true → ListFrom n s (get_or s i 0) (i + 1)
    list-next z = record { inside = further; left = list_left ∙ rw (and_l (ltb last (get_or s i 0)) _ t, and_r (ltb last (get_or s i 0)) _ t) }
      where
        t : entry_fits n last (get_or s i 0) ≡ true
        t = sym e ∙ z

        further : i + 1 ≤ length s
        further = omega arith

    pub list-stop : r ≡ false → false ≡ list_fits n s
    list-stop z = fails-with (entry_fits n last (get_or s i 0)) (list_fits n s) e z (λ t. parts (sym list_left ∙ t))
      where
        parts :
            ((ltb last (get_or s i 0) && ascends_from (get_or s i 0) (drop (i + 1) s)) && (fits n (get_or s i 0) && all (fits n) (drop (i + 1) s))) ≡ true
            → entry_fits n last (get_or s i 0) ≡ true
        parts t =
            let l : (ltb last (get_or s i 0) && ascends_from (get_or s i 0) (drop (i + 1) s)) ≡ true = and_l _ (fits n (get_or s i 0) && all (fits n) (drop (i + 1) s)) t in
            let f : (fits n (get_or s i 0) && all (fits n) (drop (i + 1) s)) ≡ true = and_r (ltb last (get_or s i 0) && ascends_from (get_or s i 0) (drop (i + 1) s)) _ t in
            and_both (ltb last (get_or s i 0)) (fits n (get_or s i 0))
            (and_l (ltb last (get_or s i 0)) (ascends_from (get_or s i 0) (drop (i + 1) s)) l) (and_l (fits n (get_or s i 0)) (all (fits n) (drop (i + 1) s)) f)

pub list-end : {n : ℕ} {s : List ℕ} {last i : ℕ} → ListFrom n s last i → length s ≤ i → true ≡ list_fits n s
unfolding ascends_from all
list-end {n} {s} {last} a h = sym (a.left ∙ ap (λ (l : List ℕ). ascends_from last l && all (fits n) l) (drop_of_length-le s h))
