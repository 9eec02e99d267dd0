-- The edges of the edited graph: since a change adds an absent edge or takes a present one, each toggles its edge. Assumes nothing.
use mathlib.Core.Path.{◌≡◌, refl, sym, ◌∙◌, ap₂}
use mathlib.Core.Bool.{Bool, true, false, cond, not, ◌&&◌, ◌||◌}
use mathlib.Core.List.{List, [], ◌∷◌, ◌++◌, map}
use Prim.Native.Nat.{ℕ, suc, ◌+◌, ◌*◌, ◌<◌}
use native.Mathlib.Omega.{arith}
use lib.Dec.{eqb, ltb}
use lib.ListN.{length}
use borrow.Author.Tests.{eqb-true, ne_eqb, ltb-true}
use Rattle.lists.specs.Lists.{bit, all, any, keep, count_if, ascending}
use Rattle.lists.proofs.Tests.{and_l, and_r, eqb-sym, clash, not-true}
use Rattle.lists.proofs.All.{all_true}
use Rattle.lists.proofs.Any.{any-fails}
use Rattle.lists.proofs.Count.{count-append, count_map, count-keep, count-sum, count-const, count_under, count-passes, count-all, all_map}
use Rattle.lists.proofs.Sort.{count-sort, ascending-once, ascending-same, sort-ascends, ascends-above, ascends-tail}
use Rattle.change_file.specs.File.{Change}
use Rattle.changes.specs.Edit.{change_key, taken, edited_keys, applies}
use Rattle.change_merge.specs.Inner.Toggle.{toggle, toggled}
use Rattle.change_merge.proofs.Toggles.{toggle-absent, toggle-present, ascending-toggled}

-- ---- what a list counts of one number

pub any-count : (p : ℕ → Bool) (xs : List ℕ) → any p xs ≡ true → 0 < count_if p xs
unfolding any count_if
any-count p [] e = clash e refl
any-count p (x ∷ xs) e = go (p x) (any-count p xs) e
  where
    go : (b : Bool) → (any p xs ≡ true → 0 < count_if p xs) → (b || any p xs) ≡ true → 0 < bit b + count_if p xs
    go true f i = omega arith
    go false f i = omega (arith, f i)

pub none-count : (p : ℕ → Bool) (xs : List ℕ) → any p xs ≡ false → count_if p xs ≡ 0
unfolding any count_if
none-count p [] e = refl
none-count p (x ∷ xs) e = go (p x) (none-count p xs) e
  where
    go : (b : Bool) → (any p xs ≡ false → count_if p xs ≡ 0) → (b || any p xs) ≡ false → bit b + count_if p xs ≡ 0
    go true f i = clash refl i
    go false f i = omega (arith, f i)

pub length-count : (xs : List ℕ) → count_if (λ (x : ℕ). true) xs ≡ length xs
length-count xs = count-all (λ (x : ℕ). true) xs (all_true xs)

-- ---- one change after another

-- How many of the changes add.
abbrev pub additions : List Change → ℕ
additions cs = count_if (λ (c : Change). c.adds) cs

module _ (ks : List ℕ) (rising : ascending ks ≡ true) where
  -- The old keys that stay, and the keys that are added.
  kept : List Change → List ℕ
  kept cs = keep (λ (k : ℕ). not (taken cs k)) ks

  added : List Change → List ℕ
  added cs = map change_key (keep (λ (c : Change). c.adds) cs)

  edited-count : (p : ℕ → Bool) (cs : List Change) → count_if p (edited_keys ks cs) ≡ count_if p (kept cs) + count_if p (added cs)
  unfolding edited_keys kept added
  edited-count p cs = count-sort p _ ∙ count-append p _ _

  -- A key below those of all changes is neither taken nor added.
  module _ (y : ℕ) (cs : List Change) (low : all (λ (k : ℕ). ltb y k) (map change_key cs) ≡ true) where
    apart : (c : Change) → ltb y (change_key c) ≡ true → eqb (change_key c) y ≡ false
    apart c t = let l : y < change_key c = ltb-true y (change_key c) t in ne_eqb (change_key c) y (λ i. omega arith)

    lower : all (λ (c : Change). ltb y (change_key c)) cs ≡ true
    lower = sym (all_map (λ (k : ℕ). ltb y k) change_key cs) ∙ low

    not_taken : taken cs y ≡ false
    not_taken =
        any-fails (λ (c : Change). not c.adds && eqb (change_key c) y) (λ (c : Change). ltb y (change_key c)) cs lower
        (λ c t. rw (apart c t) (none (not c.adds)))
      where
        none : (b : Bool) → (b && false) ≡ false
        none true = refl
        none false = refl

    not-added : count_if (λ (k : ℕ). eqb k y) (added cs) ≡ 0
    unfolding added
    not-added =
        count_map (λ (k : ℕ). eqb k y) change_key (keep (λ (c : Change). c.adds) cs)
        ∙ count-keep (λ (c : Change). eqb (change_key c) y) (λ (c : Change). c.adds) cs
        ∙ count-passes (λ (c : Change). c.adds && eqb (change_key c) y) (λ (c : Change). ltb y (change_key c)) cs lower
        (λ c t. rw (apart c t) (none c.adds))
      where
        none : (b : Bool) → (b && false) ≡ false
        none true = refl
        none false = refl

    -- So it counts as in the old keys.
    counts-as : count_if (λ (k : ℕ). eqb k y) (kept cs) + count_if (λ (k : ℕ). eqb k y) (added cs) ≡ count_if (λ (k : ℕ). eqb k y) ks
    unfolding kept
    counts-as =
        ap₂ (λ (a b : ℕ). a + b)
        (count-keep (λ (k : ℕ). eqb k y) (λ (k : ℕ). not (taken cs k)) ks
        ∙ count_under (λ (k : ℕ). true) (λ (k : ℕ). not (taken cs k) && eqb k y) (λ (k : ℕ). eqb k y) ks (all_true ks) (λ k t. same k (eqb k y) refl))
        not-added
        ∙ omega arith
      where
        same : (k : ℕ) (b : Bool) → eqb k y ≡ b → (not (taken cs k) && b) ≡ b
        same k true i = rw (eqb-true k y i, not_taken)
        same k false i = none (not (taken cs k))
          where
            none : (b : Bool) → (b && false) ≡ false
            none true = refl
            none false = refl

    -- Taking it as well leaves one less of it.
    taken-too : 0 < count_if (λ (k : ℕ). eqb k y) ks → (p : ℕ → Bool)
        → count_if p (keep (λ (k : ℕ). not (eqb y k || taken cs k)) ks) + bit (p y) ≡ count_if p (kept cs)
    unfolding kept
    taken-too present p =
        omega (
          arith,
          count-keep p (λ (k : ℕ). not (eqb y k || taken cs k)) ks,
          count-keep p (λ (k : ℕ). not (taken cs k)) ks,
          count-sum (λ (k : ℕ). not (taken cs k) && p k) (λ (k : ℕ). not (eqb y k || taken cs k) && p k) (λ (k : ℕ). eqb k y && p y) ks split,
          count-const (λ (k : ℕ). eqb k y) (p y) ks,
          once (p y),
        )
      where
        once : (b : Bool) → cond b (count_if (λ (k : ℕ). eqb k y) ks) 0 ≡ bit b
        once true = omega (arith, ascending-once ks rising y)
        once false = refl

        split : (k : ℕ) → bit (not (taken cs k) && p k) ≡ bit (not (eqb y k || taken cs k) && p k) + bit (eqb k y && p y)
        split k = go (eqb k y) refl
          where
            go : (b : Bool) → eqb k y ≡ b → bit (not (taken cs k) && p k) ≡ bit (not (eqb y k || taken cs k) && p k) + bit (b && p y)
            go true i = rw (eqb-sym y k, i, eqb-true k y i, not_taken) (omega arith)
            go false i = rw (eqb-sym y k, i) (omega arith)

  -- Both count alike, whatever is counted.
  edited-alike : (cs : List Change) → ascending (map change_key cs) ≡ true → all (applies ks) cs ≡ true → (p : ℕ → Bool)
      → count_if p (kept cs) + count_if p (added cs) ≡ count_if p (toggled ks (map change_key cs))
  unfolding kept added toggled any keep count_if all ascending
  edited-alike [] a e p = omega (arith, count-keep p (λ (k : ℕ). true) ks)
  edited-alike (c ∷ cs) a e p =
      go (λ q. edited-alike cs (ascends-tail (change_key c) (map change_key cs) a) (and_r (applies ks c) (all (applies ks) cs) e) q)
      c.adds (and_l (applies ks c) (all (applies ks) cs) e)
    where
      y : ℕ
      y = change_key c

      rest : List ℕ
      rest = toggled ks (map change_key cs)

      low : all (λ (k : ℕ). ltb y k) (map change_key cs) ≡ true
      low = ascends-above y (map change_key cs) a

      go : ((q : ℕ → Bool) → count_if q (kept cs) + count_if q (added cs) ≡ count_if q rest) → (b : Bool)
          → cond b (not (any (λ (k : ℕ). eqb k y) ks)) (any (λ (k : ℕ). eqb k y) ks) ≡ true
          → count_if p (keep (λ (k : ℕ). not (not b && eqb y k || taken cs k)) ks)
          + count_if p (map change_key (cond b (c ∷ keep (λ (d : Change). d.adds) cs) (keep (λ (d : Change). d.adds) cs)))
          ≡ count_if p (toggle y rest)
      go alike true i =
          let here : count_if (λ (k : ℕ). eqb k y) rest ≡ count_if (λ (k : ℕ). eqb k y) ks = sym (alike (λ (k : ℕ). eqb k y)) ∙ counts-as y cs low in
          omega (arith, alike p, toggle-absent p y rest (here ∙ none-count (λ (k : ℕ). eqb k y) ks (not-true _ i)))
      go alike false i =
          let here : count_if (λ (k : ℕ). eqb k y) rest ≡ count_if (λ (k : ℕ). eqb k y) ks = sym (alike (λ (k : ℕ). eqb k y)) ∙ counts-as y cs low in
          let present : 0 < count_if (λ (k : ℕ). eqb k y) ks = any-count (λ (k : ℕ). eqb k y) ks i in
          omega (arith, alike p, taken-too y cs low present p, toggle-present p y rest (ascending-toggled ks (map change_key cs) rising) (rw here present))

  -- Each addition is one edge more, each other change one less.
  pub edited-size : (cs : List Change) → ascending (map change_key cs) ≡ true → all (applies ks) cs ≡ true
      → length (toggled ks (map change_key cs)) + length cs ≡ length ks + 2 * additions cs
  unfolding toggled any count_if all ascending
  edited-size [] a e = omega arith
  edited-size (c ∷ cs) a e =
      go (edited-size cs below others) c.adds (and_l (applies ks c) (all (applies ks) cs) e)
    where
      y : ℕ
      y = change_key c

      rest : List ℕ
      rest = toggled ks (map change_key cs)

      below : ascending (map change_key cs) ≡ true
      below = ascends-tail y (map change_key cs) a

      others : all (applies ks) cs ≡ true
      others = and_r (applies ks c) (all (applies ks) cs) e

      here : count_if (λ (k : ℕ). eqb k y) rest ≡ count_if (λ (k : ℕ). eqb k y) ks
      here = sym (edited-alike cs below others (λ (k : ℕ). eqb k y)) ∙ counts-as y cs (ascends-above y (map change_key cs) a)

      go : length rest + length cs ≡ length ks + 2 * additions cs → (b : Bool)
          → cond b (not (any (λ (k : ℕ). eqb k y) ks)) (any (λ (k : ℕ). eqb k y) ks) ≡ true
          → length (toggle y rest) + suc (length cs) ≡ length ks + 2 * (bit b + additions cs)
      go ih true i =
          omega (
            arith,
            length-count rest,
            length-count (toggle y rest),
            toggle-absent (λ (k : ℕ). true) y rest (here ∙ none-count (λ (k : ℕ). eqb k y) ks (not-true _ i)),
          )
      go ih false i =
          let present : 0 < count_if (λ (k : ℕ). eqb k y) ks = any-count (λ (k : ℕ). eqb k y) ks i in
          omega (
            arith,
            length-count rest,
            length-count (toggle y rest),
            toggle-present (λ (k : ℕ). true) y rest (ascending-toggled ks (map change_key cs) rising) (rw here present),
          )

  module _ (cs : List Change) (a : ascending (map change_key cs) ≡ true) (e : all (applies ks) cs ≡ true) where
    edited-same : (p : ℕ → Bool) → count_if p (edited_keys ks cs) ≡ count_if p (toggled ks (map change_key cs))
    edited-same p = edited-count p cs ∙ edited-alike cs a e p

    pub edited-toggled : edited_keys ks cs ≡ toggled ks (map change_key cs)
    unfolding edited_keys kept added
    edited-toggled =
        ascending-same (edited_keys ks cs) (toggled ks (map change_key cs)) rises up (λ k. edited-same (λ (x : ℕ). eqb x k))
      where
        up : ascending (toggled ks (map change_key cs)) ≡ true
        up = ascending-toggled ks (map change_key cs) rising

        rises : ascending (edited_keys ks cs) ≡ true
        rises =
            sort-ascends (kept cs ++ added cs)
            (λ k.
            omega (
              arith,
              count-sort (λ (x : ℕ). eqb x k) (kept cs ++ added cs),
              edited-same (λ (x : ℕ). eqb x k),
              ascending-once (toggled ks (map change_key cs)) up k,
            ))
