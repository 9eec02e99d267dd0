-- The merge of a vertex's list with its changes: its loop. Assumes nothing.
use mathlib.Core.Path.{◌≡◌, refl, sym, ◌∙◌, ap, ap₂}
use mathlib.Core.Bool.{Bool, true, false, not}
use mathlib.Core.List.{List, [], ◌∷◌, ◌++◌, map, append_assoc, append-nil}
use Prim.Native.Nat.{ℕ, suc, ◌+◌, ◌-◌, ◌*◌, ◌/◌, ◌%◌, ◌≤◌, ◌<◌}
use native.Mathlib.Nat.{le_of_eq}
use native.Mathlib.Numerals.{add-one}
use native.Mathlib.Omega.{arith}
use lib.Dec.{eqb, ltb}
use lib.ListN.{length, get_or, set, take, drop, length-append, length-set, length-drop, drop_of_length-le, get_or-eq_default}
use lib.Seq.{drop-cons, drop-drop, take-suc-set, drop-set-lt, length-take-le}
use borrow.Author.Tests.{eqb-true, eqb-false, eq-eqb, ne_eqb, ltb-true, lt-ltb, ltb-false, le-ltb}
use Rattle.lists.specs.Lists.{all, keep, ascending}
use Rattle.lists.proofs.Tests.{and_l, and_r, and_both, not-true}
use Rattle.lists.proofs.All.{all-follows, keep-none, kept}
use Rattle.lists.proofs.Sort.{ascends-above, ascends-tail, ascending-keep, ascending-map}
use Rattle.lists.proofs.Ascending.{ascending-drop}
use Rattle.lists.proofs.Parts.{rest_at}
use Rattle.graph.proofs.Keys.{key-at}
use Rattle.change_merge.specs.Inner.Toggle.{toggled}
use Rattle.change_merge.specs.Inner.Merge.{key_at, entries_of, next_entry, Mergeable}
use Rattle.change_merge.proofs.Toggles.{toggled-left, toggled-both, toggled-right}

-- ---- the changes of a vertex

pub entries-here : (v k : ℕ) (ks : List ℕ) → k / 16777216 ≡ v → entries_of v (k ∷ ks) ≡ k % 16777216 ∷ entries_of v ks
unfolding entries_of keep
entries-here v k ks e = rw (key-at v k, eq-eqb (k / 16777216) v e)

pub entries-ascend : (v : ℕ) (ks : List ℕ) → ascending ks ≡ true → ascending (entries_of v ks) ≡ true
unfolding entries_of
entries-ascend v ks e =
    ascending-map (key_at v) (λ (k : ℕ). k % 16777216) (keep (key_at v) ks) (kept (key_at v) ks)
    (λ j k a b l.
    let x : j / 16777216 ≡ v = eqb-true _ v (sym (key-at v j) ∙ a) in
    let y : k / 16777216 ≡ v = eqb-true _ v (sym (key-at v k) ∙ b) in
    omega arith)
    (ascending-keep (key_at v) ks e)

-- Where the keys are not below those of v and the first is not one of v, none is.
pub entries_none : (v k : ℕ) (ks : List ℕ) → ascending (k ∷ ks) ≡ true → v * 16777216 ≤ k → (k / 16777216 ≡ v → ⊥) → entries_of v (k ∷ ks) ≡ []
unfolding entries_of keep ascending
entries_none v k ks a l n =
    rw (key-at v k, ne_eqb (k / 16777216) v n)
    (ap (map (λ (k : ℕ). k % 16777216))
    (keep-none (key_at v) (λ (j : ℕ). ltb k j) ks (ascends-above k ks a)
    (λ j t.
    let i : k < j = ltb-true k j t in
    key-at v j ∙ ne_eqb (j / 16777216) v (λ e. n (omega arith)))))

-- What is left of the changes from one on.
pub record Left (cs : List ℕ) (v at : ℕ) : Type 0 where
  pub inside : at ≤ length cs
  pub rising : ascending (drop at cs) ≡ true
  pub ahead : all (λ (k : ℕ). not (ltb k (v * 16777216))) (drop at cs) ≡ true

-- The next entry by the next key.
next_here : (cs : List ℕ) (v at : ℕ) → at < length cs → get_or cs at 0 / 16777216 ≡ v → next_entry cs v at ≡ get_or cs at 0 % 16777216
next_here cs v at i q = rw (lt-ltb at (length cs) i, eq-eqb (get_or cs at 0 / 16777216) v q)

next-other : (cs : List ℕ) (v at : ℕ) → at < length cs → (get_or cs at 0 / 16777216 ≡ v → ⊥) → next_entry cs v at ≡ 16777216
next-other cs v at i q = rw (lt-ltb at (length cs) i, ne_eqb (get_or cs at 0 / 16777216) v q)

next_past : (cs : List ℕ) (v at : ℕ) → length cs ≤ at → next_entry cs v at ≡ 16777216
next_past cs v at i = rw (le-ltb at (length cs) i)

module _ {cs : List ℕ} {v at e : ℕ} (h : Left cs v at) (its : e ≡ next_entry cs v at) where
  -- The next entry is above all, and no change of v is left;
  pub left-none : 16777216 ≤ e → entries_of v (drop at cs) ≡ []
  unfolding entries_of keep all
  left-none l = go (ltb at (length cs)) refl
    where
      go : (b : Bool) → ltb at (length cs) ≡ b → map (λ (k : ℕ). k % 16777216) (keep (key_at v) (drop at cs)) ≡ []
      go true t =
          let i : at < length cs = ltb-true at (length cs) t in
          let c : drop at cs ≡ get_or cs at 0 ∷ drop (suc at) cs = drop-cons cs at 0 i in
          ap (λ (l : List ℕ). map (λ (k : ℕ). k % 16777216) (keep (key_at v) l)) c
          ∙ entries_none v (get_or cs at 0) (drop (suc at) cs) (rw c at h.rising)
          (ltb-false (get_or cs at 0) (v * 16777216) (not-true _ (and_l (not (ltb (get_or cs at 0) (v * 16777216))) _ (rw c at h.ahead))))
          (λ q. omega (arith, next_here cs v at i q))
      go false t = rw (drop_of_length-le cs (ltb-false at (length cs) t))

  -- or it is that of the next change, and the others come after it.
  module _ (l : e < 16777216) where
    pub left_there : at < length cs
    left_there = go (ltb at (length cs)) refl
      where
        go : (b : Bool) → ltb at (length cs) ≡ b → at < length cs
        go true t = ltb-true at (length cs) t
        go false t = absurd (omega (arith, next_past cs v at (ltb-false at (length cs) t)))

    at-v : get_or cs at 0 / 16777216 ≡ v
    at-v = go (eqb (get_or cs at 0 / 16777216) v) refl
      where
        go : (b : Bool) → eqb (get_or cs at 0 / 16777216) v ≡ b → get_or cs at 0 / 16777216 ≡ v
        go true t = eqb-true _ v t
        go false t = absurd (omega (arith, next-other cs v at left_there (eqb-false _ v t)))

    pub left-some : entries_of v (drop at cs) ≡ e ∷ entries_of v (drop (at + 1) cs)
    left-some =
        rw (drop-cons cs at 0 left_there, entries-here v (get_or cs at 0) (drop (suc at) cs) at-v, add-one at)
        (ap (λ (x : ℕ). x ∷ entries_of v (drop (suc at) cs)) (sym (its ∙ next_here cs v at left_there at-v)))

    pub left-more : Left cs v (at + 1)
    unfolding all ascending
    left-more =
        let c : drop at cs ≡ get_or cs at 0 ∷ drop (suc at) cs = drop-cons cs at 0 left_there in
        record {
          inside = omega (arith, left_there);
          rising = rw (add-one at) (ascends-tail (get_or cs at 0) (drop (suc at) cs) (rw c at h.rising));
          ahead = rw (add-one at) (and_r (not (ltb (get_or cs at 0) (v * 16777216))) _ (rw c at h.ahead));
        }

-- ---- the loop

-- So far: what was written, and then what comes of the rest of both lists, is the merge of all.
pub record Merging (xs cs out₀ : List ℕ) (v from : ℕ) (out : List ℕ) (at i len e : ℕ) : Type 0 where
  pub within : i ≤ length xs
  pub left : Left cs v at
  pub next : e ≡ next_entry cs v at
  pub long : length out ≡ length out₀
  pub done : take len out ++ toggled (drop i xs) (entries_of v (drop at cs)) ≡ toggled xs (entries_of v (drop from cs))
  pub rest : drop len out ≡ drop len out₀
  pub written : len ≤ length out
  pub passed : at + length (entries_of v (drop at cs)) ≡ from + length (entries_of v (drop from cs))

all_none : (e : ℕ) → all (λ (y : ℕ). ltb e y) [] ≡ true
unfolding all
all_none e = refl

all_after : (e x : ℕ) (xs : List ℕ) → e < x → ascending (x ∷ xs) ≡ true → all (λ (y : ℕ). ltb e y) (x ∷ xs) ≡ true
unfolding all ascending
all_after e x xs l a =
    and_both (ltb e x) (all (λ (y : ℕ). ltb e y) xs) (lt-ltb e x l)
    (all-follows (λ (y : ℕ). ltb x y) (λ (y : ℕ). ltb e y) xs (ascends-above x xs a) (λ y t. lt-ltb e y (omega (arith, ltb-true x y t))))

module _ {xs cs out₀ : List ℕ} {v from : ℕ} (m : Mergeable xs cs v from (length out₀)) where
  pub merging-none : {e : ℕ} → e ≡ next_entry cs v from → Merging xs cs out₀ v from out₀ from 0 0 e
  merging-none n =
      record {
        within = omega arith;
        left = record { inside = m.inside; rising = ascending-drop from cs m.changes_ascend; ahead = m.ahead };
        next = n;
        long = refl;
        done = refl;
        rest = refl;
        written = omega arith;
        passed = refl;
      }

  module _ {out : List ℕ} {at i len e : ℕ} (h : Merging xs cs out₀ v from out at i len e) where
    todo : List ℕ
    todo = toggled (drop i xs) (entries_of v (drop at cs))

    size : len + length todo ≤ length out
    unfolding todo
    size = omega (arith, length-take-le len out h.written, simp length-append at (ap length h.done), m.fits, h.long)

    more-changes : ascending (entries_of v (drop at cs)) ≡ true
    more-changes = entries-ascend v (drop at cs) h.left.rising

    more-words : ascending (drop i xs) ≡ true
    more-words = ascending-drop i xs m.list_ascends

    -- The next word of the merge.
    module _ {y : ℕ} {ys : List ℕ} (comes : todo ≡ y ∷ ys) where
      room : len < length out
      room = omega (arith, size, ap length comes)

      put : take (len + 1) (set out len y) ++ ys ≡ toggled xs (entries_of v (drop from cs))
      unfolding todo
      put =
          rw (add-one len, take-suc-set out len y room, append_assoc (take len out) (y ∷ []) ys)
          (ap (λ (l : List ℕ). take len out ++ l) (sym comes) ∙ h.done)

      put_rest : drop (len + 1) (set out len y) ≡ drop (len + 1) out₀
      put_rest =
          drop-set-lt (len + 1) out len y (omega arith)
          ∙ sym (drop-drop 1 len out) ∙ ap (drop 1) h.rest ∙ drop-drop 1 len out₀

    module _ (l : e < 16777216) where
      others : List ℕ
      others = entries_of v (drop (at + 1) cs)

      split : entries_of v (drop at cs) ≡ e ∷ others
      unfolding others
      split = left-some h.left h.next l

      after : all (λ (y : ℕ). ltb e y) others ≡ true
      unfolding ascending
      after = ascends-above e others (rw split at more-changes)

      on : at + 1 + length others ≡ from + length (entries_of v (drop from cs))
      on = omega (arith, h.passed, ap length split)

      pub change-there : at < length cs
      change-there = left_there h.left h.next l

      module _ {x : ℕ} (its : x ≡ get_or xs i 16777216) where
        there : x < 16777216 → i < length xs
        there low = go (ltb i (length xs)) refl
          where
            go : (b : Bool) → ltb i (length xs) ≡ b → i < length xs
            go true t = ltb-true i (length xs) t
            go false t = absurd (omega (arith, get_or-eq_default xs 16777216 (ltb-false i (length xs) t)))

        word_split : i < length xs → drop i xs ≡ x ∷ drop (i + 1) xs
        word_split w = rw (its, add-one i) (drop-cons xs i 16777216 w)

        -- A word of the list before the next change.
        module _ (first : x < e) where
          pub word-there : i < length xs
          word-there = there (omega arith)

          comes : todo ≡ x ∷ toggled (drop (i + 1) xs) (entries_of v (drop at cs))
          unfolding todo
          comes =
              rw (word_split word-there)
              (toggled-left x (drop (i + 1) xs) (entries_of v (drop at cs)) (rw split (all_after x e others first (rw split at more-changes))))

          pub word_room : len < length out
          word_room = room comes

          pub word-put : Merging xs cs out₀ v from (set out len x) at (i + 1) (len + 1) e
          word-put =
              record {
                within = omega (arith, word-there);
                left = h.left;
                next = h.next;
                long = length-set out len x ∙ h.long;
                done = put comes;
                rest = put_rest comes;
                written = rw length-set (omega (arith, word_room));
                passed = h.passed;
              }

        -- One that the change takes away.
        pub word-taken : {f : ℕ} → x ≡ e → f ≡ next_entry cs v (at + 1) → Merging xs cs out₀ v from out (at + 1) (i + 1) len f
        unfolding others
        word-taken same n =
            let w : i < length xs = there (omega arith) in
            record {
              within = omega arith;
              left = left-more h.left h.next l;
              next = n;
              long = h.long;
              done =
                  ap (λ (t : List ℕ). take len out ++ t)
                  (sym (toggled-both e (drop (i + 1) xs) others after)
                  ∙ sym (ap₂ toggled (word_split w ∙ ap (λ (y : ℕ). y ∷ drop (i + 1) xs) same) split))
                  ∙ h.done;
              rest = h.rest;
              written = h.written;
              passed = on;
            }

        -- A change that comes before the next word, or after all words.
        module _ (later : e < x) where
          above : all (λ (y : ℕ). ltb e y) (drop i xs) ≡ true
          above = go (ltb i (length xs)) refl
            where
              go : (b : Bool) → ltb i (length xs) ≡ b → all (λ (y : ℕ). ltb e y) (drop i xs) ≡ true
              go true t =
                  let c : drop i xs ≡ x ∷ drop (i + 1) xs = word_split (ltb-true i (length xs) t) in
                  rw c (all_after e x (drop (i + 1) xs) later (rw c at more-words))
              go false t = rw (drop_of_length-le xs (ltb-false i (length xs) t)) (all_none e)

          change-comes : todo ≡ e ∷ toggled (drop i xs) others
          unfolding todo
          change-comes = rw split (toggled-right e (drop i xs) others above after)

          pub change-room : len < length out
          change-room = room change-comes

          pub change-put : {f : ℕ} → f ≡ next_entry cs v (at + 1) → Merging xs cs out₀ v from (set out len e) (at + 1) i (len + 1) f
          unfolding others
          change-put n =
              record {
                within = h.within;
                left = left-more h.left h.next l;
                next = n;
                long = length-set out len e ∙ h.long;
                done = put change-comes;
                rest = put_rest change-comes;
                written = rw length-set (omega (arith, change-room));
                passed = on;
              }

    -- After the loop the rest of the list is copied.
    module _ (l : 16777216 ≤ e) where
      pub merged-next : at ≡ from + length (entries_of v (drop from cs))
      merged-next = omega (arith, h.passed, ap length (left-none h.left h.next l))

      total : take len out ++ drop i xs ≡ toggled xs (entries_of v (drop from cs))
      unfolding toggled
      total = rw (left-none h.left h.next l) at h.done

      pub merged-len : len + (length xs - i) ≡ length (toggled xs (entries_of v (drop from cs)))
      merged-len = omega (arith, ap length total, length-append (take len out) (drop i xs), length-take-le len out h.written, length-drop i xs)

      pub merged-room : length xs - i ≤ length (take (length out - len) (drop len out))
      merged-room = rw (rest_at out len, length-drop) (omega (arith, merged-len, m.fits, h.long))

      pub merged-words : {copied : List ℕ} → copied ≡ take (length xs - i) (take (length xs - i) (drop i xs)) ++ drop (length xs - i) (take (length out - len) (drop len out))
          → take len out ++ (copied ++ drop (length out - len) (drop len out))
          ≡ toggled xs (entries_of v (drop from cs)) ++ drop (length (toggled xs (entries_of v (drop from cs)))) out₀
      merged-words {copied} c =
          ap (λ (t : List ℕ). take len out ++ (copied ++ t)) (drop_of_length-le (drop len out) (le_of_eq (length-drop len out)))
          ∙ ap (λ (t : List ℕ). take len out ++ t) (append-nil copied ∙ c)
          ∙ ap (λ (t : List ℕ). take len out ++ t)
          (ap₂ (λ (a b : List ℕ). a ++ b)
          (ap (take (length xs - i)) (rest_at xs i) ∙ rest_at xs i)
          (ap (drop (length xs - i)) (rest_at out len ∙ h.rest) ∙ drop-drop (length xs - i) len out₀ ∙ ap (λ (p : ℕ). drop p out₀) merged-len))
          ∙ sym (append_assoc (take len out) (drop i xs) (drop (length (toggled xs (entries_of v (drop from cs)))) out₀))
          ∙ ap (λ (t : List ℕ). t ++ drop (length (toggled xs (entries_of v (drop from cs)))) out₀) total
