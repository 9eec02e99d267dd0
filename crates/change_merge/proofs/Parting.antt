-- The entries of one vertex after another, of ascending keys and of toggled ones. Assumes nothing.
use mathlib.Core.Path.{◌≡◌, refl, sym, ◌∙◌, ap}
use mathlib.Core.Bool.{Bool, true, false, not, ◌&&◌}
use mathlib.Core.List.{List, [], ◌∷◌, ◌++◌, map, map-map, map-id, map-append}
use Prim.Native.Nat.{ℕ, suc, ◌+◌, ◌*◌, ◌/◌, ◌%◌, ◌<◌}
use native.Mathlib.Omega.{arith}
use lib.Dec.{eqb, ltb}
use lib.ListN.{length, drop, length-append, length-map}
use lib.Seq.{drop_at}
use borrow.Author.Tests.{eqb-true, eqb-false, ne_eqb, lt-ltb, le-ltb}
use Rattle.lists.specs.Lists.{all, keep, ascending, ascends_from}
use Rattle.lists.proofs.Tests.{and_both}
use Rattle.lists.proofs.All.{kept, keep-ext, keep-keep, keep_all}
use Rattle.lists.proofs.Count.{length-keep, count_none}
use Rattle.lists.proofs.Maps.{map-under}
use Rattle.lists.proofs.Sort.{ascends-tail, ascends-above}
use Rattle.lists.proofs.Cut.{cut, keep-below, cut_parts}
use Rattle.graph.proofs.Keys.{key-at}
use Rattle.change_merge.specs.Inner.Toggle.{toggle, toggled}
use Rattle.change_merge.specs.Inner.Merge.{key_at, entries_of, below, entries_below, keys_on, SideOf}
use Rattle.change_merge.proofs.Toggles.{toggle-first, toggle-later, toggle-same, toggle-cases, toggle-before, toggle-equal, ascending-toggled}
use Rattle.change_merge.proofs.Merging.{entries-here, entries-ascend}

pub below_none : (ks : List ℕ) → below 0 ks ≡ 0
below_none ks = count_none (λ (k : ℕ). ltb k (0 * 16777216)) ks (λ k. le-ltb k (0 * 16777216) (omega arith))

pub length-below : (v : ℕ) (ks : List ℕ) → length (entries_below v ks) ≡ below v ks
length-below v ks = length-map (keep (λ (k : ℕ). ltb k (v * 16777216)) ks) (λ (k : ℕ). k % 16777216) ∙ length-keep (λ (k : ℕ). ltb k (v * 16777216)) ks

module _ (ks : List ℕ) (up : ascending ks ≡ true) (v : ℕ) where
  up-id : ascending (map (λ (k : ℕ). k) ks) ≡ true
  up-id = ap ascending (map-id ks) ∙ up

  -- Those below the next vertex are those below v and then those of v.
  pub entries_next : entries_below (suc v) ks ≡ entries_below v ks ++ entries_of v ks
  unfolding entries_of
  entries_next =
      ap (map (λ (k : ℕ). k % 16777216)) (keep-below (λ (k : ℕ). k) ks (v * 16777216) (suc v * 16777216) up-id (omega arith))
      ∙ map-append (λ (k : ℕ). k % 16777216) (keep (λ (k : ℕ). ltb k (v * 16777216)) ks) (keep (key_at v) ks)

  pub below_next : below (suc v) ks ≡ below v ks + length (entries_of v ks)
  below_next =
      sym (length-below (suc v) ks) ∙ ap length entries_next ∙ length-append (entries_below v ks) (entries_of v ks)
      ∙ ap (λ (n : ℕ). n + length (entries_of v ks)) (length-below v ks)

  -- From those of v on.
  from-v : drop (below v ks) ks ≡ keep (λ (k : ℕ). not (ltb k (v * 16777216))) ks
  from-v =
      ap (drop (below v ks)) (cut (λ (k : ℕ). k) ks (v * 16777216) up-id)
      ∙ drop_at (keep (λ (k : ℕ). ltb k (v * 16777216)) ks) _ (below v ks) (length-keep (λ (k : ℕ). ltb k (v * 16777216)) ks)

  pub ahead_of : all (λ (k : ℕ). not (ltb k (v * 16777216))) (drop (below v ks) ks) ≡ true
  ahead_of = rw from-v (kept (λ (k : ℕ). not (ltb k (v * 16777216))) ks)

  pub entries_from : entries_of v (drop (below v ks) ks) ≡ entries_of v ks
  unfolding entries_of
  entries_from =
      ap (map (λ (k : ℕ). k % 16777216))
      (ap (keep (key_at v)) from-v ∙ keep-keep (key_at v) (λ (k : ℕ). not (ltb k (v * 16777216))) ks
      ∙ keep-ext (λ (k : ℕ). not (ltb k (v * 16777216)) && key_at v k) (key_at v) ks (λ k. twice (not (ltb k (v * 16777216))) (ltb k (suc v * 16777216))))
    where
      twice : (a b : Bool) → (a && (a && b)) ≡ (a && b)
      twice true b = refl
      twice false b = refl

-- All keys are of vertices below n.
pub entries-all : (n : ℕ) (ks : List ℕ) → all (λ (k : ℕ). ltb k (n * 16777216)) ks ≡ true → entries_below n ks ≡ map (λ (k : ℕ). k % 16777216) ks
entries-all n ks e = ap (map (λ (k : ℕ). k % 16777216)) (keep_all (λ (k : ℕ). ltb k (n * 16777216)) ks e)

-- The keys that the lists of a side tell are those that make the lists.
pub keys_on_lem : {old : List ℕ} {n side : ℕ} {ks : List ℕ} → SideOf old n side ks → keys_on old n side ≡ ks
unfolding keys_on entries_of
keys_on_lem {old} {n} {side} {ks} h =
    cut_parts (λ (k : ℕ). k) ks (ap ascending (map-id ks) ∙ h.rising) (λ (v : ℕ). v * 16777216) refl (λ v. omega arith) _ n
    (λ v l. ap (map (λ (e : ℕ). v * 16777216 + e)) (h.lists v l) ∙ told v)
    ∙ keep_all (λ (k : ℕ). ltb k (n * 16777216)) ks h.bounded
  where
    told : (v : ℕ) → map (λ (e : ℕ). v * 16777216 + e) (entries_of v ks) ≡ keep (key_at v) ks
    told v =
        map-map (λ (e : ℕ). v * 16777216 + e) (λ (k : ℕ). k % 16777216) (keep (key_at v) ks)
        ∙ map-under (key_at v) (λ (k : ℕ). v * 16777216 + k % 16777216) (λ (k : ℕ). k) (keep (key_at v) ks) (kept (key_at v) ks)
        (λ k t. let q : k / 16777216 ≡ v = eqb-true _ v (sym (key-at v k) ∙ t) in omega arith)
        ∙ map-id (keep (key_at v) ks)

-- ---- toggled keys

none : (v : ℕ) → entries_of v [] ≡ []
unfolding entries_of keep
none v = refl

all_nil : (y : ℕ) → all (λ (z : ℕ). ltb y z) [] ≡ true
unfolding all
all_nil y = refl

entries-other : (v k : ℕ) (ks : List ℕ) → (k / 16777216 ≡ v → ⊥) → entries_of v (k ∷ ks) ≡ entries_of v ks
unfolding entries_of keep
entries-other v k ks n = rw (key-at v k, ne_eqb (k / 16777216) v n)

-- A key that is not one of v leaves its entries;
toggle-other : (v y : ℕ) (zs : List ℕ) → (y / 16777216 ≡ v → ⊥) → entries_of v (toggle y zs) ≡ entries_of v zs
unfolding toggle
toggle-other v y [] n = entries-other v y [] n
toggle-other v y (z ∷ zs) n =
    toggle-cases y z
    (λ l. rw (toggle-before y z zs l) (entries-other v y (z ∷ zs) n))
    (λ e. rw (toggle-equal y z zs e) (sym (entries-other v z zs (λ q. n (ap (λ (k : ℕ). k / 16777216) e ∙ q)))))
    (λ l. rw (toggle-later y z zs l) (go (toggle-other v y zs n) (eqb (z / 16777216) v) refl))
  where
    go : entries_of v (toggle y zs) ≡ entries_of v zs → (b : Bool) → eqb (z / 16777216) v ≡ b → entries_of v (z ∷ toggle y zs) ≡ entries_of v (z ∷ zs)
    go ih true t =
        rw (entries-here v z (toggle y zs) (eqb-true _ v t), entries-here v z zs (eqb-true _ v t)) (ap (λ (l : List ℕ). z % 16777216 ∷ l) ih)
    go ih false t = rw (entries-other v z (toggle y zs) (eqb-false _ v t), entries-other v z zs (eqb-false _ v t)) ih

-- one that is, toggles its entry in them.
toggle-here : (v y : ℕ) (zs : List ℕ) → y / 16777216 ≡ v → ascending zs ≡ true → entries_of v (toggle y zs) ≡ toggle (y % 16777216) (entries_of v zs)
unfolding ascending ascends_from
toggle-here v y [] e a = here-none v y e
  where
    here-none : (v y : ℕ) → y / 16777216 ≡ v → entries_of v (toggle y []) ≡ toggle (y % 16777216) (entries_of v [])
    here-none v y e = rw (toggle-first y [] (all_nil y), entries-here v y [] e, none v) (sym (toggle-first (y % 16777216) [] (all_nil (y % 16777216))))
toggle-here v y (z ∷ zs) e a =
    toggle-cases y z
    (λ l.
    let up : ascending (y ∷ z ∷ zs) ≡ true = and_both (ltb y z) (ascends_from z zs) (lt-ltb y z l) a in
    rw (toggle-before y z zs l, entries-here v y (z ∷ zs) e)
    (sym (toggle-first (y % 16777216) (entries_of v (z ∷ zs)) (ascends-above (y % 16777216) (entries_of v (z ∷ zs)) (rw (entries-here v y (z ∷ zs) e) at (entries-ascend v (y ∷ z ∷ zs) up))))))
    (λ i.
    rw (toggle-equal y z zs i, entries-here v z zs (ap (λ (k : ℕ). k / 16777216) (sym i) ∙ e), i) (sym (toggle-same (z % 16777216) (entries_of v zs))))
    (λ l. rw (toggle-later y z zs l) (go l (toggle-here v y zs e (ascends-tail z zs a)) (eqb (z / 16777216) v) refl))
  where
    go : z < y → entries_of v (toggle y zs) ≡ toggle (y % 16777216) (entries_of v zs) → (b : Bool) → eqb (z / 16777216) v ≡ b
        → entries_of v (z ∷ toggle y zs) ≡ toggle (y % 16777216) (entries_of v (z ∷ zs))
    go l ih true t =
        let q : z / 16777216 ≡ v = eqb-true _ v t in
        rw (entries-here v z (toggle y zs) q, entries-here v z zs q)
        (ap (λ (x : List ℕ). z % 16777216 ∷ x) ih ∙ sym (toggle-later (y % 16777216) (z % 16777216) (entries_of v zs) (omega arith)))
    go l ih false t = rw (entries-other v z (toggle y zs) (eqb-false _ v t), entries-other v z zs (eqb-false _ v t)) ih

-- So the entries of v in the toggled keys are its entries toggled.
pub entries-toggled : (v : ℕ) (ks cs : List ℕ) → ascending ks ≡ true → entries_of v (toggled ks cs) ≡ toggled (entries_of v ks) (entries_of v cs)
unfolding toggled
entries-toggled v ks [] a = sym (ap (toggled (entries_of v ks)) (none v))
entries-toggled v ks (c ∷ cs) a = go (entries-toggled v ks cs a) (eqb (c / 16777216) v) refl
  where
    go : entries_of v (toggled ks cs) ≡ toggled (entries_of v ks) (entries_of v cs) → (b : Bool) → eqb (c / 16777216) v ≡ b
        → entries_of v (toggle c (toggled ks cs)) ≡ toggled (entries_of v ks) (entries_of v (c ∷ cs))
    go ih true t =
        rw (entries-here v c cs (eqb-true _ v t))
        (toggle-here v c (toggled ks cs) (eqb-true _ v t) (ascending-toggled ks cs a) ∙ ap (toggle (c % 16777216)) ih)
    go ih false t = rw (entries-other v c cs (eqb-false _ v t)) (toggle-other v c (toggled ks cs) (eqb-false _ v t) ∙ ih)
