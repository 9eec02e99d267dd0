-- Whether an edge is present, by the list of its source; and the changes one by one. Assumes nothing.
use mathlib.Core.Path.{◌≡◌, refl, sym, ◌∙◌, ap, ap₂}
use mathlib.Core.Bool.{Bool, true, false, beq, cond, not, ◌&&◌}
use mathlib.Core.List.{List, [], ◌∷◌, map, map-map}
use Prim.Native.Nat.{ℕ, suc, ◌+◌, ◌<◌}
use native.Mathlib.Numerals.{add-one}
use native.Mathlib.Omega.{arith}
use lib.Dec.{eqb, ltb}
use lib.ListN.{length}
use borrow.Author.Tests.{eqb-true, eq-eqb, ltb-true, lt-ltb}
use Rattle.lists.specs.Lists.{bit, range, all, any, count_if, ascending}
use Rattle.lists.specs.Refusal.{refuse}
use Rattle.lists.proofs.Tests.{iff, and_l, and_r, and_both, not-false, clash}
use Rattle.lists.proofs.All.{all_append, all-at, all-range}
use Rattle.lists.proofs.Any.{any-map, any-under}
use Rattle.lists.proofs.Count.{all_map, count-snoc}
use Rattle.lists.proofs.Maps.{ascending-image}
use Rattle.lists.proofs.Faults.{refuse-zero}
use Rattle.packed.specs.Field.{fill_set}
use Rattle.packed.proofs.Laws.{field_lt}
use Rattle.graph.specs.Graph.{Edge, Graph, forward, entry, key}
use Rattle.graph.specs.File.{bad_edge}
use Rattle.graph.specs.Store.{graph_in}
use Rattle.graph.proofs.WellFormed.{WellFormed, fitting, fitting-edge}
use Rattle.graph.proofs.Keys.{entry-fits}
use Rattle.adjacency.specs.Inner.Side.{Within, list_on, Lookup}
use Rattle.adjacency.specs.Inner.Portion.{list_of}
use Rattle.adjacency.proofs.Listed.{list_any}
use Rattle.adjacency.proofs.Accepted.{graph-formed, store-vertices, lookup-within, lookup-list, lookup-ascends}
use Rattle.change_file.specs.File.{Change, change_count, change_start, adds_in, changed_edge, changes_of, change_ascends, change_fits, change_fault, change_size}
use Rattle.changes.specs.Edit.{change_key, keys_of, applies, edit_fault}
use Rattle.change_file.specs.Inner.Reading.{Sized}
use Rattle.changes.specs.Inner.Edits.{Editable}

-- An edge that fits is present where its entry stands in its source's list.
pub present-listed : (g : Graph) → WellFormed g → (c : Edge) → fitting g.vertices c ≡ true
    → any (λ (k : ℕ). eqb k (key forward c)) (keys_of g) ≡ any (eqb (entry forward c)) (list_of forward g c.source)
present-listed g w c t =
    any-map (λ (k : ℕ). eqb k (key forward c)) (key forward) g.edges
    ∙ any-under (fitting g.vertices) (λ (e : Edge). eqb (key forward e) (key forward c))
    (λ (e : Edge). eqb e.source c.source && eqb (entry forward c) (entry forward e)) g.edges w.edges_fit
    (λ e u.
    let low : entry forward e < 16777216 = entry-fits g w forward e u in
    let high : entry forward c < 16777216 = entry-fits g w forward c t in
    iff (eqb (key forward e) (key forward c)) (eqb e.source c.source && eqb (entry forward c) (entry forward e))
    (λ i.
    let q : key forward e ≡ key forward c = eqb-true _ _ i in
    and_both _ _ (eq-eqb e.source c.source (omega arith)) (eq-eqb (entry forward c) (entry forward e) (omega arith)))
    (λ i.
    let a : e.source ≡ c.source = eqb-true _ _ (and_l (eqb e.source c.source) _ i) in
    let b : entry forward c ≡ entry forward e = eqb-true _ _ (and_r (eqb e.source c.source) _ i) in
    eq-eqb (key forward e) (key forward c) (omega arith)))
    ∙ sym (list_any (eqb (entry forward c)) forward g c.source)

-- ---- the changes of an accepted file

-- Change i of a file.
abbrev pub change_at : List ℕ → ℕ → Change
change_at s i = record { adds = adds_in s i; edge = changed_edge s i }

module _ (n : ℕ) (s : List ℕ) (e : change_fault n s ≡ 0) where
  pub file-sized : Sized s
  unfolding change_fault
  file-sized =
      record {
        there =
            let b : eqb (length s) (change_size s) ≡ true = and_l (eqb (length s) (change_size s)) (not (fill_set s (change_start (change_count s)))) (and_l (eqb (length s) (change_size s) && not (fill_set s (change_start (change_count s)))) (all (change_fits n s) (range (change_count s))) (not-false _ (refuse-zero 26 _ e))) in
            omega (arith, eqb-true (length s) (change_size s) b);
        few = field_lt s 0 20;
      }

  all_fit : all (change_fits n s) (range (change_count s)) ≡ true
  unfolding change_fault
  all_fit = and_r (eqb (length s) (change_size s) && not (fill_set s (change_start (change_count s)))) (all (change_fits n s) (range (change_count s))) (not-false _ (refuse-zero 26 _ e))

  module _ (i : ℕ) (l : i < change_count s) where
    pub change-fits : fitting n (changed_edge s i) ≡ true
    change-fits =
        and_both (not (bad_edge n (changed_edge s i))) (ltb (changed_edge s i).label 256) (and_l _ (change_ascends s i) (all-at (change_fits n s) (change_count s) all_fit i l))
        (lt-ltb (changed_edge s i).label 256 (field_lt s (change_start i + 17) 8))

    pub change-source : (changed_edge s i).source < n
    change-source = (fitting-edge n (changed_edge s i) change-fits).source_in

  pub changes_fit : all (λ (c : Change). fitting n c.edge) (changes_of s) ≡ true
  unfolding changes_of
  changes_fit = all_map (λ (c : Change). fitting n c.edge) (change_at s) (range (change_count s)) ∙ all-range _ (change_count s) change-fits

  pub changes_ascend : ascending (map change_key (changes_of s)) ≡ true
  unfolding changes_of
  changes_ascend =
      ap ascending (map-map change_key (change_at s) (range (change_count s)))
      ∙ ascending-image (λ (i : ℕ). key forward (changed_edge s i)) (change_count s)
      (λ i l. ltb-true _ _ (and_r (not (bad_edge n (changed_edge s (suc i)))) _ (all-at (change_fits n s) (change_count s) all_fit (suc i) l)))

-- ---- the loop

module _ {old : List ℕ} {n at : ℕ} {s : List ℕ} {k : ℕ} (h : Editable old n at s k) where
  pub editable-sized : Sized s
  editable-sized = file-sized n s h.fits

  module _ {i v : ℕ} (l : i < k) (its : v ≡ (changed_edge s i).source) where
    below : i < change_count s
    below = omega (arith, h.changes)

    looked : Lookup old n at v
    looked =
        record {
          accepted = h.accepted;
          vertices = h.vertices;
          vertex_in = rw its (change-source n s h.fits i below);
          direction = forward;
          begins = h.begins;
        }

    pub looked-within : Within old n at v
    looked-within = lookup-within old n at v looked

    pub looked-ascends : {xs : List ℕ} → xs ≡ list_on old n at v → ascending xs ≡ true
    looked-ascends e = ap ascending e ∙ lookup-ascends old n at v looked

    -- An edge is present where its entry stands in the list that is looked up.
    pub stands-there : {xs : List ℕ} {e : ℕ} {p : Bool} → xs ≡ list_on old n at v → e ≡ entry forward (changed_edge s i) → p ≡ any (eqb e) xs
        → p ≡ any (λ (x : ℕ). eqb x (key forward (changed_edge s i))) (keys_of (graph_in old))
    stands-there {xs} {e} x q p =
        let same : any (eqb e) xs ≡ any (λ (y : ℕ). eqb y (key forward (changed_edge s i))) (keys_of (graph_in old)) =
        ap₂ (λ (e : ℕ) (l : List ℕ). any (eqb e) l) q (x ∙ lookup-list old n at v looked forward h.begins ∙ ap (list_of forward (graph_in old)) its)
        ∙ sym (present-listed (graph_in old) (graph-formed old h.accepted) (changed_edge s i)
        (rw (h.vertices ∙ store-vertices old h.accepted) at (change-fits n s h.fits i below))) in
        p ∙ same

-- A change applies where it adds an edge that is not there, or takes one that is.
other-applies : (a b : Bool) → beq b a ≡ false → cond a (not b) b ≡ true
other-applies true true n = cc
other-applies true false n = refl
other-applies false true n = refl
other-applies false false n = cc

same-fails : (a b : Bool) → beq b a ≡ true → cond a (not b) b ≡ false
same-fails true true e = refl
same-fails true false e = cc
same-fails false true e = cc
same-fails false false e = refl

pub record Applying (g : Graph) (s : List ℕ) (i : ℕ) : Type 0 where
  pub so_far : all (λ (j : ℕ). applies (keys_of g) (change_at s j)) (range i) ≡ true

pub applying-none : (g : Graph) (s : List ℕ) → Applying g s 0
unfolding all range
applying-none g s = record { so_far = refl }

pub applying-more : {g : Graph} {s : List ℕ} {i : ℕ} {p q : Bool} → Applying g s i
    → p ≡ any (λ (x : ℕ). eqb x (key forward (changed_edge s i))) (keys_of g) → q ≡ adds_in s i
    → beq p q ≡ false → Applying g s (i + 1)
unfolding all range
applying-more {g} {s} {i} h a b n =
    record {
      so_far =
          rw (add-one i)
          (all_append (λ (j : ℕ). applies (keys_of g) (change_at s j)) (range i) (i ∷ [])
          ∙ and_both _ _ h.so_far (and_both (applies (keys_of g) (change_at s i)) true (other-applies (adds_in s i) (any (λ (x : ℕ). eqb x (key forward (changed_edge s i))) (keys_of g)) (rw (a, b) at n)) refl));
    }

pub applying-stop : (g : Graph) (s : List ℕ) {i : ℕ} {p q : Bool} → i < change_count s → p ≡ any (λ (x : ℕ). eqb x (key forward (changed_edge s i))) (keys_of g) → q ≡ adds_in s i
    → beq p q ≡ true → 28 ≡ edit_fault g (changes_of s)
unfolding edit_fault changes_of
applying-stop g s {i} l a b n = go (all (applies (keys_of g)) (changes_of s)) refl
  where
    go : (t : Bool) → all (applies (keys_of g)) (changes_of s) ≡ t → 28 ≡ refuse 28 (not t)
    go true t =
        clash (all-at (λ (j : ℕ). applies (keys_of g) (change_at s j)) (change_count s) (sym (all_map (applies (keys_of g)) (change_at s) (range (change_count s))) ∙ t) i l)
        (same-fails (adds_in s i) (any (λ (x : ℕ). eqb x (key forward (changed_edge s i))) (keys_of g)) (rw (a, b) at n))
    go false t = refl

pub applying-all : {g : Graph} {s : List ℕ} {i : ℕ} → Applying g s i → i ≡ change_count s → 0 ≡ edit_fault g (changes_of s)
unfolding edit_fault changes_of
applying-all {g} {s} h e = rw (all_map (applies (keys_of g)) (change_at s) (range (change_count s)), ← e, h.so_far)

-- ---- how many add

pub count-zero : (p : ℕ → Bool) → 0 ≡ count_if p (range 0)
unfolding count_if range
count-zero p = refl

pub count_next : (p : ℕ → Bool) (i : ℕ) → count_if p (range (suc i)) ≡ count_if p (range i) + bit (p i)
unfolding range
count_next p i = count-snoc p (range i) i
