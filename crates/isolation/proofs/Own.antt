-- The edges that a query names: what is read of a graph is read of them. Assumes nothing.
use mathlib.Core.Path.{◌≡◌, sym, ◌∙◌, ap, fun_ext}
use mathlib.Core.Bool.{Bool, true, false, ◌&&◌}
use Prim.Native.Nat.{ℕ}
use lib.Dec.{eqb}
use borrow.Author.Tests.{eqb-true}
use Rattle.lists.specs.Lists.{range, all, any, keep, count_if, largest}
use Rattle.lists.proofs.Tests.{iff, clash, and_l, and_r, and_both, or_elim, eqb_refl}
use Rattle.lists.proofs.All.{all-mem, mem-any}
use Rattle.lists.proofs.Any.{any-keep, any-ext}
use Rattle.lists.proofs.Count.{count-keep}
use Rattle.graph.specs.Graph.{Edge, Graph, Direction, near, covers, linked, portion_length}
use Rattle.query.specs.Query.{Query}
use Rattle.plan_order.specs.Order.{edges_of}
use Rattle.plan_bounds.specs.Bounds.{longest_portion}
use Rattle.isolation.specs.Others.{names, has_edge}
use Rattle.isolation.specs.Inner.Readings.{SameReadings}

-- A graph with the edges that a query names alone.
abbrev pub own : Query → Graph → Graph
own q g =
    record {
      vertices = g.vertices;
      labels = g.labels;
      days = g.days;
      edges = keep (λ (e : Edge). names q e.label) g.edges;
    }

-- Each query edge's label is named.
pub each-named : (q : Query) → all (λ (e : Edge). names q e.label) q.edges ≡ true
unfolding names
each-named q = all-mem _ q.edges (λ e m. mem-any (λ (d : Edge). eqb d.label e.label) m (eqb_refl e.label))

-- A test that only named edges pass finds and counts the same among them.
module _ (q : Query) (g : Graph) (p : Edge → Bool) (h : (e : Edge) → p e ≡ true → names q e.label ≡ true) where
  guarded : (e : Edge) → (names q e.label && p e) ≡ p e
  guarded e = iff _ _ (λ t. and_r (names q e.label) (p e) t) (λ t. and_both (names q e.label) (p e) (h e t) t)

  pub any-own : any p (own q g).edges ≡ any p g.edges
  any-own = any-keep p (λ (e : Edge). names q e.label) g.edges ∙ any-ext _ _ g.edges guarded

  pub count-own : count_if p (own q g).edges ≡ count_if p g.edges
  count-own =
      count-keep p (λ (e : Edge). names q e.label) g.edges
      ∙ ap (λ (t : Edge → Bool). count_if t g.edges) (fun_ext guarded)

-- A label that a named one covers is named, where label 0 is not.
module _ (q : Query) (g : Graph) (none : names q 0 ≡ false) where
  covered : (l k : ℕ) → names q l ≡ true → covers l k ≡ true → names q k ≡ true
  unfolding covers
  covered l k n c =
      or_elim (eqb l 0) (eqb k l) c
      (λ z. clash (ap (names q) (sym (eqb-true l 0 z)) ∙ n) none)
      (λ e. ap (names q) (eqb-true k l e) ∙ n)

  pub joins-own : (l x y : ℕ) → names q l ≡ true → linked (own q g) l x y ≡ linked g l x y
  unfolding linked
  joins-own l x y n =
      any-own q g (λ (e : Edge). eqb e.source x && covers l e.label && eqb e.target y)
      (λ e t. covered l e.label n (and_r (eqb e.source x) _ (and_l (eqb e.source x && covers l e.label) _ t)))

  pub portions-own : (d : Direction) (l x : ℕ) → names q l ≡ true → portion_length (own q g) d l x ≡ portion_length g d l x
  unfolding portion_length
  portions-own d l x n =
      count-own q g (λ (e : Edge). eqb (near d e) x && covers l e.label) (λ e t. covered l e.label n (and_r (eqb (near d e) x) _ t))

  pub counts-own : (l : ℕ) → names q l ≡ true → edges_of (own q g) l ≡ edges_of g l
  unfolding edges_of
  counts-own l n = count-own q g (λ (e : Edge). covers l e.label) (λ e t. covered l e.label n t)

  pub longest-portion-own : (d : Direction) (l : ℕ) → names q l ≡ true → longest_portion (own q g) d l ≡ longest_portion g d l
  unfolding longest_portion
  longest-portion-own d l n = ap (λ (f : ℕ → ℕ). largest f (range g.vertices)) (fun_ext (λ (x : ℕ). portions-own d l x n))

-- Graphs with the same named edges give the same readings.
pub own-readings : (q : Query) (g h : Graph) → names q 0 ≡ false → own q g ≡ own q h → SameReadings q g h
own-readings q g h none e =
    record {
      joins = λ l x y n. sym (joins-own q g none l x y n) ∙ ap (λ (k : Graph). linked k l x y) e ∙ joins-own q h none l x y n;
      portions = λ d l x n. sym (portions-own q g none d l x n) ∙ ap (λ (k : Graph). portion_length k d l x) e ∙ portions-own q h none d l x n;
      counts = λ l n. sym (counts-own q g none l n) ∙ ap (λ (k : Graph). edges_of k l) e ∙ counts-own q h none l n;
      longest = λ d l n.
          sym (longest-portion-own q g none d l n) ∙ ap (λ (k : Graph). longest_portion k d l) e ∙ longest-portion-own q h none d l n;
    }

-- And the same named edges: the converse of `one_list`, by which two concrete graphs are compared.
pub own-named : (q : Query) (g h : Graph) → (own q g).edges ≡ (own q h).edges
    → (s l t : ℕ) → names q l ≡ true → has_edge g s l t ≡ has_edge h s l t
unfolding has_edge
own-named q g h e s l t n = sym (any-own q g is named) ∙ ap (any is) e ∙ any-own q h is named
  where
    is : Edge → Bool
    is e = eqb e.source s && eqb e.label l && eqb e.target t

    named : (e : Edge) → is e ≡ true → names q e.label ≡ true
    named e i = ap (names q) (eqb-true e.label l (and_r (eqb e.source s) _ (and_l (eqb e.source s && eqb e.label l) _ i))) ∙ n
