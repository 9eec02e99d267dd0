-- Two well-formed graphs in which the same named edges are found have one list of them. Assumes nothing.
use mathlib.Core.Path.{◌≡◌, refl, sym, ◌∙◌, ap}
use mathlib.Core.Bool.{Bool, true, ◌&&◌}
use mathlib.Core.List.{List, map, map-map, map-id}
use Prim.Native.Nat.{ℕ, zero, suc, ◌/◌, ◌%◌, ◌≤◌}
use native.Mathlib.Omega.{arith}
use lib.Dec.{eqb, ltb}
use borrow.Author.Tests.{eqb-true, eq-eqb, lt-ltb, le-ltb}
use Rattle.lists.specs.Lists.{all, any, ascending}
use Rattle.lists.proofs.Tests.{clash, iff, and_l, and_r, and_both, eqb_refl}
use Rattle.lists.proofs.All.{all-mem, mem-any, all-kept, keep-under}
use Rattle.lists.proofs.Any.{any-count, any-map, any-keep, any_some, any-follows}
use Rattle.lists.proofs.Sort.{ascending-once, ascending-same, ascending-keep}
use Rattle.lists.proofs.Maps.{keep-map, map-under}
use Rattle.graph.specs.Graph.{Edge, Graph, forward, key}
use Rattle.graph.specs.Store.{entry_edge}
use Rattle.graph.proofs.WellFormed.{WellFormed, fitting}
use Rattle.graph.proofs.Keys.{key-entry, key-near, entry-label, edge-of}
use Rattle.query.specs.Query.{Query}
use Rattle.isolation.specs.Others.{names, has_edge, OthersDiffer}
use Rattle.isolation.proofs.Own.{own}

-- The edge that a forward key tells.
abbrev key_edge : ℕ → Edge
key_edge k = entry_edge (k / 16777216) (k % 16777216)

-- The keys of the named edges.
abbrev own_keys : Query → Graph → List ℕ
own_keys q g = map (key forward) (own q g).edges

-- A named edge of a key.
abbrev has_key : Query → ℕ → Edge → Bool
has_key q k e = names q e.label && eqb (key forward e) k

module _ (q : Query) (g : Graph) (w : WellFormed g) where
  edge-told : (e : Edge) → fitting g.vertices e ≡ true → key_edge (key forward e) ≡ e
  edge-told e t = rw (key-near g w forward e t, key-entry g w forward e t) (edge-of g w e t)

  -- The named edges are told by their keys.
  pub told : map key_edge (own_keys q g) ≡ (own q g).edges
  told =
      map-map key_edge (key forward) (own q g).edges
      ∙ map-under (fitting g.vertices) (λ (e : Edge). key_edge (key forward e)) (λ (e : Edge). e) (own q g).edges
      (all-kept (fitting g.vertices) _ (fitting g.vertices) g.edges w.edges_fit (λ e t n. t)) edge-told
      ∙ map-id (own q g).edges

  -- Their keys ascend.
  pub own-ascend : ascending (own_keys q g) ≡ true
  own-ascend =
      ap (λ (l : List Edge). ascending (map (key forward) l))
      (keep-under (fitting g.vertices) (λ (e : Edge). names q e.label) (λ (e : Edge). by_key (key forward e)) g.edges w.edges_fit
      (λ e t. ap (names q) (sym (ap (λ (k : ℕ). k / 65536) (key-entry g w forward e t) ∙ entry-label g w forward e t))))
      ∙ ap ascending (sym (keep-map by_key (key forward) g.edges))
      ∙ ascending-keep by_key (map (key forward) g.edges) w.edges_ascend
    where
      by_key : ℕ → Bool
      by_key k = names q (k % 16777216 / 65536)

  -- A key is one of theirs where some named edge has it.
  pub found : (k : ℕ) → any (λ (j : ℕ). eqb j k) (own_keys q g) ≡ any (has_key q k) g.edges
  found k =
      any-map (λ (j : ℕ). eqb j k) (key forward) (own q g).edges ∙ any-keep (λ (e : Edge). eqb (key forward e) k) (λ (e : Edge). names q e.label) g.edges

-- An edge of a graph is one that it has.
pub each-had : (g : Graph) → all (λ (e : Edge). has_edge g e.source e.label e.target) g.edges ≡ true
unfolding has_edge
each-had g =
    all-mem _ g.edges
    (λ e m. mem-any (λ (d : Edge). eqb d.source e.source && eqb d.label e.label && eqb d.target e.target) m
    (rw (eqb_refl e.source, eqb_refl e.label, eqb_refl e.target)))

module _ (q : Query) (g h : Graph) (v : WellFormed g) (w : WellFormed h) where
  -- What is found in the one is found in the other.
  found_in : ((s l t : ℕ) → names q l ≡ true → has_edge g s l t ≡ has_edge h s l t) → (k : ℕ)
      → any (λ (j : ℕ). eqb j k) (own_keys q g) ≡ true → any (λ (j : ℕ). eqb j k) (own_keys q h) ≡ true
  unfolding has_edge
  found_in named k t =
      found q h w k
      ∙ any_some (λ (e : Edge). has_edge g e.source e.label e.target) (has_key q k) g.edges (each-had g) (sym (found q g v k) ∙ t)
      (λ e had i.
      let n : names q e.label ≡ true = and_l (names q e.label) (eqb (key forward e) k) i in
      any-follows (λ (d : Edge). eqb d.source e.source && eqb d.label e.label && eqb d.target e.target) (has_key q k) h.edges
      (sym (named e.source e.label e.target n) ∙ had)
      (λ d p.
      let a : (eqb d.source e.source && eqb d.label e.label) ≡ true = and_l (eqb d.source e.source && eqb d.label e.label) _ p in
      let s : d.source ≡ e.source = eqb-true d.source e.source (and_l (eqb d.source e.source) _ a) in
      let l : d.label ≡ e.label = eqb-true d.label e.label (and_r (eqb d.source e.source) _ a) in
      let u : d.target ≡ e.target = eqb-true d.target e.target (and_r (eqb d.source e.source && eqb d.label e.label) _ p) in
      let is : key forward e ≡ k = eqb-true (key forward e) k (and_r (names q e.label) (eqb (key forward e) k) i) in
      and_both (names q d.label) (eqb (key forward d) k) (ap (names q) l ∙ n)
      (eq-eqb (key forward d) k (omega arith))))

-- Two numbers that are at most 1 and both 0 or neither are equal.
one_same : (m n : ℕ) → m ≤ 1 → n ≤ 1 → ltb 0 m ≡ ltb 0 n → m ≡ n
one_same zero zero a b e = refl
one_same zero (suc n) a b e = clash (e ∙ lt-ltb 0 (suc n) (omega arith)) (le-ltb 0 0 (omega arith))
one_same (suc m) zero a b e = clash (lt-ltb 0 (suc m) (omega arith)) (e ∙ le-ltb 0 0 (omega arith))
one_same (suc m) (suc n) a b e = omega arith

-- For named labels the list of their edges is one: both ascend strictly, and have the same members.
pub one_list : (q : Query) (g h : Graph) → WellFormed g → WellFormed h → OthersDiffer q g h → (own q g).edges ≡ (own q h).edges
one_list q g h v w o = sym (told q g v) ∙ ap (map key_edge) keys ∙ told q h w
  where
    is : ℕ → ℕ → Bool
    is k j = eqb j k

    any_same : (k : ℕ) → any (is k) (own_keys q g) ≡ any (is k) (own_keys q h)
    any_same k =
        iff _ _ (found_in q g h v w o.named k) (found_in q h g w v (λ s l t n. sym (o.named s l t n)) k)

    keys : own_keys q g ≡ own_keys q h
    keys =
        ascending-same (own_keys q g) (own_keys q h) (own-ascend q g v) (own-ascend q h w)
        (λ k.
        one_same _ _ (ascending-once (own_keys q g) (own-ascend q g v) k) (ascending-once (own_keys q h) (own-ascend q h w) k)
        (sym (any-count (is k) (own_keys q g)) ∙ any_same k ∙ any-count (is k) (own_keys q h)))
