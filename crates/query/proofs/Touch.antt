-- Laws of the edges between a vertex and a set: they are those to each vertex of the set. Assumes nothing.
use mathlib.Core.Path.{◌≡◌, refl, sym, ◌∙◌, ap, ap₂}
use mathlib.Core.Bool.{Bool, true, false, not, ◌&&◌, ◌||◌, and-true, and-false}
use mathlib.Core.List.{List, [], ◌∷◌, map}
use Prim.Native.Nat.{ℕ, ◌+◌, ◌^◌, ◌<◌}
use native.Mathlib.Numerals.{add-one}
use native.Mathlib.Nat.{lt_of_le_of_lt}
use lib.Dec.{eqb}
use lib.Bits.{bit_and, bit_or, and_le_l}
use borrow.Author.Tests.{eqb-true, eq-eqb, ne_eqb}
use Rattle.lists.specs.Lists.{range, any}
use Rattle.lists.proofs.Tests.{clash, fails, and_l, and_r, and_both, or_intro_l, or_intro_r, or_elim, eqb_refl, eqb-sym}
use Rattle.lists.proofs.Any.{any-suc, any-follows}
use Rattle.graph.specs.Graph.{Edge}
use Rattle.query.specs.Query.{Query, VertexSet, between, touches}
use Rattle.query.specs.Inner.Mask.{in_mask, MaskOf, only, neighbours}
use Rattle.query.specs.Inner.Struct.{edge_of, query_in}
use Rattle.query.specs.declared.Query.{Query as QueryStruct}
use Rattle.query.proofs.Masks.{in-or, in_and, in-none, mask-empty}

-- The other end of an edge of v is the vertex that the edge joins to v.
pub from-source : (e : Edge) (v w : ℕ) → e.source ≡ v → between v (only w) e ≡ only e.target w
from-source e v w i = rw (eq-eqb e.source v i) (go (eqb e.target w) refl)
  where
    go : (b : Bool) → eqb e.target w ≡ b → (b || eqb e.source w && eqb e.target v) ≡ eqb w e.target
    go true t = sym (eqb-sym w e.target ∙ t)
    go false t =
        fails (eqb e.source w && eqb e.target v) (λ b.
        let s : e.source ≡ w = eqb-true e.source w (and_l (eqb e.source w) (eqb e.target v) b) in
        let u : e.target ≡ v = eqb-true e.target v (and_r (eqb e.source w) (eqb e.target v) b) in
        clash (eq-eqb e.target w (cc)) t)
        ∙ sym (eqb-sym w e.target ∙ t)

pub from-target : (e : Edge) (v w : ℕ) → (e.source ≡ v → ⊥) → e.target ≡ v → between v (only w) e ≡ only e.source w
from-target e v w n i = rw (ne_eqb e.source v n, eq-eqb e.target v i) (and-true (eqb e.source w) ∙ eqb-sym e.source w)

pub from-neither : (e : Edge) (v w : ℕ) → (e.source ≡ v → ⊥) → (e.target ≡ v → ⊥) → between v (only w) e ≡ false
from-neither e v w n m = rw (ne_eqb e.source v n, ne_eqb e.target v m) (and-false (eqb e.source w))

-- An edge between v and S is an edge between v and a vertex of S.
pub between-one : (v u : ℕ) (S : VertexSet) (e : Edge) → S u ≡ true → between v (only u) e ≡ true → between v S e ≡ true
between-one v u S e s t =
    or_elim (eqb e.source v && eqb e.target u) (eqb e.source u && eqb e.target v) t
    (λ h. or_intro_l (eqb e.source v && S e.target) (S e.source && eqb e.target v)
    (and_both (eqb e.source v) (S e.target) (and_l (eqb e.source v) (eqb e.target u) h)
    (ap S (eqb-true e.target u (and_r (eqb e.source v) (eqb e.target u) h)) ∙ s)))
    (λ h. or_intro_r (eqb e.source v && S e.target) (S e.source && eqb e.target v)
    (and_both (S e.source) (eqb e.target v) (ap S (eqb-true e.source u (and_l (eqb e.source u) (eqb e.target v) h)) ∙ s)
    (and_r (eqb e.source u) (eqb e.target v) h)))

pub between-some : (v : ℕ) (S : VertexSet) (e : Edge) → between v S e ≡ true → (u : ℕ) × (S u ≡ true) × (between v (only u) e ≡ true)
between-some v S e t =
    or_elim (eqb e.source v && S e.target) (S e.source && eqb e.target v) t
    (λ h. (
      e.target,
      and_r (eqb e.source v) (S e.target) h,
      or_intro_l (eqb e.source v && eqb e.target e.target) (eqb e.source e.target && eqb e.target v)
          (and_both (eqb e.source v) (eqb e.target e.target) (and_l (eqb e.source v) (S e.target) h) (eqb_refl e.target)),
    ))
    (λ h. (
      e.source,
      and_l (S e.source) (eqb e.target v) h,
      or_intro_r (eqb e.source v && eqb e.target e.source) (eqb e.source e.source && eqb e.target v)
          (and_both (eqb e.source e.source) (eqb e.target v) (eqb_refl e.source) (and_r (S e.source) (eqb e.target v) h)),
    ))

-- So some query edge runs between v and S exactly where S has a neighbour of v.
pub touches-one : (q : Query) (v u : ℕ) (S : VertexSet) → S u ≡ true → neighbours q v u ≡ true → touches q v S ≡ true
touches-one q v u S s t = any-follows (between v (only u)) (between v S) q.edges t (λ e. between-one v u S e s)

pub touches-some : (q : Query) (v : ℕ) (S : VertexSet) → touches q v S ≡ true → (u : ℕ) × (S u ≡ true) × (neighbours q v u ≡ true)
unfolding any
touches-some q v S = go q.edges
  where
    go : (es : List Edge) → any (between v S) es ≡ true → (u : ℕ) × (S u ≡ true) × (any (between v (only u)) es ≡ true)
    go [] t = clash t refl
    go (e ∷ es) t =
        or_elim (between v S e) (any (between v S) es) t
        (λ h. let f = between-some v S e h in (f.0, f.1, or_intro_l (between v (only f.0) e) (any (between v (only f.0)) es) f.2))
        (λ h. let f = go es h in (f.0, f.1, or_intro_r (between v (only f.0) e) (any (between v (only f.0)) es) f.2))

-- As masks: the neighbours of v and S have a vertex in common.
pub touches-mask : (k a m : ℕ) (q : Query) (v : ℕ) (S : VertexSet) → a < 2 ^ k → MaskOf a (neighbours q v) → MaskOf m S
    → touches q v S ≡ not (eqb (bit_and a m) 0)
touches-mask k a m q v S h na ms = go (touches q v S) refl
  where
    go : (b : Bool) → touches q v S ≡ b → b ≡ not (eqb (bit_and a m) 0)
    go true t =
        let f = touches-some q v S t in
        let both : in_mask (bit_and a m) f.0 ≡ true = in_and a m f.0 ∙ and_both _ _ (na f.0 ∙ f.2) (ms f.0 ∙ f.1) in
        rw (ne_eqb (bit_and a m) 0 (λ z. clash both (ap (λ (n : ℕ). in_mask n f.0) z ∙ in-none f.0))) refl
    go false t =
        rw (eq-eqb (bit_and a m) 0
        (mask-empty k (bit_and a m) (lt_of_le_of_lt (and_le_l a m) h) (λ u. in_and a m u ∙ fails (in_mask a u && in_mask m u) (λ b.
        clash
        (touches-one q v u S (sym (ms u) ∙ and_r (in_mask a u) (in_mask m u) b) (sym (na u) ∙ and_l (in_mask a u) (in_mask m u) b)) t)))) refl

-- ---- the neighbours of v by the first edges of a struct

abbrev pub by_first : QueryStruct → ℕ → ℕ → VertexSet
by_first d v i w = any (between v (only w)) (map (edge_of d) (range i))

pub by-none : (d : QueryStruct) (v : ℕ) → MaskOf 0 (by_first d v 0)
unfolding any range
by-none d v w = in-none w

pub by_next : (d : QueryStruct) (v i m n : ℕ) (e : Edge) → e ≡ edge_of d i → MaskOf m (by_first d v i)
    → MaskOf n (λ (w : ℕ). between v (only w) e) → MaskOf (bit_or m n) (by_first d v (i + 1))
by_next d v i m n e r hm hn w =
    in-or m n w ∙ ap₂ (λ (a b : Bool). a || b) (hm w) (hn w ∙ ap (between v (only w)) r)
    ∙ rw add-one (sym (any-suc (between v (only w)) (edge_of d) i))

pub by_all : (d : QueryStruct) (v : ℕ) (w : ℕ) → by_first d v d.edges w ≡ neighbours (query_in d) v w
unfolding query_in
by_all d v w = refl
