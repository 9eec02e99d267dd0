-- Laws of the sets that results cover, as masks. Assumes nothing.
use mathlib.Core.Path.{◌≡◌, refl, sym, ◌∙◌, ap, ap₂, fun_ext}
use mathlib.Core.Bool.{Bool, true, false, not, ◌&&◌, ◌||◌, not-not}
use Prim.Native.Nat.{ℕ, ◌^◌, ◌<◌}
use native.Mathlib.Nat.{lt_of_lt_of_le, lt_of_le_of_lt}
use native.Mathlib.Omega.{arith}
use borrow.Author.Tests.{ltb-true}
use lib.Dec.{eqb, ltb, lit≤}
use lib.Bits.{bit_and, bit_or, and_le_l}
use lib.ListN.{length}
use Rattle.lists.specs.Lists.{◌implies◌, range, all, any}
use Rattle.lists.proofs.Tests.{clash, fails, imp_intro, or_intro_l, or_intro_r}
use Rattle.lists.proofs.Maps.{length-image}
use Rattle.lists.proofs.Any.{any-all}
use Rattle.lists.proofs.All.{get_or-all, all_get_d}
use Rattle.graph.specs.Graph.{Edge}
use Rattle.query.specs.Query.{VertexSet, inside, edge_at}
use Rattle.query.specs.Inner.Mask.{in_mask, MaskOf, only}
use Rattle.query.specs.Inner.Struct.{edge_of, query_in, Held}
use Rattle.query.specs.declared.Query.{Query as QueryStruct}
use Rattle.query.proofs.Structs.{edge_in_lem}
use Rattle.query.proofs.Masks.{in-or, in_and, mask-all}
use Rattle.plan.specs.Plan.{scan, extend, plus, union}
use Rattle.plan.specs.Inner.Pile.{named, kept}

-- A mask of both sides' vertices is that of their union.
pub or_set : (b p : ℕ) → in_mask (bit_or b p) ≡ union (in_mask b) (in_mask p)
or_set b p = fun_ext (in-or b p)

-- The mask of v and a set's is that of the set with v.
pub plus-set : (v m s : ℕ) → MaskOf m (only v) → in_mask (bit_or m s) ≡ plus v (in_mask s)
plus-set v m s h = or_set m s ∙ fun_ext (λ w. ap (λ (b : Bool). b || in_mask s w) (h w))

-- Some vertex below n passes a test where the mask of those below n and that of the test's have one in common.
pub any-mask : (k a m n : ℕ) (t : VertexSet) → a < 2 ^ k → MaskOf a (λ (w : ℕ). ltb w n) → MaskOf m t → any t (range n) ≡ not (eqb (bit_and a m) 0)
any-mask k a m n t h below ms =
    any-all t (range n)
    ∙ ap not
    (mask-all k (bit_and a m) n (λ (w : ℕ). not (t w)) (lt_of_le_of_lt (and_le_l a m) h)
    (λ w. in_and a m w ∙ ap₂ ◌&&◌ (below w) (ms w ∙ sym (not-not (t w)))))

-- An edge within one of two sets is kept by their join; within neither, it is lost where it lies within the union.
module _ (b p : ℕ) (e : Edge) where
  pub kept-build : inside (in_mask b) e ≡ true → kept (in_mask b) (in_mask p) e ≡ true
  kept-build h = imp_intro (inside (union (in_mask b) (in_mask p)) e) _ (λ u. or_intro_l (inside (in_mask b) e) (inside (in_mask p) e) h)

  pub kept-probe : inside (in_mask p) e ≡ true → kept (in_mask b) (in_mask p) e ≡ true
  kept-probe h = imp_intro (inside (union (in_mask b) (in_mask p)) e) _ (λ u. or_intro_r (inside (in_mask b) e) (inside (in_mask p) e) h)

  pub kept-neither : inside (in_mask b) e ≡ false → inside (in_mask p) e ≡ false → not (kept (in_mask b) (in_mask p) e) ≡ inside (in_mask (bit_or b p)) e
  kept-neither h k = rw (or_set b p, h, k) (not-imp (inside (union (in_mask b) (in_mask p)) e))
    where
      not-imp : (u : Bool) → not (u implies false) ≡ u
      not-imp true = refl
      not-imp false = refl

-- The ends of a query edge are vertices of a mask.
pub edge-source : (d : QueryStruct) → Held d → (i : ℕ) → i < d.edges → (edge_at (query_in d) i).source < 32
edge-source d h i l = rw (edge_in_lem d i l) (lt_of_lt_of_le (h.source i l) (lit≤ tt))

pub edge-target : (d : QueryStruct) → Held d → (i : ℕ) → i < d.edges → (edge_at (query_in d) i).target < 32
edge-target d h i l = rw (edge_in_lem d i l) (lt_of_lt_of_le (h.target i l) (lit≤ tt))

-- A test of every query edge, by the edges' indices.
pub edges-length : (d : QueryStruct) → length (query_in d).edges ≡ d.edges
unfolding query_in
edges-length d = length-image (edge_of d) d.edges

pub edges-pass : (d : QueryStruct) (t : Edge → Bool) → ((i : ℕ) → i < d.edges → t (edge_at (query_in d) i) ≡ true) → all t (query_in d).edges ≡ true
edges-pass d t h = get_or-all t (query_in d).edges _ (λ i l. h i (rw (edges-length d) at l))

pub edge-fails : (d : QueryStruct) (t : Edge → Bool) (i : ℕ) → i < d.edges → t (edge_at (query_in d) i) ≡ false → all t (query_in d).edges ≡ false
edge-fails d t i l e = fails (all t (query_in d).edges) (λ a. clash (all_get_d t (query_in d).edges i _ (rw (edges-length d) l) a) e)

-- The vertex and the edge that a named operator has.
pub named-vertex : (d : QueryStruct) → Held d → (v : ℕ) → named (query_in d) (extend v) ≡ true → v < 32
unfolding query_in
named-vertex d h v e = omega (arith, ltb-true v d.vertices e, h.vertices)

pub named-edge : (d : QueryStruct) (i : ℕ) → named (query_in d) (scan i) ≡ true → i < d.edges
named-edge d i e = rw (edges-length d) at (ltb-true i (length (query_in d).edges) e)
