-- Laws of the edges of a vertex: those between it and the covered ones, and their labels. Assumes nothing.
use mathlib.Core.Path.{◌≡◌, refl, sym, ◌∙◌, ap, fun_ext}
use mathlib.Core.Bool.{Bool, true, false, ◌&&◌, ◌||◌, and-true, and-false}
use mathlib.Core.List.{map}
use Prim.Native.Nat.{ℕ, ◌+◌, ◌≤◌, ◌<◌}
use native.Mathlib.Numerals.{add-one}
use native.Mathlib.Omega.{arith}
use lib.Dec.{eqb, ltb}
use borrow.Author.Tests.{eqb-true, ltb-true, eq-eqb, ne_eqb}
use Rattle.lists.specs.Lists.{bit, range, count_if}
use Rattle.lists.proofs.All.{all_get_d}
use Rattle.lists.proofs.Count.{count-le, count-snoc}
use Rattle.lists.proofs.Maps.{length-image, image-suc}
use Rattle.graph.specs.Graph.{Edge}
use Rattle.query.specs.Query.{VertexSet, edge_at, between}
use Rattle.query.specs.Inner.Mask.{in_mask, MaskOf}
use Rattle.query.specs.Inner.Struct.{edge_struct, as_edge, edge_of, query_in, Held}
use Rattle.query.specs.declared.Edge.{Edge as EdgeStruct}
use Rattle.query.specs.declared.Query.{Query as QueryStruct}
use Rattle.plan.specs.Plan.{ends}
use Rattle.plan.proofs.Sets.{edge-source, edge-target, edges-length}
use Rattle.plan_order.specs.Order.{degree}
use Rattle.plan_order.specs.Inner.Counts.{Drawable}

module _ (v : ℕ) (S : VertexSet) (e : Edge) where
  pub joins-out : e.source ≡ v → between v S e ≡ S e.target
  joins-out i = rw (eq-eqb e.source v i) (go (eqb e.target v) refl (S e.target) refl)
    where
      go : (b : Bool) → eqb e.target v ≡ b → (t : Bool) → S e.target ≡ t → (t || S e.source && b) ≡ t
      go b p true s = refl
      go true p false s = and-true (S e.source) ∙ ap S (i ∙ sym (eqb-true e.target v p)) ∙ s
      go false p false s = and-false (S e.source)

  pub joins-in : (e.source ≡ v → ⊥) → e.target ≡ v → between v S e ≡ S e.source
  joins-in n i = rw (ne_eqb e.source v n, eq-eqb e.target v i) (and-true (S e.source))

  pub joins-not : (e.source ≡ v → ⊥) → (e.target ≡ v → ⊥) → between v S e ≡ false
  joins-not n m = rw (ne_eqb e.source v n, ne_eqb e.target v m) (and-false (S e.source))

-- The edge that `edge` returns, of a query that was read: its ends are vertices of a mask, and its label is a byte.
module _ (d : QueryStruct) (i : ℕ) (h : i < d.edges) (e : EdgeStruct) (r : e ≡ edge_struct (edge_at (query_in d) i)) where
  pub edge-ends : Held d → (e.source < 32) × (e.target < 32)
  edge-ends held = rw r (edge-source d held i h, edge-target d held i h)

  pub edge-label : e.label ≡ (edge_at (query_in d) i).label
  edge-label = ap (λ (s : EdgeStruct). s.label) r

  pub label-byte : Drawable d → e.label < 256
  label-byte ok =
      rw edge-label
      (ltb-true (edge_at (query_in d) i).label 256 (all_get_d (λ (e : Edge). ltb e.label 256) (query_in d).edges i _ (rw (edges-length d) h) ok.labels))

-- The mask of an edge's ends.
pub ends-mask : (d : QueryStruct) (i : ℕ) (e : EdgeStruct) (m : ℕ) → e ≡ edge_struct (edge_at (query_in d) i) → MaskOf m (ends (as_edge e)) → in_mask m ≡ ends (edge_at (query_in d) i)
ends-mask d i e m r h = fun_ext (λ w. h w ∙ ap (λ (s : EdgeStruct). ends (as_edge s) w) r)

pub vertices-in : (d : QueryStruct) → (query_in d).vertices ≡ d.vertices
unfolding query_in
vertices-in d = refl

-- Of the first i edges of a struct.
abbrev pub joined : QueryStruct → ℕ → VertexSet → ℕ → ℕ
joined d v S i = count_if (between v S) (map (edge_of d) (range i))

module _ (d : QueryStruct) (v : ℕ) (S : VertexSet) where
  pub joined-none : joined d v S 0 ≡ 0
  unfolding count_if range
  joined-none = refl

  pub joined-le : (i : ℕ) → joined d v S i ≤ i
  joined-le i = omega (arith, count-le (between v S) (map (edge_of d) (range i)), length-image (edge_of d) i)

  pub joined-more : (i : ℕ) → joined d v S (i + 1) ≡ joined d v S i + bit (between v S (edge_of d i))
  joined-more i = rw (add-one i, image-suc (edge_of d) i) (count-snoc (between v S) (map (edge_of d) (range i)) (edge_of d i))

  pub degree-covered : S v ≡ true → 0 ≡ degree (query_in d) S v
  unfolding degree
  degree-covered e = rw e

  pub degree-all : S v ≡ false → joined d v S d.edges ≡ degree (query_in d) S v
  unfolding degree query_in
  degree-all e = rw e
