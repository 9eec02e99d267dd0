-- Laws of the longest portions as the code finds them, and of a label's edges. Assumes nothing.
use mathlib.Core.Path.{◌≡◌, refl, sym, ◌∙◌, ap, ap₂}
use mathlib.Core.Bool.{Bool, true, false, cond, ◌&&◌}
use mathlib.Core.List.{List, [], ◌∷◌, ◌++◌, map, map-append, append-nil}
use Prim.Native.Nat.{ℕ, ◌+◌, ◌/◌, min, max, ◌≤◌, ◌<◌}
use native.Mathlib.Numerals.{add-one}
use native.Mathlib.Omega.{arith}
use lib.Dec.{eqb}
use lib.ListN.{length, get_or, take, drop, length-append}
use borrow.Author.Tests.{eqb-true, eqb-false, eq-eqb, ne_eqb}
use Rattle.lists.specs.Lists.{bit, range, keep, count_if, total, largest}
use mir.Val.{bool_byte}
use Rattle.lists.proofs.Bits.{bit_le}
use Rattle.lists.proofs.All.{keep_append}
use Rattle.lists.proofs.Count.{count-le, length-keep, total-append, total-map, largest-snoc}
use Rattle.lists.proofs.Maps.{image-suc, get_or-image}
use Rattle.graph.specs.Graph.{Edge, Graph, Direction, forward, backward, near, covers, portion_length}
use Rattle.graph.specs.Store.{graph_in, store_fault}
use Rattle.graph.specs.Inner.Side.{side_at}
use Rattle.graph.specs.declared.Graph.{Graph as GraphStruct}
use Rattle.adjacency.specs.Inner.Side.{list_on, vertices_in, edges_in, side_in, Lookup}
use Rattle.adjacency.specs.Inner.Portion.{list_of, portion}
use Rattle.adjacency.proofs.Accepted.{graph-formed, lookup-list}
use Rattle.adjacency.proofs.Portions.{portion-length}
use Rattle.query.specs.Query.{Query, VertexSet, between}
use Rattle.query.specs.Inner.Struct.{edge_of, query_in}
use Rattle.query.specs.declared.Query.{Query as QueryStruct}
use Rattle.plan_order.specs.Order.{edges_of}
use Rattle.plan_order.specs.Inner.Counts.{label_counts, edge_counts}
use Rattle.plan_order.proofs.Tallies.{part-counts}
use Rattle.plan_bounds.specs.Bounds.{least, longest_portion, longest_for, least_portion, sum_of_portions}
use Rattle.plan_bounds.specs.Inner.Held.{Sided, Counts, Seen, covering}
use Rattle.plan_bounds.specs.declared.longest.Portions.{Portions}
use Rattle.plan_bounds.proofs.Counting.{largest-at-most, least-at-most, least-one, least-snoc}

-- ---- portions seen one by one

pub seen_none : (p : Portions) → p.count ≡ 0 → p.least ≡ 0 → p.sum ≡ 0 → Seen [] p
unfolding least total
seen_none p c l s = record { count = c; least_is = l; sum_is = s }

pub seen_more : (p r : Portions) (n : ℕ) → r.count ≡ p.count + 1 → r.sum ≡ p.sum + n → (p.count ≡ 0 → r.least ≡ n)
    → ((p.count ≡ 0 → ⊥) → r.least ≡ min p.least n) → (lengths : List ℕ) → Seen lengths p → Seen (lengths ++ (n ∷ [])) r
unfolding total
seen_more p r n c s one more lengths h =
    record {
      count = omega (arith, c, h.count, length-append lengths (n ∷ []));
      least_is = go (eqb p.count 0) refl;
      sum_is = omega (arith, s, h.sum_is, total-append (λ (k : ℕ). k) lengths (n ∷ []));
    }
  where
    go : (b : Bool) → eqb p.count 0 ≡ b → r.least ≡ least (λ (k : ℕ). k) (lengths ++ (n ∷ []))
    go true e =
        let z : p.count ≡ 0 = eqb-true p.count 0 e in
        one z ∙ sym (least-one (λ (k : ℕ). k) lengths n (sym h.count ∙ z))
    go false e =
        let z : (p.count ≡ 0 → ⊥) = eqb-false p.count 0 e in
        more z ∙ ap (λ (k : ℕ). min k n) h.least_is ∙ sym (least-snoc (λ (k : ℕ). k) lengths n (omega (arith, h.count, z)))

-- The longest portions of the first i query edges that run between v and S.
abbrev pub lengths_of : Graph → QueryStruct → ℕ → VertexSet → ℕ → List ℕ
lengths_of g q v S i = map (longest_for g v) (keep (between v S) (map (edge_of q) (range i)))

least-map : {A : Type 0} (f : A → ℕ) (xs : List A) → least (λ (n : ℕ). n) (map f xs) ≡ least f xs
unfolding least
least-map f [] = refl
least-map f (x ∷ []) = refl
least-map f (x ∷ y ∷ xs) = ap (min (f x)) (least-map f (y ∷ xs))

module _ (g : Graph) (q : QueryStruct) (v : ℕ) (S : VertexSet) where
  pub lengths_none : lengths_of g q v S 0 ≡ []
  unfolding range keep
  lengths_none = refl

  next : (i : ℕ) → keep (between v S) (map (edge_of q) (range (i + 1))) ≡ keep (between v S) (map (edge_of q) (range i)) ++ keep (between v S) (edge_of q i ∷ [])
  next i = rw (add-one i, image-suc (edge_of q) i) (keep_append (between v S) (map (edge_of q) (range i)) (edge_of q i ∷ []))

  pub lengths-skip : (i : ℕ) → between v S (edge_of q i) ≡ false → lengths_of g q v S (i + 1) ≡ lengths_of g q v S i
  unfolding keep
  lengths-skip i e = rw (next i, e, append-nil (keep (between v S) (map (edge_of q) (range i))))

  pub lengths-more : (i : ℕ) → between v S (edge_of q i) ≡ true → lengths_of g q v S (i + 1) ≡ lengths_of g q v S i ++ (longest_for g v (edge_of q i) ∷ [])
  unfolding keep
  lengths-more i e = rw (next i, e) (map-append (longest_for g v) (keep (between v S) (map (edge_of q) (range i))) (edge_of q i ∷ []))

  pub seen_all : (p : Portions) → Seen (lengths_of g q v S q.edges) p → (p.least ≡ least_portion g (query_in q) S v) × (p.sum ≡ sum_of_portions g (query_in q) S v)
  unfolding least_portion sum_of_portions query_in
  seen_all p h =
      (h.least_is ∙ least-map (longest_for g v) _, h.sum_is ∙ total-map (λ (n : ℕ). n) (longest_for g v) (keep (between v S) (map (edge_of q) (range q.edges))))

-- ---- the longest portion on a side

largest-next : (f : ℕ → ℕ) (v : ℕ) → largest f (range (v + 1)) ≡ max (largest f (range v)) (f v)
unfolding range
largest-next f v = rw (add-one v) (largest-snoc f (range v) v)

pub longest-pass : (f : ℕ → ℕ) (most v : ℕ) → most ≡ largest f (range v) → f v ≤ most → most ≡ largest f (range (v + 1))
longest-pass f most v e l = omega (arith, largest-next f v)

pub longest-max : (f : ℕ → ℕ) (most v n : ℕ) → most ≡ largest f (range v) → n ≡ f v → max most n ≡ largest f (range (v + 1))
longest-max f most v n e i = omega (arith, largest-next f v)

module _ (store : List ℕ) (n side : ℕ) (asked : Sided store n side) (v : ℕ) (below : v < n) where
  pub lookup : Lookup store n side v
  lookup = record { accepted = asked.accepted; vertices = asked.vertices; vertex_in = below; direction = asked.direction; begins = asked.begins }

  -- A portion's length, and that it is at most that of the whole list.
  pub portion-is : (d : Direction) (l : ℕ) → length (portion d (graph_in store) l v) ≡ portion_length (graph_in store) d l v
  portion-is d l = portion-length (graph_in store) (graph-formed store asked.accepted) d l v

  pub portion-in-list : (d : Direction) → side ≡ side_in d store → (l : ℕ) → portion_length (graph_in store) d l v ≤ length (list_on store n side v)
  unfolding portion
  portion-in-list d e l =
      rw (← portion-is d l, lookup-list store n side v lookup d e, length-keep (λ (k : ℕ). covers l (k / 65536)) (list_of d (graph_in store) v))
      (count-le (λ (k : ℕ). covers l (k / 65536)) (list_of d (graph_in store) v))

pub longest-all : (store : List ℕ) (n side : ℕ) (d : Direction) (l : ℕ) → Sided store n side → (v : ℕ) → v ≡ n
    → largest (portion_length (graph_in store) d l) (range v) ≡ longest_portion (graph_in store) d l
unfolding longest_portion graph_in
longest-all store n side d l asked v e = rw (e, asked.vertices)

few-portion : (g : Graph) → length g.edges < 1048576 → (d : Direction) (l : ℕ) → longest_portion g d l ≤ 1048575
unfolding longest_portion portion_length
few-portion g few d l =
    largest-at-most (portion_length g d l) 1048575 (range g.vertices) (λ x. omega (arith, count-le (λ (e : Edge). eqb (near d e) x && covers l e.label) g.edges))

pub longest-few : (store : List ℕ) → store_fault store ≡ 0 → (v : ℕ) (e : Edge) → longest_for (graph_in store) v e ≤ 1048575
unfolding longest_for
longest-few store good v e = go (eqb e.source v)
  where
    each : (d : Direction) → longest_portion (graph_in store) d e.label ≤ 1048575
    each d = few-portion (graph_in store) (graph-formed store good).few_edges d e.label

    go : (b : Bool) → cond b (longest_portion (graph_in store) backward e.label) (longest_portion (graph_in store) forward e.label) ≤ 1048575
    go true = each backward
    go false = each forward

pub least-few : (store : List ℕ) → store_fault store ≡ 0 → (q : Query) (S : VertexSet) (v : ℕ) → least_portion (graph_in store) q S v ≤ 1048575
unfolding least_portion
least-few store good q S v = least-at-most (longest_for (graph_in store) v) 1048575 (keep (between v S) q.edges) (longest-few store good v)

-- The side of a direction, and the portion of an edge by its end.
module _ (store : List ℕ) (g : GraphStruct) (side : ℕ) (asked : Counts store g) where
  pub side-forward : side ≡ side_at forward g.vertices g.edges → side ≡ side_in forward store
  side-forward e = e ∙ ap₂ (side_at forward) asked.vertices asked.edges

  pub side-backward : side ≡ side_at backward g.vertices g.edges → side ≡ side_in backward store
  side-backward e = e ∙ ap₂ (side_at backward) asked.vertices asked.edges

  pub sided-forward : side ≡ side_at forward g.vertices g.edges → Sided store g.vertices side
  sided-forward e = record { accepted = asked.accepted; vertices = asked.vertices; direction = forward; begins = side-forward e }

  pub sided-backward : side ≡ side_at backward g.vertices g.edges → Sided store g.vertices side
  sided-backward e = record { accepted = asked.accepted; vertices = asked.vertices; direction = backward; begins = side-backward e }

module _ (g : Graph) (v : ℕ) (e : Edge) where
  pub for-backward : e.source ≡ v → longest_for g v e ≡ longest_portion g backward e.label
  unfolding longest_for
  for-backward i = rw (eq-eqb e.source v i)

  pub for-forward : (e.source ≡ v → ⊥) → longest_for g v e ≡ longest_portion g forward e.label
  unfolding longest_for
  for-forward n = rw (ne_eqb e.source v n)

-- ---- a label's edges

pub byte-bit : (b : Bool) → bool_byte b ≡ bit b
byte-bit true = refl
byte-bit false = refl

pub byte_le : (b : Bool) → bool_byte b ≤ 1
byte_le b = omega (arith, byte-bit b, bit_le b)

module _ (store : List ℕ) (good : store_fault store ≡ 0) where
  pub edges-label : (l : ℕ) → l < 256 → count_if (covering l) (take (edges_in store) (drop (side_at forward (vertices_in store) (edges_in store) + vertices_in store + 1) store)) ≡ edges_of (graph_in store) l
  unfolding label_counts edge_counts
  edges-label l h =
      let part : List ℕ = take (edges_in store) (drop (side_at forward (vertices_in store) (edges_in store) + vertices_in store + 1) store) in
      sym (get_or-image (λ (l : ℕ). count_if (covering l) part) 256 l 0 h)
      ∙ ap (λ (s : List ℕ). get_or s l 0) (part-counts store good)
      ∙ get_or-image (edges_of (graph_in store)) 256 l 0 h

  pub edges_few : (l : ℕ) → edges_of (graph_in store) l ≤ 1048575
  unfolding edges_of
  edges_few l = omega (arith, count-le (λ (e : Edge). covers l e.label) (graph_in store).edges, (graph-formed store good).few_edges)
