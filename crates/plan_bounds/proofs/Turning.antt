-- Laws of the code's pile operator by operator, and of what is answered at the end. Assumes nothing.
use mathlib.Core.Path.{◌≡◌, refl, sym, ◌∙◌, ap, ap₂}
use mathlib.Core.List.{List, [], ◌∷◌, ◌++◌, map}
use Prim.Native.Nat.{ℕ, ◌+◌, ◌*◌, max, ◌≤◌, ◌<◌}
use native.Mathlib.Nat.{mul_comm}
use native.Mathlib.Numerals.{add-one}
use native.Mathlib.Omega.{arith}
use lib.ListN.{length}
use Rattle.lists.specs.Lists.{range}
use Rattle.lists.proofs.All.{length-range}
use Rattle.lists.proofs.Count.{count-le, length-keep}
use Rattle.lists.proofs.Maps.{image-suc, length-image}
use Rattle.graph.specs.Graph.{Graph}
use Rattle.query.specs.Query.{Query, VertexSet, edge_at}
use Rattle.query.specs.Inner.Mask.{in_mask}
use Rattle.plan.specs.Plan.{Operator, scan, extend, join, ends, plus, union}
use Rattle.plan.specs.Inner.Struct.{operator_in, operators_in}
use Rattle.plan.specs.declared.Plan.{Plan as PlanStruct}
use Rattle.plan_order.specs.Order.{edges_of}
use Rattle.matching.specs.Row.{members, width}
use Rattle.operator_spec.specs.Join.{heads}
use Rattle.plan_bounds.specs.Bounds.{least_portion, sum_of_portions, Bound, rows_bound, cost_bound, apply_bound, bounds_after, StepBound, step_bound, step_bounds, top_rows_bound, top_need_bound, list_bound, need_bound, costs_bound, largest_bound}
use Rattle.plan_bounds.specs.Answer.{given}
use Rattle.plan_bounds.specs.Inner.Held.{Under, Put, Piled, After, Numbers}
use Rattle.plan_bounds.specs.declared.pile.Bounded.{Bounded}
use Rattle.plan_bounds.specs.declared.pile.Pile.{Pile}
use Rattle.plan_bounds.proofs.Capping.{cap-left, cap-mul, cap-need, cap-join}
use Rattle.plan_bounds.proofs.Piling.{Is, piled-still, piled-put, lies-under}

abbrev top : ℕ
top = 18446744073709551615

-- A row is no wider than the query.
pub narrow : (n : ℕ) (S : VertexSet) → n ≤ 8 → width n S ≤ 8
unfolding members
narrow n S l = omega (arith, length-keep S (range n), count-le S (range n), length-range n)

-- ---- one operator

pub scanned : (g : Graph) (q : Query) (i : ℕ) (p r : Pile) (b : Bounded) → Put p 0 b 0 r → in_mask b.set ≡ ends (edge_at q i)
    → b.rows ≡ edges_of g (edge_at q i).label → edges_of g (edge_at q i).label ≤ 1048575 → b.need ≡ 2 → After g q (scan i) p r
unfolding apply_bound rows_bound cost_bound
scanned g q i p r b put s w few n pile steps h =
    piled-put p r 0 b 0 put pile steps (omega arith) h (record { vertices = ends (edge_at q i); rows = edges_of g (edge_at q i).label; need = 2 }) 0
    (record { set = s; rows = omega (arith, w, few); need = n }) refl

pub extend-still : (g : Graph) (q : Query) (v : ℕ) (p : Pile) → p.depth < 1 → After g q (extend v) p p
unfolding apply_bound rows_bound cost_bound
extend-still g q v p l [] steps h = piled-still [] steps p _ refl refl h
extend-still g q v p l (c ∷ pile) steps h = absurd (omega (arith, h.depth))

pub join-still : (g : Graph) (q : Query) (p : Pile) → p.depth < 2 → After g q join p p
unfolding apply_bound rows_bound cost_bound
join-still g q p l [] steps h = piled-still [] steps p _ refl refl h
join-still g q p l (c ∷ []) steps h = piled-still (c ∷ []) steps p _ refl refl h
join-still g q p l (c ∷ d ∷ pile) steps h = absurd (omega (arith, h.depth))

pub extended-to : (g : Graph) (q : Query) (v : ℕ) (p r : Pile) (b e : Bounded) (cost lowest sum wide : ℕ) → 1 ≤ p.depth → Under p 0 b → Put p 1 e cost r
    → lowest ≡ least_portion g q (in_mask b.set) v → sum ≡ sum_of_portions g q (in_mask b.set) v
    → in_mask e.set ≡ plus v (in_mask b.set) → wide ≡ width q.vertices (in_mask e.set)
    → e.rows ≡ given (b.rows * lowest) → e.need ≡ given (b.need + (wide + lowest)) → cost ≡ given (b.rows * sum) → After g q (extend v) p r
unfolding apply_bound rows_bound cost_bound
extended-to g q v p r b e cost lowest sum wide l u put low tot s w rows need k [] steps h = absurd (omega (arith, h.depth))
extended-to g q v p r b e cost lowest sum wide l u put low tot s w rows need k (c ∷ pile) steps h =
    let is : Is c b = lies-under p steps (c ∷ pile) 0 b l h u c refl in
    let S : in_mask e.set ≡ plus v c.vertices = s ∙ ap (plus v) is.set in
    let least_is : lowest ≡ least_portion g q c.vertices v = low ∙ ap (λ (S : VertexSet). least_portion g q S v) is.set in
    let sum_is : sum ≡ sum_of_portions g q c.vertices v = tot ∙ ap (λ (S : VertexSet). sum_of_portions g q S v) is.set in
    let wide_is : wide ≡ width q.vertices (plus v c.vertices) = w ∙ ap (λ (S : VertexSet). width q.vertices S) S in
    piled-put p r 1 e cost put (c ∷ pile) steps l h
    (record { vertices = plus v c.vertices; rows = c.rows * least_portion g q c.vertices v; need = c.need + width q.vertices (plus v c.vertices) + least_portion g q c.vertices v })
    (c.rows * sum_of_portions g q c.vertices v)
    (record {
      set = S;
      rows = rows ∙ ap₂ (λ (m n : ℕ). given (m * n)) is.rows least_is ∙ cap-left top c.rows (least_portion g q c.vertices v);
      need =
          need ∙ ap₂ (λ (m n : ℕ). given (m + n)) is.need (ap₂ (λ (m n : ℕ). m + n) wide_is least_is)
          ∙ cap-need top c.need (width q.vertices (plus v c.vertices)) (least_portion g q c.vertices v);
    })
    (k ∙ ap₂ (λ (m n : ℕ). given (m * n)) is.rows sum_is ∙ cap-left top c.rows (sum_of_portions g q c.vertices v))

-- What the code says that a join needs.
abbrev pub join_words : ℕ → ℕ → ℕ → ℕ → ℕ → ℕ
join_words rows a need probe w =
    max (given (need + given (rows * a))) (given (given (given (rows * a) + given (rows + given (heads rows))) + given (probe + w)))

words_same : (r s a b n m p o w x : ℕ) → r ≡ s → a ≡ b → n ≡ m → p ≡ o → w ≡ x → join_words r a n p w ≡ join_words s b m o x
words_same r s a b n m p o w x e f i j k = rw (e, f, i, j, k)

product-given : (m n : ℕ) → given (given m * given n) ≡ given (m * n)
product-given m n = cap-mul top m n

pub joined_to : (g : Graph) (q : Query) (p r : Pile) (t b e : Bounded) (a w : ℕ) → 2 ≤ p.depth → Under p 0 t → Under p 1 b → Put p 2 e 0 r
    → a ≡ width q.vertices (in_mask b.set) → in_mask e.set ≡ union (in_mask b.set) (in_mask t.set) → w ≡ width q.vertices (in_mask e.set)
    → e.rows ≡ given (b.rows * t.rows) → e.need ≡ join_words b.rows a b.need t.need w → After g q join p r
unfolding apply_bound rows_bound cost_bound
joined_to g q p r t b e a w l u v put x s y rows need [] steps h = absurd (omega (arith, h.depth))
joined_to g q p r t b e a w l u v put x s y rows need (c ∷ []) steps h = absurd (omega (arith, h.depth))
joined_to g q p r t b e a w l u v put x s y rows need (c ∷ d ∷ pile) steps h =
    let it : Is c t = lies-under p steps (c ∷ d ∷ pile) 0 t (omega arith) h u c refl in
    let ib : Is d b = lies-under p steps (c ∷ d ∷ pile) 1 b l h v d refl in
    let S : in_mask e.set ≡ union d.vertices c.vertices = s ∙ ap₂ union ib.set it.set in
    let wide : w ≡ width q.vertices (union d.vertices c.vertices) = y ∙ ap (λ (S : VertexSet). width q.vertices S) S in
    let build : a ≡ width q.vertices d.vertices = x ∙ ap (λ (S : VertexSet). width q.vertices S) ib.set in
    piled-put p r 2 e 0 put (c ∷ d ∷ pile) steps l h
    (record {
      vertices = union d.vertices c.vertices;
      rows = d.rows * c.rows;
      need = max (d.need + d.rows * width q.vertices d.vertices)
          (d.rows * width q.vertices d.vertices + d.rows + heads d.rows + c.need + width q.vertices (union d.vertices c.vertices));
    })
    0
    (record {
      set = S;
      rows = rows ∙ ap₂ (λ (m n : ℕ). given (m * n)) ib.rows it.rows ∙ product-given d.rows c.rows;
      need =
          need ∙ words_same _ _ _ _ _ _ _ _ _ _ ib.rows build ib.need it.need wide
          ∙ cap-join top d.rows (width q.vertices d.vertices) d.need c.need (width q.vertices (union d.vertices c.vertices));
    })
    refl

-- ---- all of them

module _ (g : Graph) (q : Query) where
  after-snoc : (os : List Operator) (o : Operator) (pile : List Bound) → bounds_after g q pile (os ++ (o ∷ [])) ≡ apply_bound g q o (bounds_after g q pile os)
  unfolding bounds_after
  after-snoc [] o pile = refl
  after-snoc (x ∷ os) o pile = after-snoc os o (apply_bound g q x pile)

  steps-snoc : (os : List Operator) (o : Operator) (pile : List Bound)
      → step_bounds g q pile (os ++ (o ∷ [])) ≡ step_bounds g q pile os ++ (step_bound g q o (bounds_after g q pile os) ∷ [])
  unfolding step_bounds bounds_after
  steps-snoc [] o pile = refl
  steps-snoc (x ∷ os) o pile = ap (λ (l : List StepBound). step_bound g q x pile ∷ l) (steps-snoc os o (apply_bound g q x pile))

  apply-length : (o : Operator) (pile : List Bound) → length (apply_bound g q o pile) ≤ length pile + 1
  unfolding apply_bound
  apply-length (scan i) pile = omega arith
  apply-length (extend v) [] = omega arith
  apply-length (extend v) (b ∷ pile) = omega arith
  apply-length join [] = omega arith
  apply-length join (p ∷ []) = omega arith
  apply-length join (p ∷ b ∷ pile) = omega arith

  after-length : (os : List Operator) (pile : List Bound) → length (bounds_after g q pile os) ≤ length pile + length os
  unfolding bounds_after
  after-length [] pile = omega arith
  after-length (o ∷ os) pile = omega (arith, after-length os (apply_bound g q o pile), apply-length o pile)

  -- The operators before i of a struct.
  module _ (plan : PlanStruct) where
    abbrev pub before : ℕ → List Operator
    before i = map (operator_in plan) (range i)

    pub Turned : ℕ → Pile → Type 0
    Turned i p = Piled (bounds_after g q [] (before i)) (step_bounds g q [] (before i)) p

    pub turned_none : (p : Pile) → Piled [] [] p → Turned 0 p
    unfolding Turned bounds_after step_bounds range
    turned_none p h = h

    pub turned-next : (i : ℕ) (o : Operator) (p r : Pile) → o ≡ operator_in plan i → Turned i p → After g q o p r → Turned (i + 1) r
    unfolding Turned
    turned-next i o p r e h a =
        rw (add-one i, image-suc (operator_in plan) i, ← e, after-snoc (before i) o [], steps-snoc (before i) o []) (a (bounds_after g q [] (before i)) (step_bounds g q [] (before i)) h)

    pub turned-deep : (i : ℕ) (p : Pile) → Turned i p → p.depth ≤ i
    unfolding Turned
    turned-deep i p h = omega (arith, h.depth, after-length (before i) [], length-image (operator_in plan) i)

    pub turned-all : (i : ℕ) (p : Pile) → i ≡ plan.operators → Turned i p → Piled (bounds_after g q [] (operators_in plan)) (step_bounds g q [] (operators_in plan)) p
    unfolding Turned operators_in
    turned-all i p e h = rw (← e) h

-- ---- what is answered

module _ (g : Graph) (q : Query) (os : List Operator) (p : Pile) (h : Piled (bounds_after g q [] os) (step_bounds g q [] os) p) where
  pub numbers-none : p.depth < 1 → Numbers g q os (record { refusal = 0; list_words = 0; scratch_words = 0; cost = p.cost; largest = p.largest })
  unfolding list_bound need_bound costs_bound largest_bound top_rows_bound top_need_bound
  numbers-none l =
      let none : bounds_after g q [] os ≡ [] = empty (bounds_after g q [] os) (omega (arith, h.depth)) in
      record {
        refusal = refl;
        list = sym (rw none (omega arith));
        scratch = sym (rw none refl);
        cost = h.costs;
        largest_is = h.largest_is;
      }
    where
      empty : (pile : List Bound) → length pile < 1 → pile ≡ []
      empty [] l = refl
      empty (b ∷ pile) l = absurd (omega arith)

  pub numbers-top : (b : Bounded) (n words : ℕ) → 1 ≤ p.depth → Under p 0 b → n ≡ q.vertices → words ≡ given (n * b.rows)
      → Numbers g q os (record { refusal = 0; list_words = words; scratch_words = b.need; cost = p.cost; largest = p.largest })
  unfolding list_bound need_bound costs_bound largest_bound top_rows_bound top_need_bound
  numbers-top b n words l u v w = go (bounds_after g q [] os) refl
    where
      go : (pile : List Bound) → bounds_after g q [] os ≡ pile → Numbers g q os (record { refusal = 0; list_words = words; scratch_words = b.need; cost = p.cost; largest = p.largest })
      go [] e = absurd (omega (arith, h.depth, ap length e))
      go (c ∷ pile) e =
          let is : Is c b = lies-under p (step_bounds g q [] os) (c ∷ pile) 0 b l (rw e at h) u c refl in
          record {
            refusal = refl;
            list =
                w ∙ ap₂ (λ (m k : ℕ). given (m * k)) v is.rows ∙ ap given (mul_comm q.vertices (given c.rows))
                ∙ cap-left top c.rows q.vertices ∙ ap given (mul_comm c.rows q.vertices) ∙ ap (λ (pile : List Bound). given (q.vertices * top_rows_bound pile)) (sym e);
            scratch = is.need ∙ ap (λ (pile : List Bound). given (top_need_bound pile)) (sym e);
            cost = h.costs;
            largest_is = h.largest_is;
          }
