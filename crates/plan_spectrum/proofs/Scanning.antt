-- Laws of the loop that lists all orderings, one scan after the other. Assumes nothing.
use mathlib.Core.Path.{◌≡◌, refl, sym, ◌∙◌, ap, ap₂, subst, fun_ext}
use mathlib.Core.Bool.{true}
use mathlib.Core.List.{List, [], ◌∷◌, ◌++◌, flat_map}
use Prim.Native.Nat.{ℕ, suc, ◌+◌, ◌-◌, ◌*◌, ◌≤◌, ◌<◌}
use native.Mathlib.Nat.{mul-le-mul_left, mul-le-mul_right}
use native.Mathlib.Numerals.{add-one}
use native.Mathlib.Omega.{arith}
use lib.ListN.{length, take, drop, length-append, length-drop, length-map}
use Rattle.lists.specs.Lists.{range}
use Rattle.lists.proofs.Parts.{rest_at}
use Rattle.lists.proofs.Maps.{flat_map-suc}
use Rattle.query.specs.Query.{Query, VertexSet, edge_at}
use Rattle.query.specs.Inner.Struct.{query_in, edge_struct, as_edge}
use Rattle.query.specs.Inner.Mask.{in_mask, MaskOf}
use Rattle.query.specs.declared.Query.{Query as QueryStruct}
use Rattle.query.specs.declared.Edge.{Edge as EdgeStruct}
use Rattle.plan.specs.Plan.{ends}
use Rattle.plan.proofs.Sets.{edges-length}
use Rattle.plan_spectrum.specs.Orders.{before, orders_from, orderings}
use Rattle.plan_spectrum.specs.Inner.Parts.{laid, Listed, Lists, Small}
use Rattle.plan_spectrum.proofs.Steps.{orders_of, orderings-scans}
use Rattle.plan_spectrum.proofs.Bounds.{wide, before-wide, orders-wide, orderings-wide, flat-wide, laid-length, few-orderings}
use Rattle.plan_spectrum.proofs.Laying.{put-none, laid_none, laid-before, laid-mono, laid-suc, listed_more}

-- The orderings of the scans below i are listed.
pub record Scanned (d : QueryStruct) (before after : List ℕ) (found i : ℕ) : Type 0 where
  pub small : i ≤ d.edges
  pub kept : length after ≡ length before
  pub listed : Listed [] (flat_map (orders_of (query_in d)) (range i)) before after found

n-is : (d : QueryStruct) → (query_in d).vertices ≡ d.vertices
unfolding query_in
n-is d = refl

-- The set of an edge's ends.
ends_set : (d : QueryStruct) (i r : ℕ) (e : EdgeStruct) → e ≡ edge_struct (edge_at (query_in d) i) → MaskOf r (ends (as_edge e)) → in_mask r ≡ ends (edge_at (query_in d) i)
ends_set d i r e same ms = fun_ext ms ∙ ap (λ (x : EdgeStruct). ends (as_edge x)) same

module _ (d : QueryStruct) (small : Small d) where
  abbrev q : Query
  q = query_in d

  abbrev rows : ℕ → List (List ℕ)
  rows i = flat_map (orders_of q) (range i)

  pub few : length (orderings q) ≤ 144
  unfolding query_in
  few = few-orderings q small.at-least small.at_most (omega (arith, edges-length d, small.held.edges)) small.proper

  all-rows : orderings q ≡ rows d.edges
  all-rows = orderings-scans q ∙ ap rows (edges-length d)

  rows-wide : (i : ℕ) → wide (suc (q.vertices - 2)) (rows i) ≡ true
  rows-wide i =
      flat-wide (suc (q.vertices - 2)) (orders_of q) i
      (λ j. before-wide j (q.vertices - 2) (orders_from q (ends (edge_at q j)) (q.vertices - 2)) (orders-wide q (ends (edge_at q j)) (q.vertices - 2)))

  width_is : 0 + suc (q.vertices - 2) ≡ d.vertices - 1
  width_is = omega (arith, n-is d, small.at-least)

  laid-rows : (i : ℕ) → length (laid [] (rows i)) ≡ length (rows i) * (d.vertices - 1)
  laid-rows i = laid-length [] (suc (q.vertices - 2)) (rows i) (rows-wide i) ∙ ap (λ (n : ℕ). length (rows i) * n) width_is

  all_words : length (laid [] (rows d.edges)) ≤ 576
  all_words =
      let number : length (rows d.edges) ≤ 144 = omega (arith, few, ap length all-rows) in
      let one : length (rows d.edges) * (d.vertices - 1) ≤ 144 * (d.vertices - 1) = mul-le-mul_right (d.vertices - 1) number in
      omega (arith, laid-rows d.edges, one, small.at_most)

  module _ (o₀ : List ℕ) (long : 576 ≤ length o₀) where
    pub scan-start : Scanned d o₀ o₀ 0 0
    unfolding flat_map range
    scan-start =
        record {
          small = omega arith;
          kept = refl;
          listed = record { number = refl; words = put-none o₀ ∙ ap (λ (l : List ℕ). l ++ drop (length l) o₀) (sym (laid_none [])) };
        }

    words_fit : (i : ℕ) → i ≤ d.edges → length (laid [] (rows i)) ≤ length o₀
    words_fit i h = omega (arith, laid-mono [] (orders_of q) i d.edges h, all_words)

    module _ (o : List ℕ) (found i : ℕ) (t : Scanned d o₀ o found i) where
      scan-words : length (laid [] (rows i)) ≡ found * (d.vertices - 1)
      scan-words = laid-rows i ∙ ap (λ (n : ℕ). n * (d.vertices - 1)) (sym t.listed.number)

      pub scan-fits : found * (d.vertices - 1) ≤ length o
      scan-fits = omega (arith, scan-words, words_fit i t.small, t.kept)

      pub scan-done : (i < d.edges → ⊥) → Listed [] (orderings q) o₀ o found × (found ≤ 144)
      scan-done end =
          let e : rows i ≡ orderings q = ap rows (let j : i ≡ d.edges = omega (arith, t.small, end) in j) ∙ sym all-rows in
          (subst (λ (l : List (List ℕ)). Listed [] l o₀ o found) e t.listed, omega (arith, t.listed.number, ap length e, few))

      module _ (h : i < d.edges) (r : ℕ) (e : EdgeStruct) (is : e ≡ edge_struct (edge_at q i)) (ms : MaskOf r (ends (as_edge e))) where
        orders-is : before i (orders_from q (in_mask r) (d.vertices - 2)) ≡ orders_of q i
        orders-is = ap₂ (λ (S : VertexSet) (n : ℕ). before i (orders_from q S (n - 2))) (ends_set d i r e is ms) (sym (n-is d))

        laid-is : laid (i ∷ []) (orders_from q (in_mask r) (d.vertices - 2)) ≡ laid [] (orders_of q i)
        laid-is = laid-before [] i (orders_from q (in_mask r) (d.vertices - 2)) ∙ ap (laid []) orders-is

        pub scan-asks : Lists d r (d.vertices - 2) (i ∷ 0 ∷ 0 ∷ 0 ∷ []) 1 (take (length o - found * (d.vertices - 1)) (drop (found * (d.vertices - 1)) o))
        scan-asks =
            record {
              held = small.held;
              long = refl;
              numbers = omega (arith, small.at_most, small.at-least);
              room =
                  omega (
                    arith,
                    ap length laid-is,
                    ap length (rest_at o (found * (d.vertices - 1))),
                    length-drop (found * (d.vertices - 1)) o,
                    scan-words,
                    ap length (laid-suc [] (orders_of q) i) ∙ length-append (laid [] (rows i)) (laid [] (orders_of q i)),
                    words_fit (suc i) h,
                    t.kept,
                  );
            }

        module _ (part : List ℕ) (n : ℕ)
            (l : Listed (i ∷ []) (orders_from q (in_mask r) (d.vertices - 2)) (take (length o - found * (d.vertices - 1)) (drop (found * (d.vertices - 1)) o)) part n) where
          number : n ≡ length (orders_of q i)
          number = l.number ∙ sym (length-map (orders_from q (in_mask r) (d.vertices - 2)) (λ (row : List ℕ). i ∷ row)) ∙ ap length orders-is

          pub scanned : length (take (found * (d.vertices - 1)) o ++ (part ++ drop (length o - found * (d.vertices - 1)) (drop (found * (d.vertices - 1)) o))) ≡ length o
              → Scanned d o₀ (take (found * (d.vertices - 1)) o ++ (part ++ drop (length o - found * (d.vertices - 1)) (drop (found * (d.vertices - 1)) o))) (found + n) (i + 1)
          scanned same =
              rw (add-one i)
              (record {
                small = omega arith;
                kept = same ∙ t.kept;
                listed =
                    listed_more [] (orders_of q) i o₀ o part found n (found * (d.vertices - 1)) scan-words t.listed scan-fits number
                    (l.words ∙ ap (λ (w : List ℕ). w ++ drop (length w) (take (length o - found * (d.vertices - 1)) (drop (found * (d.vertices - 1)) o))) laid-is);
              })

          pub scan-small : found + n ≤ length o
          scan-small =
              let count : found + n ≡ length (rows (suc i))
              = ap₂ ◌+◌ t.listed.number number ∙ sym (ap length (flat_map-suc (orders_of q) i) ∙ length-append (rows i) (orders_of q i)) in
              let least : length (rows (suc i)) * 1 ≤ length (rows (suc i)) * (d.vertices - 1) = mul-le-mul_left (length (rows (suc i))) (omega (arith, small.at-least)) in
              omega (arith, laid-rows (suc i), count, least, words_fit (suc i) h, t.kept)
