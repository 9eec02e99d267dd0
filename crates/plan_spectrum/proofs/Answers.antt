-- What is answered and left, refused or listed, is what the definitions say. Assumes nothing.
use mathlib.Core.Path.{◌≡◌, refl, sym, ◌∙◌, ap, fun_ext}
use mathlib.Core.Bool.{Bool, false}
use mathlib.Core.List.{List, [], ◌∷◌, ◌++◌, map, flatten, flat_map}
use Prim.Native.Nat.{ℕ, suc, ◌+◌, ◌-◌, ◌*◌, ◌≤◌, ◌<◌}
use native.Mathlib.Omega.{arith}
use lib.Dec.{eqb, ltb}
use lib.ListN.{length, drop}
use borrow.Author.Tests.{ne_eqb, ltb-false, lt-ltb, le-ltb}
use Rattle.lists.specs.Refusal.{refuse, first, answered}
use Rattle.lists.proofs.Faults.{first-cons, first_head, first_tail, first-left, first_one, first_some, refuse-zero, zero-refuse}
use Rattle.graph.specs.Graph.{Graph}
use Rattle.graph.specs.Store.{graph_in, store_fault}
use Rattle.query.specs.Query.{Query}
use Rattle.query.specs.File.{query_of, query_fault}
use Rattle.run_spec.specs.Run.{counted}
use Rattle.plan_spectrum.specs.Orders.{orderings}
use Rattle.plan_spectrum.specs.Spectrum.{max_spectrum, entries, limit_fault, orderings_fault, orderings_answer, orderings_words}
use Rattle.plan_spectrum.specs.Inner.Parts.{Put, laid, Listed, AllRun, Settled, early_fault}
use Rattle.plan_spectrum.specs.declared.OrderingsAnswer.{OrderingsAnswer}

abbrev pub refused_with : ℕ → OrderingsAnswer
refused_with k = record { refusal = k; plans = 0 }

-- ---- over an accepted store

module _ (g : Graph) (q : Query) (scratch : ℕ) (before : List ℕ) where
  abbrev lack : Bool
  lack = ltb (length before) (length (orderings q) * suc q.vertices)

  pub settled-short : length before < length (orderings q) * suc q.vertices → Settled g q scratch before before (refused_with 32)
  settled-short h =
      record {
        refusal = sym (ap (λ (b : Bool). first (refuse 32 b ∷ map (limit_fault g q scratch) (orderings q))) (lt-ltb _ _ h) ∙ first_some 32 _ (λ e. absurd (omega (arith, e))));
        plans = refl;
        left = refl;
      }

  module _ (room : length (orderings q) * suc q.vertices ≤ length before) (costs : List ℕ) (r : ℕ) (run : AllRun g q scratch costs r) where
    fault-is : first (refuse 32 lack ∷ map (limit_fault g q scratch) (orderings q)) ≡ r
    fault-is = first-cons _ _ (zero-refuse 32 lack (le-ltb _ _ room)) ∙ sym run.refusal

    pub settled-refused : (r ≡ 0 → ⊥) → Settled g q scratch before before (refused_with r)
    settled-refused bad =
        let no : eqb r 0 ≡ false = ne_eqb r 0 bad in
        record { refusal = sym fault-is; plans = rw no refl; left = rw no refl }

    pub settled-written : r ≡ 0 → (plans : ℕ) (after : List ℕ) → plans ≡ length (orderings q) → Put (entries g q) before after → Settled g q scratch before after (record { refusal = 0; plans = plans })
    settled-written fine plans after number p = record { refusal = sym (fault-is ∙ fine); plans = number; left = p }

-- ---- of any store and query

module _ (store query : List ℕ) (scratch : ℕ) (words : List ℕ) where
  abbrev pub Done : OrderingsAnswer → List ℕ → Type 0
  Done r after = (r ≡ orderings_answer store query scratch (length words)) × (after ≡ orderings_words store query scratch words)

  abbrev fault : ℕ
  fault = orderings_fault store query scratch (length words)

  refused-done : (k : ℕ) → fault ≡ k → (k ≡ 0 → ⊥) → Done (refused_with k) words
  unfolding orderings_answer orderings_words
  refused-done k e bad =
      let no : eqb k 0 ≡ false = ne_eqb k 0 bad in
      (rw (e, no) refl, rw (e, no) refl)

  pub done-early : (k : ℕ) → k ≡ early_fault store query → (k ≡ 0 → ⊥) → Done (refused_with k) words
  unfolding orderings_fault
  done-early k e bad =
      let q = query_of query in
      let js : List ℕ = query_fault query ∷ refuse 31 (ltb max_spectrum q.vertices) ∷ store_fault store ∷ [] in
      let ks : List ℕ = refuse 32 (ltb (length words) (length (orderings q) * suc q.vertices)) ∷ map (limit_fault (graph_in store) q scratch) (orderings q) in
      refused-done k (first-left js ks (λ z. bad (e ∙ z)) ∙ sym e) bad

  module _ (read : query_fault query ≡ 0) where
    module _ (few : (query_of query).vertices ≤ max_spectrum) where
      no-31 : refuse 31 (ltb max_spectrum (query_of query).vertices) ≡ 0
      no-31 = zero-refuse 31 _ (le-ltb _ _ few)

      module _ (good : store_fault store ≡ 0) (after : List ℕ) (r : OrderingsAnswer) (h : Settled (graph_in store) (query_of query) scratch words after r) where
        same-fault : r.refusal ≡ fault
        unfolding orderings_fault
        same-fault = h.refusal ∙ sym (first-cons _ _ read ∙ first-cons _ _ no-31 ∙ first-cons _ _ good)

        pub done-settled : Done r after
        unfolding orderings_answer orderings_words
        done-settled = (
          (λ i. record { refusal = same-fault i; plans = (h.plans ∙ ap (λ (k : ℕ). answered k (length (orderings (query_of query)))) same-fault) i }),
          rw (← same-fault) h.left,
        )

-- The early refusals one by one.
module _ (store query : List ℕ) where
  pub early-query : (k : ℕ) → k ≡ query_fault query → (k ≡ 0 → ⊥) → k ≡ early_fault store query
  early-query k e bad = e ∙ sym (first_some _ _ (λ z. bad (e ∙ z)))

  pub early-large : query_fault query ≡ 0 → max_spectrum < (query_of query).vertices → 31 ≡ early_fault store query
  early-large read h =
      sym
      (first-cons _ _ read ∙ ap (λ (b : Bool). first (refuse 31 b ∷ store_fault store ∷ [])) (lt-ltb _ _ h)
      ∙ first_some 31 _ (λ e. absurd (omega (arith, e))))

  pub early-store : query_fault query ≡ 0 → (query_of query).vertices ≤ max_spectrum → store_fault store ≡ early_fault store query
  early-store read few = sym (first-cons _ _ read ∙ first-cons _ _ (zero-refuse 31 _ (le-ltb _ _ few)) ∙ first_one _)

  -- None is given.
  module _ (none : early_fault store query ≡ 0) where
    size : ℕ
    size = refuse 31 (ltb max_spectrum (query_of query).vertices)

    behind : first (size ∷ store_fault store ∷ []) ≡ 0
    unfolding size
    behind = first_tail (query_fault query) _ none

    pub early_read : query_fault query ≡ 0
    early_read = first_head _ _ none

    pub early_few : (query_of query).vertices ≤ max_spectrum
    unfolding size
    early_few = ltb-false _ _ (refuse-zero 30 _ (first_head size _ behind))

    pub early_good : store_fault store ≡ 0
    early_good = first_head _ _ (first_tail size _ behind)

-- A scratch counts as its counted length.
counted-twice : (n : ℕ) → counted (counted n) ≡ counted n
counted-twice n = omega arith

counted-limit : (g : Graph) (q : Query) (scratch : ℕ) → limit_fault g q (counted scratch) ≡ limit_fault g q scratch
counted-limit g q scratch = fun_ext (λ (o : List ℕ). rw (counted-twice scratch) refl)

counted-fault : (store query : List ℕ) (scratch words : ℕ) → orderings_fault store query (counted scratch) words ≡ orderings_fault store query scratch words
unfolding orderings_fault
counted-fault store query scratch words =
    ap
    (λ (f : List ℕ → ℕ). first
    (query_fault query ∷ refuse 31 (ltb max_spectrum (query_of query).vertices) ∷ store_fault store
    ∷ refuse 32 (ltb words (length (orderings (query_of query)) * suc (query_of query).vertices)) ∷ map f (orderings (query_of query))))
    (counted-limit (graph_in store) (query_of query) scratch)

pub counted-done : (store query : List ℕ) (scratch : ℕ) (words after : List ℕ) (r : OrderingsAnswer) → Done store query (counted scratch) words r after → Done store query scratch words r after
unfolding orderings_answer orderings_words
counted-done store query scratch words after r h =
    let same = counted-fault store query scratch (length words) in
    (rw same at h.0, rw same at h.1)

-- The list that the orderings lie in.
laid-flat : (rows : List (List ℕ)) → laid [] rows ≡ flatten rows
unfolding laid flat_map flatten
laid-flat [] = refl
laid-flat (row ∷ rows) = ap (λ (l : List ℕ). row ++ l) (laid-flat rows)

pub listed-flat : (orders : List (List ℕ)) (before after : List ℕ) (r : ℕ) → Listed [] orders before after r → after ≡ flatten orders ++ drop (length (flatten orders)) before
listed-flat orders before after r l = l.words ∙ ap (λ (w : List ℕ). w ++ drop (length w) before) (laid-flat orders)
