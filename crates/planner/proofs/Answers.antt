-- What is answered and left, refused or drawn, is what the definitions say. Assumes nothing.
use mathlib.Core.Path.{◌≡◌, refl, sym, ◌∙◌, ap}
use mathlib.Core.Bool.{cond}
use mathlib.Core.List.{List, [], ◌∷◌, ◌++◌}
use Prim.Native.Nat.{ℕ, ◌≤◌, ◌<◌}
use lib.Dec.{eqb}
use lib.ListN.{length, drop}
use borrow.Author.Tests.{ne_eqb, lt-ltb, le-ltb}
use Rattle.lists.specs.Refusal.{refuse, first, answered}
use Rattle.lists.proofs.Faults.{first-cons, first_some, first_one, first_group, zero-refuse}
use Rattle.graph.specs.Graph.{Graph}
use Rattle.graph.specs.Store.{graph_in, store_fault}
use Rattle.query.specs.Query.{Query}
use Rattle.query.specs.File.{query_of, query_fault}
use Rattle.planner.specs.Draw.{drawn_plan, draw_fault, draw_answer, draw_bytes}
use Rattle.planner.specs.Complete.{PassesCheck}
use Rattle.planner.specs.Inner.Parts.{Drawn}
use Rattle.planner.specs.declared.DrawAnswer.{DrawAnswer}
use Rattle.planner.proofs.Drawing.{passes-check}

abbrev pub refused_with : ℕ → DrawAnswer
refused_with k = record { refusal = k; bytes = 0 }

-- ---- of an accepted graph and query

module _ (g : Graph) (q : Query) (before : List ℕ) where
  pub drawn-short : length before < length (drawn_plan g q) → Drawn g q before before (refused_with 24)
  drawn-short short = record { refusal = sym (ap (refuse 24) (lt-ltb (length before) (length (drawn_plan g q)) short)); bytes = refl; left = refl }

  pub drawn-whole : (after : List ℕ) (n : ℕ) → length (drawn_plan g q) ≤ length before → n ≡ length (drawn_plan g q)
      → after ≡ drawn_plan g q ++ drop (length (drawn_plan g q)) before → Drawn g q before after (record { refusal = 0; bytes = n })
  drawn-whole after n room e left =
      record {
        refusal = sym (zero-refuse 24 _ (le-ltb (length before) (length (drawn_plan g q)) room));
        bytes = e;
        left = left;
      }

-- ---- of any

module _ (store query bytes : List ℕ) where
  abbrev pub Settled : DrawAnswer → List ℕ → Type 0
  Settled r after = (r ≡ draw_answer store query (length bytes)) × ((after ≡ draw_bytes store query bytes) × PassesCheck store query r after)

  settled : (r : DrawAnswer) (after : List ℕ) → r ≡ draw_answer store query (length bytes) → after ≡ draw_bytes store query bytes → Settled r after
  settled r after a b = (a, (b, rw (a, b) (passes-check store query bytes)))

  refused : (k : ℕ) → draw_fault store query (length bytes) ≡ k → (k ≡ 0 → ⊥) → Settled (refused_with k) bytes
  unfolding draw_answer draw_bytes
  refused k e bad = settled (refused_with k) bytes (rw (e, ne_eqb k 0 bad)) (rw (e, ne_eqb k 0 bad))

  pub settled-checked : (k : ℕ) → k ≡ first (query_fault query ∷ store_fault store ∷ []) → (k ≡ 0 → ⊥) → Settled (refused_with k) bytes
  unfolding draw_fault
  settled-checked k e bad = refused k (first_group (query_fault query ∷ store_fault store ∷ []) _ ∙ first_some _ _ (λ z. bad (e ∙ z)) ∙ sym e) bad

  module _ (read : query_fault query ≡ 0) where
    -- What is left to an accepted graph and query.
    pub settled-drawn : store_fault store ≡ 0 → (r : DrawAnswer) (after : List ℕ) → Drawn (graph_in store) (query_of query) bytes after r → Settled r after
    unfolding draw_fault draw_answer draw_bytes
    settled-drawn good r after d =
        settled r after
        (λ i. record { refusal = same i; bytes = (d.bytes ∙ ap (λ (k : ℕ). answered k (length (drawn_plan (graph_in store) (query_of query)))) same) i })
        (d.left ∙ ap (λ (k : ℕ). cond (eqb k 0) (drawn_plan (graph_in store) (query_of query) ++ drop (length (drawn_plan (graph_in store) (query_of query))) bytes) bytes) same)
      where
        same : r.refusal ≡ draw_fault store query (length bytes)
        same = d.refusal ∙ sym (first-cons _ _ read ∙ first-cons _ _ good ∙ first_one _)
