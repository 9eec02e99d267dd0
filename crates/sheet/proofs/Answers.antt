-- The refusals of a page in their order, and what is answered and left for each. Assumes nothing.
use mathlib.Core.Path.{◌≡◌, refl, sym, ◌∙◌, ap, ap₂}
use mathlib.Core.Bool.{Bool, true, false, ◌||◌, cond}
use mathlib.Core.List.{List, [], ◌∷◌, ◌++◌}
use Prim.Native.Nat.{ℕ, ◌≤◌, ◌<◌}
use lib.Dec.{eqb, ltb}
use lib.ListN.{length, drop}
use borrow.Author.Tests.{eq-eqb, ne_eqb, ltb-false, lt-ltb, le-ltb}
use Rattle.lists.specs.Refusal.{refuse, first}
use Rattle.lists.proofs.Tests.{or-false-l, or-false-r}
use Rattle.lists.proofs.Faults.{first_head, first_tail, first_some, refuse-zero}
use Rattle.sheet.specs.declared.PageAnswer.{PageAnswer}
use Rattle.sheet.specs.Page.{page_size, page_count, page_text, bad_rows, page_fault, page_answer, page_bytes}
use Rattle.sheet.specs.Inner.Lines.{Accepted}

abbrev answering : ℕ → ℕ → PageAnswer
answering k pages = record { refusal = k; pages = pages }

module _ (list : List ℕ) (n rows page room : ℕ) where
  pub fault-33 : (k : ℕ) → k ≡ refuse 33 (bad_rows list n rows) → (k ≡ 0 → ⊥) → page_fault list n rows page room ≡ k
  unfolding page_fault
  fault-33 k e h =
      first_some (refuse 33 (bad_rows list n rows))
      (refuse 34 (ltb page 1 || ltb (page_count rows) page) ∷ refuse 35 (ltb room page_size) ∷ []) (λ z. h (e ∙ z))
      ∙ sym e

  pub rows-accepted : 0 ≡ refuse 33 (bad_rows list n rows) → bad_rows list n rows ≡ false
  rows-accepted e = refuse-zero 32 (bad_rows list n rows) (sym e)

  module _ (right : bad_rows list n rows ≡ false) where
    pub fault-34-low : page < 1 → page_fault list n rows page room ≡ 34
    unfolding page_fault first
    fault-34-low h = rw (right, lt-ltb page 1 h) refl

    pub fault-34-high : 1 ≤ page → page_count rows < page → page_fault list n rows page room ≡ 34
    unfolding page_fault first
    fault-34-high l h = rw (right, le-ltb page 1 l, lt-ltb (page_count rows) page h) refl

    module _ (low : 1 ≤ page) (high : page ≤ page_count rows) where
      pub fault-35 : room < page_size → page_fault list n rows page room ≡ 35
      unfolding page_fault first
      fault-35 h = rw (right, le-ltb page 1 low, le-ltb (page_count rows) page high, lt-ltb room page_size h) refl

      pub fault-none : page_size ≤ room → page_fault list n rows page room ≡ 0
      unfolding page_fault first
      fault-none h = rw (right, le-ltb page 1 low, le-ltb (page_count rows) page high, le-ltb room page_size h) refl

  -- Nothing is refused: what is asked before a page is written.
  pub page-accepted : page_fault list n rows page room ≡ 0 → Accepted list n rows page (page_count rows) room
  unfolding page_fault
  page-accepted e =
      let k33 = refuse 33 (bad_rows list n rows) in
      let outside = ltb page 1 || ltb (page_count rows) page in
      let k34 = refuse 34 outside in
      let k35 = refuse 35 (ltb room page_size) in
      let behind : first (k34 ∷ k35 ∷ []) ≡ 0 = first_tail k33 (k34 ∷ k35 ∷ []) e in
      let inside : outside ≡ false = refuse-zero 33 outside (first_head k34 (k35 ∷ []) behind) in
      let last : first (k35 ∷ []) ≡ 0 = first_tail k34 (k35 ∷ []) behind in
      record {
        rows_right = refuse-zero 32 (bad_rows list n rows) (first_head k33 (k34 ∷ k35 ∷ []) e);
        counted = refl;
        low = ltb-false page 1 (or-false-l (ltb page 1) (ltb (page_count rows) page) inside);
        high = ltb-false (page_count rows) page (or-false-r (ltb page 1) (ltb (page_count rows) page) inside);
        fits = ltb-false room page_size (refuse-zero 34 (ltb room page_size) (first_head k35 [] last));
      }

module _ (list : List ℕ) (n rows page : ℕ) (bytes : List ℕ) where
  abbrev fault : ℕ
  fault = page_fault list n rows page (length bytes)

  -- Refused: no count, and the bytes as they were.
  pub refused-left : (k : ℕ) (r : PageAnswer) → page_fault list n rows page (length bytes) ≡ k → (k ≡ 0 → ⊥) → r ≡ record { refusal = k; pages = 0 }
      → (r ≡ page_answer list n rows page (length bytes)) × (bytes ≡ page_bytes list n rows page bytes)
  unfolding page_answer page_bytes
  refused-left k r e h a =
      let no : eqb fault 0 ≡ false = ne_eqb fault 0 (λ z. h (sym e ∙ z)) in (
        a
            ∙ ap₂ answering (sym e) (sym (ap (λ (b : Bool). cond b (page_count rows) 0) no)),
        sym (ap (λ (b : Bool). cond b (page_text list n rows page ++ drop page_size bytes) bytes) no),
      )

  pub accepted-left : (pages : ℕ) (after : List ℕ) → page_fault list n rows page (length bytes) ≡ 0 → pages ≡ page_count rows
      → after ≡ page_text list n rows page ++ drop page_size bytes
      → (◌≡◌ {A = PageAnswer} (record { refusal = 0; pages = pages }) (page_answer list n rows page (length bytes))) × (after ≡ page_bytes list n rows page bytes)
  unfolding page_answer page_bytes
  accepted-left pages after e p a =
      let yes : eqb fault 0 ≡ true = eq-eqb fault 0 e in (
        ap₂ answering (sym e) (p ∙ sym (ap (λ (b : Bool). cond b (page_count rows) 0) yes)),
        a ∙ sym (ap (λ (b : Bool). cond b (page_text list n rows page ++ drop page_size bytes) bytes) yes),
      )
