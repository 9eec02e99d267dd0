-- Offsets that start at 0, end at m, and of which no word is below the one before it. Assumes nothing.
use mathlib.Core.Path.{◌≡◌, refl, sym, ◌∙◌, ap, subst}
use mathlib.Core.Bool.{Bool, true, false}
use mathlib.Core.List.{List}
use Prim.Native.Nat.{ℕ, zero, suc, ◌+◌, ◌-◌, ◌≤◌, ◌<◌}
use native.Mathlib.Numerals.{add-one}
use native.Mathlib.Omega.{arith}
use borrow.Author.Count.{below_more}
use borrow.Author.Tests.{ltb-true, ltb-false, eqb-true, eqb-false}
use lib.Dec.{eqb, ltb}
use lib.ListN.{length, get_or}
use Rattle.lists.specs.Lists.{bit}
use Rattle.lists.proofs.Tests.{fails}
use Rattle.store_reverse.specs.Inner.Check.{offsets_fit}
use Rattle.store_reverse.proofs.Loops.{OffsetsFrom, offsets-start, offsets-next, offsets-short, offsets-end}
use Rattle.store_reverse.proofs.Offsets.{fit-rising}
use Rattle.store_check.specs.Inner.Order.{Drops}

-- ---- the loop

pub drops-start : {s : List ℕ} → Drops s 0 0
drops-start = record { none = λ z k l. absurd (omega arith); some = λ h. absurd (h refl) }

module _ {s : List ℕ} {sum i r : ℕ} (d : Drops s i sum) (e : r ≡ bit (ltb (get_or s (i + 1) 0) (get_or s i 0))) where
  later : get_or s (i + 1) 0 ≡ get_or s (suc i) 0
  later = ap (λ (k : ℕ). get_or s k 0) (add-one i)

  pub drops-next : Drops s (i + 1) (sum + r)
  drops-next = go (ltb (get_or s (i + 1) 0) (get_or s i 0)) refl
    where
      go : (b : Bool) → ltb (get_or s (i + 1) 0) (get_or s i 0) ≡ b → Drops s (i + 1) (sum + r)
      go true t =
          let one : r ≡ 1 = e ∙ ap bit t in
          record {
            none = λ z. absurd (omega arith);
            some = λ h. (i, omega arith, omega (arith, later, ltb-true (get_or s (i + 1) 0) (get_or s i 0) t));
          }
      go false t =
          let none : r ≡ 0 = e ∙ ap bit t in
          record {
            none =
                λ z.
                below_more (λ (k : ℕ). get_or s k 0 ≤ get_or s (suc k) 0) i (d.none (omega arith))
                (omega (arith, later, ltb-false (get_or s (i + 1) 0) (get_or s i 0) t));
            some = λ h. let f = d.some (λ z. h (omega arith)) in (f.0, omega (arith, f.1), f.2);
          }

-- ---- the test

module _ (m : ℕ) (s : List ℕ) (some : 0 < length s) where
  long : length s ≡ suc (length s - 1)
  long = omega arith

  pub drops-off : {r : ℕ} → Drops s (length s - 1) r → (r ≡ 0 → ⊥) → false ≡ offsets_fit m s
  drops-off d h =
      let f = d.some h in
      sym (fails (offsets_fit m s) (λ t. omega (arith, (fit-rising m (length s - 1) s long t).rises f.0 f.1, f.2)))

  -- Where none drops, the test goes on to the last word.
  module _ {r : ℕ} (z : get_or s 0 0 ≡ 0) (d : Drops s (length s - 1) r) (e : r ≡ 0) where
    up_to : (i : ℕ) → i < length s → OffsetsFrom m s (get_or s i 0) (i + 1)
    up_to zero h = subst (λ (k : ℕ). OffsetsFrom m s k 1) (sym z) (offsets-start m s some z)
    up_to (suc i) h =
        subst (λ (k : ℕ). OffsetsFrom m s (get_or s k 0) (k + 1)) (add-one i)
        (offsets-next (up_to i (omega arith)) (omega arith)
        (omega (arith, d.none e i (omega arith), ap (λ (k : ℕ). get_or s k 0) (add-one i))))

    pub offsets-decide : eqb (get_or s (length s - 1) 0) m ≡ offsets_fit m s
    offsets-decide = go (eqb (get_or s (length s - 1) 0) m) refl
      where
        go : (t : Bool) → eqb (get_or s (length s - 1) 0) m ≡ t → eqb (get_or s (length s - 1) 0) m ≡ offsets_fit m s
        go true t = t ∙ offsets-end (up_to (length s - 1) (omega arith)) (omega arith) (eqb-true _ _ t)
        go false t = t ∙ offsets-short (up_to (length s - 1) (omega arith)) (omega arith) (eqb-false _ _ t)
