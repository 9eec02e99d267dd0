-- The loop over a vertex's entries of one label: each is the next word at its neighbour's cursor, and no cursor moves twice.
-- Assumes nothing.
use mathlib.Core.Path.{◌≡◌, refl, sym, ◌∙◌, ap, subst}
use mathlib.Core.Logic.{◌⊎◌, inl, inr}
use mathlib.Core.Bool.{Bool, true, false}
use mathlib.Core.List.{List}
use Prim.Native.Nat.{ℕ, suc, ◌+◌, ◌-◌, ◌≤◌, ◌<◌}
use native.Mathlib.Nat.{eq-or-lt_of_le}
use native.Mathlib.Omega.{arith}
use lib.Dec.{eqb}
use lib.ListN.{length, get_or, set, length-set}
use lib.Seq.{get_or-set_same, get_or-set_other}
use borrow.Author.Tests.{eqb-true, eqb-false}
use Rattle.store_step.specs.Inner.Walk.{MatchedEntry, Matched}

-- Up to index i the entries are matched, `last` being the last of them; no cursor past it has moved.
pub record Matching (n v base : ℕ) (list back : List ℕ) (from : ℕ) (old new : List ℕ) (last i : ℕ) : Type 0 where
  pub so_far : Matched n v base list back from i old new
  pub low : base ≤ suc last
  pub last_is : from < i → last ≡ get_or list (i - 1) 0
  pub fresh : (t : ℕ) → last < base + t → get_or new t 0 ≡ get_or old t 0
  pub long : length new ≡ length old

module _ {n v base : ℕ} {list back : List ℕ} {from : ℕ} {old : List ℕ} where
  pub matching-start : 0 < base → from ≤ length list → Matching n v base list back from old old (base - 1) from
  matching-start h k =
      record {
        so_far = record { starts = omega arith; inside = k; entries = λ j a b. absurd (omega arith); cursors = λ t. inl refl };
        low = omega arith;
        last_is = λ l. absurd (omega arith);
        fresh = λ t l. refl;
        long = refl;
      }

  module _ {new : List ℕ} {last i : ℕ} (m : Matching n v base list back from old new last i) (l : i < length list)
      (above : last < get_or list i 0) (below : get_or list i 0 < base + 65536) (near : get_or list i 0 - base < n) (fit : n ≤ length new)
      {at : ℕ} (here : at ≡ get_or new (get_or list i 0 - base) 0) (word : get_or back at 0 ≡ base + v) where
    abbrev x : ℕ
    x = get_or list i 0 - base

    abbrev moved : List ℕ
    moved = set new x (at + 1)

    entry-is : base + x ≡ get_or list i 0
    entry-is = omega (arith, m.low)

    untouched : get_or new x 0 ≡ get_or old x 0
    untouched = m.fresh x (omega (arith, entry-is))

    same : get_or moved x 0 ≡ at + 1
    same = get_or-set_same new x (at + 1) 0 (omega arith)

    others : (t : ℕ) → (t ≡ x → ⊥) → get_or moved t 0 ≡ get_or new t 0
    others t d = get_or-set_other new x t (at + 1) 0 d

    old-word : get_or back (get_or old x 0) 0 ≡ base + v
    old-word = ap (λ (k : ℕ). get_or back k 0) (sym untouched ∙ sym here) ∙ word

    new-entry : MatchedEntry n v base list back from old moved i
    new-entry =
        record {
          low = omega (arith, m.low);
          high = below;
          neighbour = near;
          rises = λ k. omega (arith, m.last_is k);
          moved = omega (arith, same, here, untouched);
          word = old-word;
        }

    old-entry : (j : ℕ) → MatchedEntry n v base list back from old new j → MatchedEntry n v base list back from old moved j
    old-entry j e =
        record {
          low = e.low;
          high = e.high;
          neighbour = e.neighbour;
          rises = e.rises;
          moved = others (get_or list j 0 - base) apart ∙ e.moved;
          word = e.word;
        }
      where
        apart : get_or list j 0 - base ≡ x → ⊥
        apart q = omega (arith, e.moved, untouched, ap (λ (k : ℕ). get_or new k 0) q, ap (λ (k : ℕ). get_or old k 0) q)

    all-entries : (j : ℕ) → from ≤ j → j < i + 1 → MatchedEntry n v base list back from old moved j
    all-entries j a b = go (eq-or-lt_of_le (let k : j ≤ i = omega arith in k))
      where
        go : (j ≡ i) ⊎ (j < i) → MatchedEntry n v base list back from old moved j
        go (inl q) = subst (λ (k : ℕ). MatchedEntry n v base list back from old moved k) (sym q) new-entry
        go (inr k) = old-entry j (m.so_far.entries j a k)

    all-cursors : (t : ℕ) → (get_or moved t 0 ≡ get_or old t 0) ⊎ ((get_or moved t 0 ≡ suc (get_or old t 0)) × (get_or back (get_or old t 0) 0 ≡ base + v))
    all-cursors t = go (eqb t x) refl
      where
        kept : get_or moved t 0 ≡ get_or new t 0 → (get_or new t 0 ≡ get_or old t 0) ⊎ ((get_or new t 0 ≡ suc (get_or old t 0)) × (get_or back (get_or old t 0) 0 ≡ base + v))
            → (get_or moved t 0 ≡ get_or old t 0) ⊎ ((get_or moved t 0 ≡ suc (get_or old t 0)) × (get_or back (get_or old t 0) 0 ≡ base + v))
        kept e (inl p) = inl (e ∙ p)
        kept e (inr (p, q)) = inr (e ∙ p, q)

        go : (b : Bool) → eqb t x ≡ b → (get_or moved t 0 ≡ get_or old t 0) ⊎ ((get_or moved t 0 ≡ suc (get_or old t 0)) × (get_or back (get_or old t 0) 0 ≡ base + v))
        go true e =
            let q : t ≡ x = eqb-true t x e in
            subst (λ (k : ℕ). (get_or moved k 0 ≡ get_or old k 0) ⊎ ((get_or moved k 0 ≡ suc (get_or old k 0)) × (get_or back (get_or old k 0) 0 ≡ base + v)))
            (sym q) (inr (omega (arith, same, here, untouched), old-word))
        go false e = kept (others t (eqb-false t x e)) (m.so_far.cursors t)

    pub matching-next : Matching n v base list back from old moved (get_or list i 0) (i + 1)
    matching-next =
        record {
          so_far =
              record {
                starts = omega (arith, m.so_far.starts);
                inside = omega arith;
                entries = all-entries;
                cursors = all-cursors;
              };
          low = omega (arith, m.low);
          last_is = λ p. ap (λ (j : ℕ). get_or list j 0) (let e : i ≡ i + 1 - 1 = omega arith in e);
          fresh = λ t p. others t (λ q. omega (arith, entry-is)) ∙ m.fresh t (omega arith);
          long = length-set new x (at + 1) ∙ m.long;
        }
