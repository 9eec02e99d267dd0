-- Words put one after the other, and the orders so listed. Assumes nothing.
use mathlib.Core.Path.{◌≡◌, refl, sym, ◌∙◌, ap, ap₂}
use mathlib.Core.Logic.{◌⊎◌, ⊎_elim, inl, inr}
use mathlib.Core.Bool.{Bool, true, false}
use mathlib.Core.List.{List, [], ◌∷◌, ◌++◌, map, flat_map, append_assoc, append-nil}
use Prim.Native.Nat.{ℕ, zero, suc, ◌+◌, ◌-◌, ◌*◌, ◌≤◌, ◌<◌}
use native.Mathlib.Omega.{arith}
use lib.Dec.{ltb}
use lib.ListN.{length, take, drop, set, length-append}
use lib.Seq.{take_at, drop_at, drop-drop, length-take-le}
use borrow.Author.Tests.{ltb-true, ltb-false}
use Rattle.lists.specs.Lists.{range}
use Rattle.lists.proofs.Parts.{rest_at, tail-back}
use Rattle.lists.proofs.Maps.{flat_map-append, flat_map-suc}
use Rattle.plan_spectrum.specs.Orders.{before}
use Rattle.plan_spectrum.specs.Inner.Parts.{Put, laid, Listed}

pub drop-zero : (l : List ℕ) → drop 0 l ≡ l
drop-zero [] = refl
drop-zero (x ∷ xs) = refl

pub put-none : (o : List ℕ) → Put [] o o
put-none o = sym (drop-zero o)

-- Words put where the others end.
pub put-more : (xs ys o₀ o part : List ℕ) (n : ℕ) → length xs ≡ n → Put xs o₀ o → Put ys (drop n o) part → Put (xs ++ ys) o₀ (take n o ++ part)
put-more xs ys o₀ o part n e h p =
    ap₂ (λ (a b : List ℕ). a ++ b) (ap (take n) h ∙ take_at xs (drop (length xs) o₀) n e)
    (p ∙ ap (λ (l : List ℕ). ys ++ drop (length ys) l) (ap (drop n) h ∙ drop_at xs (drop (length xs) o₀) n e) ∙ ap (λ (l : List ℕ). ys ++ l) (drop-drop (length ys) (length xs) o₀))
    ∙ sym (append_assoc xs ys (drop (length xs + length ys) o₀)) ∙ ap (λ (k : ℕ). xs ++ ys ++ drop k o₀) (sym (length-append xs ys))

-- The same where the rest of a slice was lent.
pub put-part : (xs ys o₀ o part : List ℕ) (n : ℕ) → length xs ≡ n → n ≤ length o → Put xs o₀ o → Put ys (take (length o - n) (drop n o)) part
    → Put (xs ++ ys) o₀ (take n o ++ (part ++ drop (length o - n) (drop n o)))
put-part xs ys o₀ o part n e fits h p =
    tail-back o part n fits ∙ put-more xs ys o₀ o part n e h (p ∙ ap (λ (l : List ℕ). ys ++ drop (length ys) l) (rest_at o n))

-- Orders after a prefix with v are those that begin with v after the prefix.
pub laid-before : (prefix : List ℕ) (v : ℕ) (rows : List (List ℕ)) → laid (prefix ++ (v ∷ [])) rows ≡ laid prefix (before v rows)
unfolding laid flat_map
laid-before prefix v [] = refl
laid-before prefix v (row ∷ rows) = ap₂ (λ (a b : List ℕ). a ++ b) (append_assoc prefix (v ∷ []) row) (laid-before prefix v rows)

pub laid-append : (prefix : List ℕ) (xs bs : List (List ℕ)) → laid prefix (xs ++ bs) ≡ laid prefix xs ++ laid prefix bs
unfolding laid
laid-append prefix xs bs = flat_map-append (λ (vs : List ℕ). prefix ++ vs) xs bs

pub laid_one : (prefix : List ℕ) → laid prefix ([] ∷ []) ≡ prefix
unfolding laid flat_map
laid_one prefix = append-nil (prefix ++ []) ∙ append-nil prefix

pub laid_none : (prefix : List ℕ) → laid prefix [] ≡ []
unfolding laid flat_map
laid_none prefix = refl

either : (v n : ℕ) → v ≤ suc n → (v ≡ suc n) ⊎ (v ≤ n)
either v n h = go (ltb n v) refl
  where
    go : (b : Bool) → ltb n v ≡ b → (v ≡ suc n) ⊎ (v ≤ n)
    go true e = inl (omega (arith, ltb-true n v e))
    go false e = inr (omega (arith, ltb-false n v e))

-- What is made of the numbers below v takes no more words than what is made of those below n.
pub laid-mono : (prefix : List ℕ) (made : ℕ → List (List ℕ)) (v n : ℕ) → v ≤ n → length (laid prefix (flat_map made (range v))) ≤ length (laid prefix (flat_map made (range n)))
laid-mono prefix made v zero h = omega (arith, ap (λ (k : ℕ). length (laid prefix (flat_map made (range k)))) (let z : v ≡ 0 = omega arith in z))
laid-mono prefix made v (suc n) h = ⊎_elim (λ e. omega (arith, ap (λ (k : ℕ). length (laid prefix (flat_map made (range k)))) e))
    (λ l. omega (
      arith,
      laid-mono prefix made v n l,
      ap (λ (rows : List (List ℕ)). length (laid prefix rows)) (flat_map-suc made n) ∙ ap length (laid-append prefix (flat_map made (range n)) (made n)),
      length-append (laid prefix (flat_map made (range n))) (laid prefix (made n)),
    ))
    (either v n h)

-- One more number's.
module _ (prefix : List ℕ) (made : ℕ → List (List ℕ)) (v : ℕ) where
  pub laid-suc : laid prefix (flat_map made (range (suc v))) ≡ laid prefix (flat_map made (range v)) ++ laid prefix (made v)
  laid-suc = ap (laid prefix) (flat_map-suc made v) ∙ laid-append prefix (flat_map made (range v)) (made v)

  pub listed_more : (o₀ o part : List ℕ) (found r at : ℕ) → length (laid prefix (flat_map made (range v))) ≡ at → Listed prefix (flat_map made (range v)) o₀ o found
      → at ≤ length o → r ≡ length (made v) → Put (laid prefix (made v)) (take (length o - at) (drop at o)) part
      → Listed prefix (flat_map made (range (suc v))) o₀ (take at o ++ (part ++ drop (length o - at) (drop at o))) (found + r)
  listed_more o₀ o part found r at e h fits n p =
      record {
        number = ap₂ ◌+◌ h.number n ∙ sym (ap length (flat_map-suc made v) ∙ length-append (flat_map made (range v)) (made v));
        words =
            put-part (laid prefix (flat_map made (range v))) (laid prefix (made v)) o₀ o part at e fits h.words p
            ∙ ap (λ (l : List ℕ). l ++ drop (length l) o₀) (sym laid-suc);
      }

  pub listed_same : (o₀ o : List ℕ) (found : ℕ) → made v ≡ [] → Listed prefix (flat_map made (range v)) o₀ o found → Listed prefix (flat_map made (range (suc v))) o₀ o found
  listed_same o₀ o found e h =
      let same : flat_map made (range (suc v)) ≡ flat_map made (range v) = flat_map-suc made v ∙ ap (λ (l : List (List ℕ)). flat_map made (range v) ++ l) e ∙ append-nil (flat_map made (range v)) in
      record {
        number = h.number ∙ ap length (sym same);
        words = h.words ∙ ap (λ (rows : List (List ℕ)). laid prefix rows ++ drop (length (laid prefix rows)) o₀) (sym same);
      }

-- ---- entries

pub put_two : (a b : ℕ) (out : List ℕ) → 2 ≤ length out → set (set out 0 a) 1 b ≡ a ∷ b ∷ drop 2 out
put_two a b [] h = absurd (omega arith)
put_two a b (x ∷ []) h = absurd (omega arith)
put_two a b (x ∷ y ∷ rest) h = ap (λ (l : List ℕ). a ∷ b ∷ l) (sym (drop-zero rest))

-- A row, and words after it.
pub entry-put : (list out o part words : List ℕ) (w : ℕ) → w ≤ length list → w ≤ length o → o ≡ take w list ++ drop w out → Put words (take (length o - w) (drop w o)) part
    → Put (take w list ++ words) out (take w o ++ (part ++ drop (length o - w) (drop w o)))
entry-put list out o part words w fits room e p =
    let long : length (take w list) ≡ w = length-take-le w list fits in
    put-part (take w list) words out o part w long room (e ∙ ap (λ (n : ℕ). take w list ++ drop n out) (sym long)) p
