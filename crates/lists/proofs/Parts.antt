-- Laws of parts of a list, `take` and `drop`, beyond the library's. Assumes nothing.
use mathlib.Core.Path.{◌≡◌, sym, ◌∙◌, ap}
use mathlib.Core.List.{List, [], ◌∷◌, ◌++◌, append-nil}
use Prim.Native.Nat.{ℕ, zero, suc, ◌+◌, ◌-◌, ◌≤◌}
use native.Mathlib.Nat.{sub-zero, suc-sub-suc, zero-sub, le_of_eq}
use native.Mathlib.Omega.{arith}
use lib.ListN.{length, take, drop, length-drop, drop_of_length-le}
use lib.Seq.{take-nil, take-take, take_all}

module _ {A : Type 0} where
  pub drop-take : (n k : ℕ) (l : List A) → drop n (take k l) ≡ take (k - n) (drop n l)
  drop-take zero k l = ap (λ (m : ℕ). take m l) (sym (sub-zero k))
  drop-take (suc n) zero l = ap (λ (m : ℕ). take m (drop (suc n) l)) (sym (zero-sub (suc n)))
  drop-take (suc n) (suc k) [] = sym (take-nil (suc k - suc n))
  drop-take (suc n) (suc k) (x ∷ l) = drop-take n k l ∙ ap (λ (m : ℕ). take m (drop n l)) (sym (suc-sub-suc k n))

  -- Lists that agree on their first k elements agree on any part of those.
  pub take_part : (n j k : ℕ) (s t : List A) → n + j ≤ k → take k s ≡ take k t → take j (drop n s) ≡ take j (drop n t)
  take_part n j k s t h e =
      sym (take-take j (k - n) (drop n s) (fits n j k h)) ∙ ap (take j) (sym (drop-take n k s) ∙ ap (drop n) e ∙ drop-take n k t)
      ∙ take-take j (k - n) (drop n t) (fits n j k h)
    where
      fits : (n j k : ℕ) → n + j ≤ k → j ≤ k - n
      fits n j k h = omega arith

  -- As many elements as there are from a position on are all of them.
  pub rest_at : (l : List A) (at : ℕ) → take (length l - at) (drop at l) ≡ drop at l
  rest_at l at = take_all (length l - at) (drop at l) (rw length-drop (omega arith))

  -- A part from a position to the end, lent and given back.
  pub tail-back : (ws part : List A) (at : ℕ) → at ≤ length ws → take at ws ++ (part ++ drop (length ws - at) (drop at ws)) ≡ take at ws ++ part
  tail-back ws part at h =
      let none : drop (length ws - at) (drop at ws) ≡ [] = drop_of_length-le (drop at ws) (le_of_eq (length-drop at ws)) in
      ap (λ (l : List A). take at ws ++ (part ++ l)) none
      ∙ ap (λ (l : List A). take at ws ++ l) (append-nil part)
