-- Laws of the members of a list of numbers. Assumes nothing.
use mathlib.Core.Path.{◌≡◌, refl, sym, ◌∙◌, ap, fun_ext}
use mathlib.Core.Bool.{Bool, true, false, ◌&&◌, and_comm}
use mathlib.Core.List.{List}
use Prim.Native.Nat.{ℕ, ◌≤◌, ◌<◌}
use native.Mathlib.Omega.{arith}
use lib.Dec.{eqb, ltb}
use lib.ListN.{length}
use borrow.Author.Tests.{ltb-true, ltb-false}
use Rattle.lists.specs.Lists.{bit, range, keep, count_if, ascending, sort}
use Rattle.lists.proofs.Tests.{iff}
use Rattle.lists.proofs.Count.{count-keep, count-range-one}
use Rattle.lists.proofs.Any.{any-count}
use Rattle.lists.proofs.Pigeonhole.{pigeonhole}
use Rattle.lists.proofs.Sort.{count-sort, ascending-once, ascending-same}
use Rattle.adjacency.specs.Inner.Portion.{member}

-- The members of the numbers below n that pass a test.
pub member-range : (p : ℕ → Bool) (n k : ℕ) → member k (keep p (range n)) ≡ (ltb k n && p k)
member-range p n k =
    any-count (λ (x : ℕ). eqb x k) (keep p (range n))
    ∙ ap (ltb 0)
    (count-keep (λ (x : ℕ). eqb x k) p (range n)
    ∙ ap (λ (t : ℕ → Bool). count_if t (range n)) (fun_ext (λ x. and_comm (p x) (eqb x k)))
    ∙ count-range-one p k n)
    ∙ bit-true (ltb k n && p k)
  where
    bit-true : (b : Bool) → ltb 0 (bit b) ≡ b
    bit-true true = refl
    bit-true false = refl

pub member-sort : (k : ℕ) (xs : List ℕ) → member k (sort xs) ≡ member k xs
member-sort k xs =
    any-count (λ (x : ℕ). eqb x k) (sort xs) ∙ ap (ltb 0) (count-sort (λ (x : ℕ). eqb x k) xs) ∙ sym (any-count (λ (x : ℕ). eqb x k) xs)

-- Two ascending lists with the same members are equal.
pub ascending-members : (xs ys : List ℕ) → ascending xs ≡ true → ascending ys ≡ true
    → ((k : ℕ) → member k xs ≡ member k ys) → xs ≡ ys
ascending-members xs ys p q h =
    ascending-same xs ys p q
    (λ k. occurs xs p k ∙ ap bit (h k) ∙ sym (occurs ys q k))
  where
    once : (n : ℕ) (b : Bool) → n ≤ 1 → ltb 0 n ≡ b → n ≡ bit b
    once n true l e = let m : 0 < n = ltb-true 0 n e in omega arith
    once n false l e = let m : n ≤ 0 = ltb-false 0 n e in omega arith

    occurs : (zs : List ℕ) → ascending zs ≡ true → (k : ℕ) → count_if (λ (z : ℕ). eqb z k) zs ≡ bit (member k zs)
    occurs zs e k = once (count_if (λ (z : ℕ). eqb z k) zs) (member k zs) (ascending-once zs e k) (sym (any-count (λ (z : ℕ). eqb z k) zs))

-- An ascending list whose members are all in another one of the same length is that one.
pub ascending-covers : (xs ys : List ℕ) → ascending xs ≡ true → ascending ys ≡ true
    → ((k : ℕ) → member k xs ≡ true → member k ys ≡ true) → length xs ≡ length ys → xs ≡ ys
ascending-covers xs ys p q h e =
    ascending-members xs ys p q (λ k. iff (member k xs) (member k ys) (h k) (pigeonhole xs ys (ascending-once xs p) h (omega arith) k))
