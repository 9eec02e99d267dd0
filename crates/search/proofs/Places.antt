-- Laws of `place_of`, where a word stands in an ascending list. Assumes nothing.
use mathlib.Core.Path.{◌≡◌, refl, sym, ◌∙◌, ap}
use mathlib.Core.Bool.{Bool, true, false, cond}
use mathlib.Core.List.{List}
use Prim.Native.Nat.{ℕ, ◌<◌, zero-le}
use native.Mathlib.Omega.{arith}
use lib.Dec.{eqb, ltb}
use lib.ListN.{length, get_or}
use borrow.Author.Tests.{ltb-true}
use Rattle.std.specs.Prelude.{Some, None}
use Rattle.std.proofs.lemmas.Option.{none-some, cond_some}
use Rattle.lists.specs.Lists.{any, ascending}
use Rattle.lists.proofs.Tests.{and_l}
use Rattle.lists.proofs.Ascending.{ascending-later}
use Rattle.search.specs.Inner.Search.{first_from, place_of}
use Rattle.search.proofs.Laws.{first-is, first_any, first_found, first_absent}

module _ (s : List ℕ) (x : ℕ) where
  place-cond : (b : Bool) → any (eqb x) s ≡ b → place_of s x ≡ cond b (Some (first_from s 0 x)) None
  unfolding place_of
  place-cond b e = ap (λ (c : Bool). cond c (Some (first_from s 0 x)) None) e

  module _ (up : ascending s ≡ true) where
    -- It is the one index that has the word.
    pub place_here : (i : ℕ) → i < length s → get_or s i 0 ≡ x → Some i ≡ place_of s x
    place_here i l e =
        let at : first_from s 0 x ≡ i =
        first-is s up 0 x i zero-le (omega arith) (λ j p q. omega (arith, ascending-later s up j i q l)) (λ q. omega arith) in
        sym (place-cond true (first_found s up 0 x (sym at) l e) ∙ ap Some at)

    -- There is none where the search for the word ends elsewhere.
    pub place-absent : {r : ℕ} → r ≡ first_from s 0 x → (r < length s → get_or s r 0 ≡ x → ⊥) → None ≡ place_of s x
    place-absent e f = sym (place-cond false (first_absent s up 0 x e zero-le f))

    -- There is one exactly where the list has the word.
    place_inside : any (eqb x) s ≡ true → first_from s 0 x < length s
    place_inside t =
        let at : ltb (first_from s 0 x) (length s) ≡ true = and_l (ltb (first_from s 0 x) (length s)) _ (sym (first_any s up 0 x zero-le) ∙ t) in
        ltb-true (first_from s 0 x) (length s) at

    pub place_none : None ≡ place_of s x → any (eqb x) s ≡ false
    place_none e = go (any (eqb x) s) refl
      where
        go : (b : Bool) → any (eqb x) s ≡ b → b ≡ false
        go true t = absurd (none-some _ (e ∙ place-cond true t))
        go false t = refl

    pub place-some : {i : ℕ} → Some i ≡ place_of s x → (any (eqb x) s ≡ true) × (i < length s)
    unfolding place_of
    place-some {i} e =
        let found = cond_some (any (eqb x) s) (first_from s 0 x) i (sym e) in
        (found.0, rw found.1 at (place_inside found.0))
