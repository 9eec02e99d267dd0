-- Lists of at most four words, looked through at once. Assumes nothing.
use mathlib.Core.Path.{◌≡◌, refl, sym, ◌∙◌, ap}
use mathlib.Core.Bool.{Bool, true, false, not, ◌||◌}
use mathlib.Core.List.{List, [], ◌∷◌}
use Prim.Native.Nat.{ℕ, ◌+◌, ◌-◌, ◌≤◌, ◌<◌}
use native.Mathlib.Omega.{arith}
use mir.Val.{bool_byte}
use borrow.Author.Tests.{eqb-true, eqb-false}
use lib.Dec.{eqb, ltb}
use lib.ListN.{length, get_or}
use Rattle.lists.specs.Lists.{bit, any}
use Rattle.lists.proofs.Tests.{or-false-l, or-false-r}
use Rattle.adjacency.specs.Inner.Portion.{member}

-- The places that are looked at besides the first and the last, by where the last word stands.
abbrev pub second : ℕ → ℕ
second end = bool_byte (ltb 0 end)

abbrev pub third : ℕ → ℕ
third end = bool_byte (ltb 0 end) + bool_byte (ltb 1 end)

-- How many of the four have the word.
abbrev pub found : ℕ → List ℕ → ℕ
found x s =
    bool_byte (eqb (get_or s 0 0) x) + bool_byte (eqb (get_or s (second (length s - 1)) 0) x) + bool_byte (eqb (get_or s (third (length s - 1)) 0) x)
    + bool_byte (eqb (get_or s (length s - 1) 0) x)

pub places-in : (s : List ℕ) → 0 < length s → length s ≤ 4 → (second (length s - 1) < length s) × (third (length s - 1) < length s)
places-in [] h l = absurd (omega arith)
places-in (a ∷ []) h l = (omega arith, omega arith)
places-in (a ∷ b ∷ []) h l = (omega arith, omega arith)
places-in (a ∷ b ∷ c ∷ []) h l = (omega arith, omega arith)
places-in (a ∷ b ∷ c ∷ d ∷ []) h l = (omega arith, omega arith)
places-in (a ∷ b ∷ c ∷ d ∷ y ∷ s) h l = absurd (omega arith)

none : (a b c d : Bool) → bit a + bit b + bit c + bit d ≡ 0 → (a ≡ false) × (b ≡ false) × (c ≡ false) × (d ≡ false)
none false false false false e = (refl, refl, refl, refl)
none true b c d e = absurd (omega arith)
none false true c d e = absurd (omega arith)
none false false true d e = absurd (omega arith)
none false false false true e = absurd (omega arith)

pub few-lacks : (x : ℕ) (s : List ℕ) → 0 < length s → length s ≤ 4 → found x s ≡ 0 → member x s ≡ false
unfolding any
few-lacks x [] h l e = absurd (omega arith)
few-lacks x (a ∷ []) h l e = rw (none (eqb a x) (eqb a x) (eqb a x) (eqb a x) e).0
few-lacks x (a ∷ b ∷ []) h l e = let n = none (eqb a x) (eqb b x) (eqb b x) (eqb b x) e in rw (n.0, n.1)
few-lacks x (a ∷ b ∷ c ∷ []) h l e = let n = none (eqb a x) (eqb b x) (eqb c x) (eqb c x) e in rw (n.0, n.1, n.2)
few-lacks x (a ∷ b ∷ c ∷ d ∷ []) h l e =
    let n = none (eqb a x) (eqb b x) (eqb c x) (eqb d x) e in rw (n.0, n.1, n.2, n.3)
few-lacks x (a ∷ b ∷ c ∷ d ∷ y ∷ s) h l e = absurd (omega arith)

lacks-few : (x : ℕ) (s : List ℕ) → length s ≤ 4 → 0 < length s → member x s ≡ false → found x s ≡ 0
unfolding any
lacks-few x [] l h t = absurd (omega arith)
lacks-few x (a ∷ []) l h t = rw (or-false-l (eqb a x) false t)
lacks-few x (a ∷ b ∷ []) l h t =
    let u = or-false-r (eqb a x) (eqb b x || false) t in
    rw (or-false-l (eqb a x) (eqb b x || false) t, or-false-l (eqb b x) false u)
lacks-few x (a ∷ b ∷ c ∷ []) l h t =
    let u = or-false-r (eqb a x) (eqb b x || (eqb c x || false)) t in
    let w = or-false-r (eqb b x) (eqb c x || false) u in
    rw (or-false-l (eqb a x) (eqb b x || (eqb c x || false)) t, or-false-l (eqb b x) (eqb c x || false) u, or-false-l (eqb c x) false w)
lacks-few x (a ∷ b ∷ c ∷ d ∷ []) l h t =
    let u = or-false-r (eqb a x) (eqb b x || (eqb c x || (eqb d x || false))) t in
    let w = or-false-r (eqb b x) (eqb c x || (eqb d x || false)) u in
    let z = or-false-r (eqb c x) (eqb d x || false) w in
    rw (or-false-l (eqb a x) (eqb b x || (eqb c x || (eqb d x || false))) t, or-false-l (eqb b x) (eqb c x || (eqb d x || false)) u, or-false-l (eqb c x) (eqb d x || false) w, or-false-l (eqb d x) false z)
lacks-few x (a ∷ b ∷ c ∷ d ∷ y ∷ s) l h t = absurd (omega arith)

pub few-has : (x : ℕ) (s : List ℕ) → 0 < length s → length s ≤ 4 → (found x s ≡ 0 → ⊥) → member x s ≡ true
few-has x s h l e = go (member x s) refl
  where
    go : (b : Bool) → member x s ≡ b → member x s ≡ true
    go true t = t
    go false t = absurd (e (lacks-few x s l h t))

-- The test of the sum.
pub few-found : (x : ℕ) (s : List ℕ) → 0 < length s → length s ≤ 4 → not (eqb (found x s) 0) ≡ member x s
few-found x s h l = go (eqb (found x s) 0) refl
  where
    go : (b : Bool) → eqb (found x s) 0 ≡ b → not (eqb (found x s) 0) ≡ member x s
    go true t = ap not t ∙ sym (few-lacks x s h l (eqb-true (found x s) 0 t))
    go false t = ap not t ∙ sym (few-has x s h l (eqb-false (found x s) 0 t))

pub lacks-none : (x : ℕ) (s : List ℕ) → length s ≡ 0 → member x s ≡ false
unfolding any
lacks-none x [] e = refl
lacks-none x (a ∷ s) e = absurd (omega arith)
