-- Laws of reaching: the vertices that an edge joins to a set, and those that k edges in a row lead to. Assumes nothing.
use mathlib.Core.Path.{◌≡◌, refl, sym, ◌∙◌, ap, ap₂, fun_ext}
use mathlib.Core.Bool.{Bool, true, false, cond, not, ◌&&◌, ◌||◌, or_assoc, or-false, and-true, and-false}
use mathlib.Core.List.{[], ◌∷◌}
use Prim.Native.Nat.{ℕ, zero, suc, ◌+◌, ◌^◌, ◌<◌}
use native.Mathlib.Numerals.{add-one}
use native.Mathlib.Omega.{arith}
use lib.Dec.{eqb, ltb}
use lib.Bits.{bit_or}
use borrow.Author.Tests.{ltb-true, lt-ltb, le-ltb, eqb-true, eqb-false}
use Rattle.lists.specs.Lists.{range, any, keep}
use Rattle.lists.proofs.Tests.{iff, and_l, eqb-sym}
use Rattle.lists.proofs.All.{keep_append}
use Rattle.lists.proofs.Any.{any_append}
use Rattle.query.specs.Query.{Query, VertexSet, among, touches, reached, connected}
use Rattle.query.specs.Inner.Mask.{in_mask, MaskOf, only, with_neighbours}
use Rattle.query.proofs.Masks.{in-or, mask-all}

-- Below n + 1 is below n, or n.
pub below_suc : (t : ℕ → Bool) (w n : ℕ) → (ltb w (n + 1) && t w) ≡ (ltb w n && t w || eqb w n && t n)
below_suc t w n = go (eqb w n) refl
  where
    go : (b : Bool) → eqb w n ≡ b → (ltb w (n + 1) && t w) ≡ (ltb w n && t w || b && t n)
    go true e =
        let i : w ≡ n = eqb-true w n e in
        rw (i, lt-ltb n (n + 1) (omega arith), le-ltb n n (omega arith)) refl
    go false e =
        let apart : (w ≡ n → ⊥) = eqb-false w n e in
        ap (λ (b : Bool). b && t w)
        (iff (ltb w (n + 1)) (ltb w n) (λ l. let h : w < n + 1 = ltb-true w (n + 1) l in lt-ltb w n (omega arith))
        (λ l. let h : w < n = ltb-true w n l in lt-ltb w (n + 1) (omega arith)))
        ∙ sym (or-false (ltb w n && t w))

grown-suc : (q : Query) (S : VertexSet) (n w : ℕ) → with_neighbours q S (n + 1) w ≡ (with_neighbours q S n w || eqb w n && touches q n S)
grown-suc q S n w =
    ap (λ (b : Bool). S w || b) (below_suc (λ (u : ℕ). touches q u S) w n)
    ∙ sym (or_assoc (S w) (ltb w n && touches q w S) (eqb w n && touches q n S))

pub grown-none : (q : Query) (S : VertexSet) (m : ℕ) → MaskOf m S → MaskOf m (with_neighbours q S 0)
grown-none q S m h w = h w ∙ rw (le-ltb w 0 (omega arith)) (sym (or-false (S w)))

-- Vertex n is joined to S, or not.
pub grown-more : (q : Query) (S : VertexSet) (n m k : ℕ) → MaskOf m (with_neighbours q S n) → MaskOf k (only n) → touches q n S ≡ true
    → MaskOf (bit_or m k) (with_neighbours q S (n + 1))
grown-more q S n m k hm hk t w =
    in-or m k w ∙ ap₂ (λ (a b : Bool). a || b) (hm w) (hk w ∙ sym (ap (λ (b : Bool). eqb w n && b) t ∙ and-true (eqb w n)))
    ∙ sym (grown-suc q S n w)

pub grown-same : (q : Query) (S : VertexSet) (n m : ℕ) → MaskOf m (with_neighbours q S n) → touches q n S ≡ false → MaskOf m (with_neighbours q S (n + 1))
grown-same q S n m hm t w =
    hm w ∙ sym (grown-suc q S n w ∙ ap (λ (b : Bool). with_neighbours q S n w || b) (ap (λ (b : Bool). eqb w n && b) t ∙ and-false (eqb w n)) ∙ or-false (with_neighbours q S n w))

-- ---- the vertices that k edges in a row lead to

-- What is among the numbers below n that pass a test.
pub among-keep : (p : ℕ → Bool) (n w : ℕ) → among (keep p (range n)) w ≡ (ltb w n && p w)
unfolding range any keep
among-keep p zero w = rw (le-ltb w 0 (omega arith)) refl
among-keep p (suc n) w =
    ap (any (λ (u : ℕ). eqb u w)) (keep_append p (range n) (n ∷ []))
    ∙ any_append (λ (u : ℕ). eqb u w) (keep p (range n)) (keep p (n ∷ []))
    ∙ ap₂ (λ (a b : Bool). a || b) (among-keep p n w) (last (p n)) ∙ sym (below_suc p w n) ∙ ap (λ (k : ℕ). ltb w k && p w) (add-one n)
  where
    last : (b : Bool) → among (cond b (n ∷ []) []) w ≡ (eqb w n && b)
    last true = or-false (eqb n w) ∙ eqb-sym n w ∙ sym (and-true (eqb w n))
    last false = sym (and-false (eqb w n))

reached-within : (q : Query) (k w : ℕ) → 0 < q.vertices → among (reached q k) w ≡ true → w < q.vertices
unfolding reached any
reached-within q zero w h e = let i : 0 ≡ w = eqb-true 0 w (sym (or-false (eqb 0 w)) ∙ e) in omega arith
reached-within q (suc k) w h e =
    ltb-true w q.vertices (and_l (ltb w q.vertices) _ (sym (among-keep _ q.vertices w) ∙ e))

-- No edge: vertex 0 alone.
pub reached-none : (q : Query) (m : ℕ) → MaskOf m (only 0) → MaskOf m (among (reached q 0))
unfolding reached any
reached-none q m h w = h w ∙ eqb-sym w 0 ∙ sym (or-false (eqb 0 w))

-- One edge more: those that were reached, and those below n that an edge joins to them.
reached-suc : (q : Query) (k w : ℕ) → 0 < q.vertices → among (reached q (k + 1)) w ≡ with_neighbours q (among (reached q k)) q.vertices w
unfolding reached
reached-suc q k w h = rw (add-one k) (among-keep _ q.vertices w ∙ go (among (reached q k) w) refl)
  where
    go : (b : Bool) → among (reached q k) w ≡ b
        → (ltb w q.vertices && (b || touches q w (among (reached q k)))) ≡ (b || ltb w q.vertices && touches q w (among (reached q k)))
    go true e = ap (λ (b : Bool). b && true) (lt-ltb w q.vertices (reached-within q k w h e))
    go false e = refl

pub reached-more : (q : Query) (k m r : ℕ) → 0 < q.vertices → MaskOf m (among (reached q k)) → MaskOf r (with_neighbours q (in_mask m) q.vertices)
    → MaskOf r (among (reached q (k + 1)))
reached-more q k m r h hm hr w =
    hr w ∙ ap (λ (S : VertexSet). with_neighbours q S q.vertices w) (fun_ext hm) ∙ sym (reached-suc q k w h)

-- A query is connected where, of its vertices b, none is missing in those reached, r.
pub connected-mask : (q : Query) (b r m : ℕ) → m < 2 ^ 32 → MaskOf b (λ (w : ℕ). ltb w q.vertices) → MaskOf r (among (reached q q.vertices))
    → MaskOf m (λ (w : ℕ). in_mask b w && not (in_mask r w)) → connected q ≡ eqb m 0
unfolding connected
connected-mask q b r m h hb hr hm =
    mask-all 32 m q.vertices (among (reached q q.vertices)) h (λ w. hm w ∙ ap₂ (λ (x y : Bool). x && not y) (hb w) (hr w))
