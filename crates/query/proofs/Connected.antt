-- A connected query has, beside any set that is neither empty nor whole, a vertex that touches the set. Assumes nothing.
use mathlib.Core.Path.{◌≡◌, refl, sym, ◌∙◌, ap}
use mathlib.Core.Bool.{Bool, true, false, not, ◌&&◌, ◌||◌, or-false, or_comm}
use Prim.Native.Nat.{ℕ, zero, suc, ◌+◌, ◌<◌}
use native.Mathlib.Omega.{arith}
use lib.Dec.{eqb, ltb}
use borrow.Author.Tests.{ltb-true, lt-ltb, eqb-true}
use Rattle.lists.specs.Lists.{bit, range, any, count_if}
use Rattle.lists.proofs.Tests.{clash, fails, and_l, and_r, and_both, or_elim, not-true, not-false}
use Rattle.lists.proofs.All.{all_true, all-at, length-range}
use Rattle.lists.proofs.Any.{any-count, any-follows, any_at, any_below}
use Rattle.lists.proofs.Count.{count-all, count-sum}
use Rattle.query.specs.Query.{Query, VertexSet, among, between, touches, reached, connected}
use Rattle.query.specs.Inner.Mask.{only, neighbours}
use Rattle.query.specs.Connected.{Beside, SomeBeside}
use Rattle.query.proofs.Steps.{among-keep}
use Rattle.query.proofs.Touch.{touches-one, touches-some}

-- An edge between two vertices runs between them from either side.
neighbours-turn : (q : Query) (v u : ℕ) → neighbours q v u ≡ true → neighbours q u v ≡ true
neighbours-turn q v u t =
    any-follows (between v (only u)) (between u (only v)) q.edges t
    (λ e h. or_comm (eqb e.source u && eqb e.target v) (eqb e.source v && eqb e.target u) ∙ h)

-- A number below n is missing in S where fewer are in it.
some-missing : (S : VertexSet) (n : ℕ) → count_if S (range n) < n → any (λ (w : ℕ). not (S w)) (range n) ≡ true
some-missing S n h =
    any-count (λ (w : ℕ). not (S w)) (range n)
    ∙ lt-ltb 0 (count_if (λ (w : ℕ). not (S w)) (range n)) (omega (arith, both, count-all {A = ℕ} (λ w. true) (range n) (all_true (range n)), length-range n))
  where
    one : (b : Bool) → bit true ≡ bit b + bit (not b)
    one true = refl
    one false = refl

    both : count_if (λ (w : ℕ). true) (range n) ≡ count_if S (range n) + count_if (λ (w : ℕ). not (S w)) (range n)
    both = count-sum (λ (w : ℕ). true) S (λ (w : ℕ). not (S w)) (range n) (λ w. one (S w))

module _ (q : Query) where
  -- No vertex of the query outside S touches it.
  abbrev Closed : VertexSet → Type 0
  Closed S = (v : ℕ) → v < q.vertices → touches q v S ≡ true → S v ≡ true

  -- Where vertex 0 is in such a set, all that is reached from it is; so where the query is connected the set is whole.
  module _ (S : VertexSet) (closed : Closed S) (from : S 0 ≡ true) where
    reached-in : (k w : ℕ) → among (reached q k) w ≡ true → S w ≡ true
    unfolding reached any
    reached-in zero w e = ap S (sym (eqb-true 0 w (sym (or-false (eqb 0 w)) ∙ e))) ∙ from
    reached-in (suc k) w e =
        or_elim (among (reached q k) w) (touches q w (among (reached q k))) (and_r (ltb w q.vertices) _ kept) (reached-in k w) (λ h.
        let f = touches-some q w (among (reached q k)) h in
        closed w (ltb-true w q.vertices (and_l (ltb w q.vertices) _ kept)) (touches-one q w f.0 S (reached-in k f.0 f.1) f.2))
      where
        kept : (ltb w q.vertices && (among (reached q k) w || touches q w (among (reached q k)))) ≡ true
        kept = sym (among-keep (λ (u : ℕ). among (reached q k) u || touches q u (among (reached q k))) q.vertices w) ∙ e

    whole : connected q ≡ true → (w : ℕ) → w < q.vertices → S w ≡ true
    unfolding connected
    whole c w h = reached-in q.vertices w (all-at (among (reached q q.vertices)) q.vertices c w h)

  -- With S, the vertices of the query that it lacks are such a set too.
  abbrev rest : VertexSet → VertexSet
  rest S w = ltb w q.vertices && not (S w)

  rest-closed : (S : VertexSet) → Closed S → Closed (rest S)
  rest-closed S closed v h t =
      let f = touches-some q v (rest S) t in
      let u = f.0 in
      and_both (ltb v q.vertices) (not (S v)) (lt-ltb v q.vertices h)
      (ap not (fails (S v) (λ s. clash
      (closed u (ltb-true u q.vertices (and_l (ltb u q.vertices) (not (S u)) f.1)) (touches-one q u v S s (neighbours-turn q v u f.2)))
      (not-true (S u) (and_r (ltb u q.vertices) (not (S u)) f.1)))))

  -- A set that is neither empty nor whole is no such set.
  not-closed : (S : VertexSet) → connected q ≡ true → (a b : ℕ) → a < q.vertices → b < q.vertices → S a ≡ true → S b ≡ false → Closed S → ⊥
  not-closed S c a b ha hb ia ib closed = go (S 0) refl
    where
      go : (t : Bool) → S 0 ≡ t → ⊥
      go true e = clash (whole S closed e c b hb) ib
      go false e =
          clash ia (not-true (S a) (and_r (ltb a q.vertices) (not (S a))
          (whole (rest S) (rest-closed S closed) (and_both (ltb 0 q.vertices) (not (S 0)) (lt-ltb 0 q.vertices (omega arith)) (ap not e)) c a ha)))

  -- So some vertex outside it touches it.
  pub some-beside : (S : VertexSet) → SomeBeside q S
  some-beside S c a b ha hb ia ib = go (any (λ (v : ℕ). not (S v) && touches q v S) (range q.vertices)) refl
    where
      go : (t : Bool) → any (λ (v : ℕ). not (S v) && touches q v S) (range q.vertices) ≡ t → Beside q S
      go true e =
          any_below (λ (v : ℕ). not (S v) && touches q v S) q.vertices e (λ v h t. record {
            vertex = v;
            below = h;
            outside = not-true (S v) (and_l (not (S v)) (touches q v S) t);
            joined = and_r (not (S v)) (touches q v S) t;
          })
      go false e =
          absurd (not-closed S c a b ha hb ia ib (λ v h t. not-false (S v) (fails (not (S v)) (λ o.
          clash (any_at (λ (v : ℕ). not (S v) && touches q v S) q.vertices v h (and_both (not (S v)) (touches q v S) o t)) e))))

  -- The same by how many vertices of the query the set has: some, and not all.
  pub beside-counted : (S : VertexSet) → connected q ≡ true → 0 < count_if S (range q.vertices) → count_if S (range q.vertices) < q.vertices → Beside q S
  beside-counted S c some less =
      any_below S q.vertices (any-count S (range q.vertices) ∙ lt-ltb 0 _ some)
      (λ a ha ia. any_below (λ (w : ℕ). not (S w)) q.vertices (some-missing S q.vertices less)
      (λ b hb ib. some-beside S c a b ha hb ia (not-true (S b) ib)))
