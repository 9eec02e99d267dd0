-- A vertex's entries of one label are done: what was known of all words and entries is known after it. Assumes nothing.
use mathlib.Core.Path.{◌≡◌, refl, sym, ◌∙◌, ap, subst}
use mathlib.Core.Logic.{◌⊎◌, inl, inr}
use mathlib.Core.Bool.{Bool, true, false}
use mathlib.Core.List.{List}
use Prim.Native.Nat.{ℕ, zero, suc, ◌+◌, ◌-◌, ◌*◌, ◌%◌, ◌≤◌, ◌<◌}
use native.Mathlib.Nat.{eq-or-lt_of_le}
use native.Mathlib.Omega.{arith}
use lib.Dec.{eqb, ltb}
use lib.ListN.{length, get_or, set}
use lib.Seq.{get_or-set_same, get_or-set_other}
use borrow.Author.Tests.{eqb-true, eqb-false, ltb-true, ltb-false}
use Rattle.store_reverse.specs.Inner.Check.{reverse}
use Rattle.store_step.specs.Inner.Walk.{before, MatchedEntry, Matched, Word, Arrived, Done, Walked}

-- A later `next` holds too.
pub walked_on : {n : ℕ} {starts : ℕ → ℕ} {back : List ℕ} {lists : ℕ → List ℕ} {cursors done : List ℕ} {next later : ℕ}
    → Walked n starts back lists cursors done next → next ≤ later → Walked n starts back lists cursors done later
walked_on {n} {starts} {back} {lists} {cursors} {done} {next} {later} w h =
    record {
      begun = w.begun;
      words = λ t c a b d. widen t c (w.words t c a b d);
      inside = w.inside;
      entries = w.entries;
    }
  where
    widen : (t c : ℕ) → Word n back (starts t) next c → Word n back (starts t) later c
    widen t c k = record { given = k.given; narrow = k.narrow; neighbour = k.neighbour; reached = omega (arith, k.reached); rises = k.rises }

module _ {n : ℕ} {starts : ℕ → ℕ} {back : List ℕ} {lists : ℕ → List ℕ} {cursors done : List ℕ} {base v : ℕ}
    (w : Walked n starts back lists cursors done (base + v)) (h : v < n) (few : n ≤ 65535) {label : ℕ} (is : base ≡ label * 65536)
    (given : 0 < label) (narrow : label < 256) {i : ℕ} {new : List ℕ} (m : Matched n v base (lists v) back (get_or done v 0) i cursors new) where
  grows : (t : ℕ) → get_or cursors t 0 ≤ get_or new t 0
  grows t = go (m.cursors t)
    where
      go : (get_or new t 0 ≡ get_or cursors t 0) ⊎ ((get_or new t 0 ≡ suc (get_or cursors t 0)) × (get_or back (get_or cursors t 0) 0 ≡ base + v)) → get_or cursors t 0 ≤ get_or new t 0
      go (inl e) = omega arith
      go (inr (e, q)) = omega arith

  still : {u k : ℕ} → Arrived starts back cursors u k → Arrived starts back new u k
  still {u} {k} a = record { place = a.place; begins = a.begins; passed = omega (arith, a.passed, grows (k % 65536)); word = a.word }

  -- ---- words

  old-word : (t c : ℕ) → Word n back (starts t) (base + v) c → Word n back (starts t) (base + v + 1) c
  old-word t c k = record { given = k.given; narrow = k.narrow; neighbour = k.neighbour; reached = omega (arith, k.reached); rises = k.rises }

  new_word : (t c : ℕ) → t < n → starts t ≤ c → c ≡ get_or cursors t 0 → get_or back c 0 ≡ base + v → Word n back (starts t) (base + v + 1) c
  new_word t c l s at e =
      record {
        given = omega arith;
        narrow = omega arith;
        neighbour = omega arith;
        reached = omega arith;
        rises = λ p. omega (arith, (w.words t (c - 1) l (omega arith) (omega arith)).reached);
      }

  all_words : (t c : ℕ) → t < n → starts t ≤ c → c < get_or new t 0 → Word n back (starts t) (base + v + 1) c
  all_words t c l s b = go (m.cursors t)
    where
      last : get_or back (get_or cursors t 0) 0 ≡ base + v → (c ≡ get_or cursors t 0) ⊎ (c < get_or cursors t 0) → Word n back (starts t) (base + v + 1) c
      last q (inl e) = new_word t c l s e (ap (λ (k : ℕ). get_or back k 0) e ∙ q)
      last q (inr k) = old-word t c (w.words t c l s k)

      go : (get_or new t 0 ≡ get_or cursors t 0) ⊎ ((get_or new t 0 ≡ suc (get_or cursors t 0)) × (get_or back (get_or cursors t 0) 0 ≡ base + v)) → Word n back (starts t) (base + v + 1) c
      go (inl e) = old-word t c (w.words t c l s (omega arith))
      go (inr (e, q)) = last q (eq-or-lt_of_le (let k : c ≤ get_or cursors t 0 = omega arith in k))

  -- ---- entries

  old-entry : (u j : ℕ) → Done n starts back cursors u (lists u) j → Done n starts back new u (lists u) j
  old-entry u j e = record { rises = e.rises; narrow = e.narrow; neighbour = e.neighbour; arrived = still e.arrived }

  -- The entries of v that are done have lower labels: their reverses are below this vertex's words.
  below-base : (j : ℕ) → j < get_or done v 0 → get_or (lists v) j 0 < base
  below-base j l =
      let e = w.entries v j h l in
      let a = e.arrived in
      omega (arith, (w.words (get_or (lists v) j 0 % 65536) a.place e.neighbour a.begins a.passed).reached, a.word)

  rising : (j : ℕ) → MatchedEntry n v base (lists v) back (get_or done v 0) cursors new j → get_or done v 0 ≤ j → before (lists v) j < get_or (lists v) j 0
  unfolding before
  rising zero e b = omega (arith, e.low)
  rising (suc j) e b = go (eq-or-lt_of_le b)
    where
      go : (get_or done v 0 ≡ suc j) ⊎ (get_or done v 0 < suc j) → get_or (lists v) j 0 < get_or (lists v) (suc j) 0
      go (inl q) = omega (arith, below-base j (omega arith), e.low)
      go (inr l) = omega (arith, e.rises l, ap (λ (k : ℕ). get_or (lists v) k 0) (let z : suc j - 1 ≡ j = omega arith in z))

  new-entry : (j : ℕ) → get_or done v 0 ≤ j → j < i → Done n starts back new v (lists v) j
  new-entry j a b =
      record {
        rises = rising j e a;
        narrow = omega (arith, e.high);
        neighbour = omega (arith, e.neighbour, led);
        arrived =
            record {
              place = get_or cursors (get_or (lists v) j 0 % 65536) 0;
              begins = w.begun (get_or (lists v) j 0 % 65536) (omega (arith, e.neighbour, led));
              passed = omega (arith, e.moved, ap (λ (k : ℕ). get_or new k 0) led, ap (λ (k : ℕ). get_or cursors k 0) led);
              word =
                  ap (λ (k : ℕ). get_or back (get_or cursors k 0) 0) led ∙ e.word
                  ∙ (let z : base + v ≡ reverse v (get_or (lists v) j 0) = omega (arith, e.low, e.high) in z);
            };
      }
    where
      e : MatchedEntry n v base (lists v) back (get_or done v 0) cursors new j
      e = m.entries j a b

      led : get_or (lists v) j 0 % 65536 ≡ get_or (lists v) j 0 - base
      led = omega (arith, e.low, e.high)

  module _ (fit : n ≤ length done) where
    same : get_or (set done v i) v 0 ≡ i
    same = get_or-set_same done v i 0 (omega arith)

    others : (u : ℕ) → (u ≡ v → ⊥) → get_or (set done v i) u 0 ≡ get_or done u 0
    others u d = get_or-set_other done v u i 0 d

    all-inside : (u : ℕ) → u < n → get_or (set done v i) u 0 ≤ length (lists u)
    all-inside u l = go (eqb u v) refl
      where
        go : (b : Bool) → eqb u v ≡ b → get_or (set done v i) u 0 ≤ length (lists u)
        go true e = subst (λ (k : ℕ). get_or (set done v i) k 0 ≤ length (lists k)) (sym (eqb-true u v e)) (omega (arith, same, m.inside))
        go false e = omega (arith, others u (eqb-false u v e), w.inside u l)

    its-entries : (j : ℕ) → j < i → Done n starts back new v (lists v) j
    its-entries j l = go (ltb j (get_or done v 0)) refl
      where
        go : (b : Bool) → ltb j (get_or done v 0) ≡ b → Done n starts back new v (lists v) j
        go true e = old-entry v j (w.entries v j h (ltb-true j (get_or done v 0) e))
        go false e = new-entry j (ltb-false j (get_or done v 0) e) l

    all-entries : (u j : ℕ) → u < n → j < get_or (set done v i) u 0 → Done n starts back new u (lists u) j
    all-entries u j l b = go (eqb u v) refl
      where
        go : (x : Bool) → eqb u v ≡ x → Done n starts back new u (lists u) j
        go true e =
            let q : u ≡ v = eqb-true u v e in
            subst (λ (k : ℕ). Done n starts back new k (lists k) j) (sym q)
            (its-entries j (omega (arith, same, ap (λ (k : ℕ). get_or (set done v i) k 0) q)))
        go false e = old-entry u j (w.entries u j l (omega (arith, others u (eqb-false u v e))))

    pub walked_next : Walked n starts back lists new (set done v i) (base + v + 1)
    walked_next =
        record {
          begun = λ t l. omega (arith, w.begun t l, grows t);
          words = all_words;
          inside = all-inside;
          entries = all-entries;
        }
