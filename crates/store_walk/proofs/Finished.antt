-- The start and the end of the walk: with every entry done and every cursor at the end of its list, both sides fit, and the first is
-- reversed on the second. Assumes nothing.
use mathlib.Core.Path.{◌≡◌, refl, sym, ◌∙◌, ap}
use mathlib.Core.Bool.{Bool, true, false}
use mathlib.Core.List.{List, ◌++◌}
use Prim.Native.Nat.{ℕ, zero, suc, ◌+◌, ◌-◌, ◌%◌, ◌≤◌, ◌<◌}
use native.Mathlib.Omega.{arith}
use lib.ListN.{length, get_or, take, drop, length-drop, length-take, get_or-append}
use lib.Seq.{get_or-take, get_or-drop, length-take-le}
use lib.Dec.{eqb}
use borrow.Author.Tests.{eqb-true, eqb-false}
use Rattle.lists.proofs.All.{all-range, get_or-all}
use Rattle.adjacency.specs.Inner.Side.{list_on, Within}
use Rattle.adjacency.specs.Inner.Portion.{member}
use Rattle.store_reverse.specs.Inner.Check.{unless, reverse, list_fits, side_fits, list_reversed, side_reversed}
use Rattle.store_step.proofs.Stops.{passes, refused}
use Rattle.store_reverse.proofs.Offsets.{Rising, offsets-rising, offsets-within, offset-le}
use Rattle.store_step.specs.Inner.Walk.{before, sides_agree, Outcome, Decides, Word, Arrived, Done, WalkedIn, BothRise, Sides, Ended}
use Rattle.store_step.proofs.Agreeing.{at-fits, member-at, agree}

-- ---- the start

pub walked_none : (store : List ℕ) {n : ℕ} (side other : ℕ) {back cursors done : List ℕ} → ((t : ℕ) → t < n → get_or cursors t 0 ≡ get_or store (other + t) 0)
    → ((v : ℕ) → v < n → get_or done v 0 ≡ 0) → (next : ℕ) → WalkedIn store n side other back cursors done next
walked_none store side other at none next =
    record {
      begun = λ t l. omega (arith, at t l);
      words = λ t c l s b. absurd (omega (arith, at t l));
      inside = λ v l. omega (arith, none v l);
      entries = λ v j l b. absurd (omega (arith, none v l));
    }

-- The first n offsets, copied to the cursors.
pub copied_at : (store : List ℕ) (n other k : ℕ) {cursors : List ℕ} (rest : List ℕ) → cursors ≡ take n (take k (drop other store)) ++ rest
    → k ≡ n → other + n ≤ length store → (t : ℕ) → t < n → get_or cursors t 0 ≡ get_or store (other + t) 0
copied_at store n other k rest e q r t l =
    ap (λ (c : List ℕ). get_or c t 0) e
    ∙ get_or-append (take n (take k (drop other store))) rest 0 t (rw (length-take, length-take, length-drop) (omega arith))
    ∙ get_or-take n (take k (drop other store)) t 0 l ∙ get_or-take k (drop other store) t 0 (omega arith) ∙ get_or-drop other store t 0

-- The sides of a store whose offsets rise.
pub rising-sides : {store : List ℕ} {n m side other : ℕ} → BothRise store n m side other
    → Sides store n side other (take (other + n + 1 + m - (other + n + 1)) (drop (other + n + 1) store))
rising-sides {store} {n} {m} {side} {other} r =
    record {
      lists = offsets-within store n m side r.room (offsets-rising store n m side r.room r.rises);
      others = offsets-within store n m other r.other_room up;
      few = r.few;
      countable = omega (arith, long, r.countable);
      entries = ap (λ (j : ℕ). take j (drop (other + n + 1) store)) (sym long);
      ends = λ v l. omega (arith, long, ends v l);
    }
  where
    up : Rising m n (λ (v : ℕ). get_or store (other + v) 0)
    up = offsets-rising store n m other r.other_room r.other_rises

    k : ℕ
    k = other + n + 1 + m - (other + n + 1)

    long : length (take k (drop (other + n + 1) store)) ≡ k
    long = length-take-le k (drop (other + n + 1) store) (rw length-drop (omega (arith, r.other_room)))

    ends : (v : ℕ) → v < n → get_or store (other + v + 1) 0 ≤ m
    ends v l =
        omega (arith, offset-le store n m other r.other_room up (suc v) l, ap (λ (j : ℕ). get_or store j 0) (let z : other + v + 1 ≡ other + suc v = omega arith in z))

-- ---- the end

-- A list by its words.
module _ {store : List ℕ} {n side v : ℕ} (w : Within store n side v) where
  pub list_long : length (list_on store n side v) ≡ get_or store (side + v + 1) 0 - get_or store (side + v) 0
  list_long =
      length-take-le (get_or store (side + v + 1) 0 - get_or store (side + v) 0) (drop (side + n + 1 + get_or store (side + v) 0) store)
      (rw length-drop (omega (arith, w.rises, w.ends)))

  list_at_lem : (j : ℕ) → j < length (list_on store n side v) → get_or (list_on store n side v) j 0 ≡ get_or store (side + n + 1 + get_or store (side + v) 0 + j) 0
  list_at_lem j l =
      get_or-take (get_or store (side + v + 1) 0 - get_or store (side + v) 0) (drop (side + n + 1 + get_or store (side + v) 0) store) j 0 (omega (arith, list_long))
      ∙ get_or-drop (side + n + 1 + get_or store (side + v) 0) store j 0

module _ {store : List ℕ} {n side other : ℕ} {back cursors done : List ℕ} {next : ℕ} (s : Sides store n side other back)
    (w : WalkedIn store n side other back cursors done next) (all_done : (v : ℕ) → v < n → length (list_on store n side v) ≤ get_or done v 0)
    (at_end : (t : ℕ) → t < n → get_or cursors t 0 ≡ get_or store (other + t + 1) 0) where
  abbrev start : ℕ → ℕ
  start t = get_or store (other + t) 0

  -- Word j of a list on the other side.
  other_at : (t : ℕ) → t < n → (j : ℕ) → j < length (list_on store n other t) → get_or (list_on store n other t) j 0 ≡ get_or back (start t + j) 0
  other_at t l j k =
      list_at_lem (s.others t l) j k
      ∙ sym
      (ap (λ (b : List ℕ). get_or b (start t + j) 0) s.entries
      ∙ get_or-take (length back) (drop (other + n + 1) store) (start t + j) 0
      (omega (arith, list_long (s.others t l), (s.others t l).rises, s.ends t l))
      ∙ get_or-drop (other + n + 1) store (start t + j) 0
      ∙ ap (λ (i : ℕ). get_or store i 0) (let e : other + n + 1 + (start t + j) ≡ other + n + 1 + start t + j = omega arith in e))

  word_of : (t : ℕ) (l : t < n) (j : ℕ) → j < length (list_on store n other t) → Word n back (start t) next (start t + j)
  word_of t l j k = w.words t (start t + j) l (omega arith) (omega (arith, at_end t l, list_long (s.others t l)))

  other_rises : (t : ℕ) (l : t < n) (j : ℕ) → j < length (list_on store n other t) → before (list_on store n other t) j < get_or (list_on store n other t) j 0
  unfolding before
  other_rises t l zero k = omega (arith, other_at t l 0 k, (word_of t l 0 k).given)
  other_rises t l (suc j) k =
      omega (
        arith,
        other_at t l (suc j) k,
        other_at t l j (omega arith),
        (word_of t l (suc j) k).rises (omega arith),
        ap (λ (i : ℕ). get_or back i 0) (let e : start t + suc j - 1 ≡ start t + j = omega arith in e),
      )

  other_fits : side_fits store n other ≡ true
  unfolding side_fits
  other_fits =
      all-range (λ (t : ℕ). list_fits n (list_on store n other t)) n
      (λ t l.
      at-fits n (list_on store n other t)
      (λ j k.
      let d = word_of t l j k in
      (other_rises t l j k, omega (arith, other_at t l j k, d.narrow), rw (other_at t l j k) d.neighbour)))

  done_at : (v : ℕ) (l : v < n) (j : ℕ) → j < length (list_on store n side v) → Done n start back cursors v (list_on store n side v) j
  done_at v l j k = w.entries v j l (omega (arith, all_done v l))

  fits : side_fits store n side ≡ true
  unfolding side_fits
  fits =
      all-range (λ (v : ℕ). list_fits n (list_on store n side v)) n
      (λ v l. at-fits n (list_on store n side v) (λ j k. let d = done_at v l j k in (d.rises, d.narrow, d.neighbour)))

  arrived-member : (v k : ℕ) → k % 65536 < n → Arrived start back cursors v k → member (reverse v k) (list_on store n other (k % 65536)) ≡ true
  arrived-member v k l a =
      let t : ℕ = k % 65536 in
      let inside : a.place - start t < length (list_on store n other t) =
      omega (arith, a.begins, a.passed, at_end t l, list_long (s.others t l)) in
      member-at (reverse v k) (list_on store n other t) (a.place - start t) inside
      (other_at t l (a.place - start t) inside
      ∙ ap (λ (i : ℕ). get_or back i 0) (let e : start t + (a.place - start t) ≡ a.place = omega (arith, a.begins) in e) ∙ a.word)

  reversed : side_reversed store n side other ≡ true
  unfolding side_reversed list_reversed
  reversed =
      all-range (λ (v : ℕ). list_reversed store n other v (list_on store n side v)) n
      (λ v l.
      get_or-all (λ (k : ℕ). member (reverse v k) (list_on store n other (k % 65536))) (list_on store n side v) 0
      (λ j k. let d = done_at v l j k in arrived-member v (get_or (list_on store n side v) j 0) d.neighbour d.arrived))

  pub sides-agree : 0 ≡ unless (sides_agree store n side other)
  sides-agree = passes (agree store n side other fits reversed other_fits)

-- The tests of the cursors and of the entries, by the words that they read.
module _ {store : List ℕ} {n m side other : ℕ} (r : BothRise store n m side other) where
  abbrev offsets : List ℕ
  offsets = take (side + n + 1 - side) (drop side store)

  abbrev ends : List ℕ
  ends = take (other + 1 + n - (other + 1)) (drop (other + 1) store)

  pub offsets-long : length offsets ≡ suc n
  offsets-long = length-take-le (side + n + 1 - side) (drop side store) (rw length-drop (omega (arith, r.room))) ∙ omega arith

  offset_at : (v : ℕ) → v ≤ n → get_or offsets v 0 ≡ get_or store (side + v) 0
  offset_at v l = get_or-take (side + n + 1 - side) (drop side store) v 0 (omega arith) ∙ get_or-drop side store v 0

  pub offsets-small : (v : ℕ) → v < n → get_or offsets v 0 ≤ 1048575
  offsets-small v l =
      omega (
        arith,
        offset_at v (omega arith),
        offset-le store n m side r.room (offsets-rising store n m side r.room r.rises) v (omega arith),
        r.countable,
      )

  ends-long : length ends ≡ n
  ends-long = length-take-le (other + 1 + n - (other + 1)) (drop (other + 1) store) (rw length-drop (omega (arith, r.other_room))) ∙ omega arith

  end-at : (t : ℕ) → t < n → get_or ends t 0 ≡ get_or store (other + t + 1) 0
  end-at t l =
      get_or-take (other + 1 + n - (other + 1)) (drop (other + 1) store) t 0 (omega arith) ∙ get_or-drop (other + 1) store t 0
      ∙ ap (λ (k : ℕ). get_or store k 0) (let e : other + 1 + t ≡ other + t + 1 = omega arith in e)

  pub at_end : {cursors done : List ℕ} → ((t : ℕ) → t < length ends → get_or cursors t 0 ≡ get_or ends t 0)
      → ((v : ℕ) → v < n → get_or offsets (suc v) 0 ≤ get_or offsets v 0 + get_or done v 0) → Ended store n side other cursors done 0
  at_end a b =
      record {
        cursors_end = λ z t l. a t (rw ends-long l) ∙ end-at t l;
        all_done =
            λ z v l.
            omega (
              arith,
              b v l,
              offset_at v (omega arith),
              offset_at (suc v) l,
              ap (λ (k : ℕ). get_or store k 0) (let e : side + v + 1 ≡ side + suc v = omega arith in e),
            );
        else_undecided = λ h. absurd (h refl);
      }

pub not-ended : {store : List ℕ} {n side other : ℕ} {cursors done : List ℕ} → Ended store n side other cursors done 1
not-ended = record { cursors_end = λ z. absurd (omega arith); all_done = λ z. absurd (omega arith); else_undecided = λ h. refl }

-- The answer to the last tests.
pub ended-decides : {store : List ℕ} {n side other : ℕ} {back cursors done : List ℕ} {next r : ℕ} → Sides store n side other back
    → WalkedIn store n side other back cursors done next → Ended store n side other cursors done r → Decides r (sides_agree store n side other)
ended-decides {store} {n} {side} {other} {back} {cursors} {done} {next} {r} s w e one = go (eqb r 0) refl
  where
    go : (b : Bool) → eqb r 0 ≡ b → r ≡ unless (sides_agree store n side other)
    go true t =
        let z : r ≡ 0 = eqb-true r 0 t in
        z
        ∙ sides-agree s w
        (λ v l. omega (arith, list_long (s.lists v l), e.all_done z v l))
        (e.cursors_end z)
    go false t = absurd (one (e.else_undecided (eqb-false r 0 t)))

-- An answer that is not 0 decides.
pub outcome-decides : {r : ℕ} {b : Bool} {H : Type 0} → Outcome r b H → (r ≡ 0 → ⊥) → Decides r b
outcome-decides o h one = (o.refutes h one).0 ∙ refused (o.refutes h one).1
