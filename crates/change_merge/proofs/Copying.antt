-- The lists of vertices that no change touches: copied at once, their offsets moved. Assumes nothing.
use mathlib.Core.Path.{◌≡◌, refl, sym, ◌∙◌, ap, ap₂}
use mathlib.Core.Bool.{Bool, true, false}
use mathlib.Core.List.{List, ◌++◌, append_assoc, append-nil}
use Prim.Native.Nat.{ℕ, zero, suc, ◌+◌, ◌-◌, ◌*◌, ◌≤◌, ◌<◌}
use native.Mathlib.Omega.{arith}
use lib.Dec.{ltb}
use lib.ListN.{length, get_or, set, take, drop, length-append, length-set, length-drop, get_or-append}
use lib.Seq.{take_at, drop_at, drop-drop, drop-set-lt, take-add, length-take-le, drop-append-le, get_or-take, get_or-drop, get_or-append-add, get_or-set_same, get_or-set_other}
use borrow.Author.Tests.{ltb-true, ltb-false, lt-ltb}
use Rattle.lists.specs.Lists.{ascending}
use Rattle.lists.proofs.All.{all_true}
use Rattle.lists.proofs.Count.{count-mono, count-le}
use Rattle.lists.proofs.Parts.{rest_at, drop-take, tail-back}
use Rattle.change_merge.specs.Inner.Merge.{entries_of, below, entries_below, SideOf, Written, Untouched, Copyable, Moved}
use Rattle.change_merge.proofs.Parting.{length-below, entries_next, below_next}

-- ---- the offsets

pub moved_none : (from : List ℕ) (less more : ℕ) (to : List ℕ) → Moved from 0 less more to to
moved_none from less more to = record { long = refl; moved = λ i l. absurd (omega arith); rest = refl }

pub moved_more : {from : List ℕ} {i less more : ℕ} {to₀ to : List ℕ} → Moved from i less more to₀ to → i < length to₀
    → Moved from (i + 1) less more to₀ (set to i (get_or from i 0 - less + more))
moved_more {from} {i} {less} {more} {to₀} {to} h l =
    let x : ℕ = get_or from i 0 - less + more in
    record {
      long = length-set to i (get_or from i 0 - less + more) ∙ h.long;
      moved = λ j k. go j k (ltb j i) refl;
      rest =
          drop-set-lt (i + 1) to i (get_or from i 0 - less + more) (omega arith)
          ∙ sym (drop-drop 1 i to) ∙ ap (drop 1) h.rest ∙ drop-drop 1 i to₀;
    }
  where
    go : (j : ℕ) → j < i + 1 → (b : Bool) → ltb j i ≡ b → get_or (set to i (get_or from i 0 - less + more)) j 0 ≡ get_or from j 0 - less + more
    go j k true t = get_or-set_other to i j _ 0 (λ e. let m : j < i = ltb-true j i t in omega arith) ∙ h.moved j (ltb-true j i t)
    go j k false t =
        let e : j ≡ i = omega (arith, ltb-false j i t) in
        rw e (get_or-set_same to i _ 0 (omega (arith, h.long)))

-- ---- the entries

pub below-rises : (v u : ℕ) (ks : List ℕ) → v ≤ u → below v ks ≤ below u ks
below-rises v u ks l =
    count-mono (λ (k : ℕ). true) (λ (k : ℕ). ltb k (v * 16777216)) (λ (k : ℕ). ltb k (u * 16777216)) ks (all_true ks)
    (λ k t i. lt-ltb k (u * 16777216) (omega (arith, ltb-true k (v * 16777216) i)))

-- What comes after the entries that are written.
pub appended : (n len : ℕ) (side side₀ before es : List ℕ) → drop (suc n) side ≡ before ++ drop (suc n + len) side₀ → length before ≡ len
    → n + 1 + len ≤ length side
    → drop (suc n) (take (n + 1 + len) side ++ (es ++ drop (n + 1 + len + length es) side)) ≡ (before ++ es) ++ drop (suc n + (len + length es)) side₀
appended n len side side₀ before es w size room =
    drop-append-le (suc n) (take (n + 1 + len) side) _ (rw (length-take-le (n + 1 + len) side room) (omega arith))
    ∙ ap₂ (λ (a b : List ℕ). a ++ (es ++ b)) front after
    ∙ sym (append_assoc before es (drop (suc n + (len + length es)) side₀))
  where
    front : drop (suc n) (take (n + 1 + len) side) ≡ before
    front =
        drop-take (suc n) (n + 1 + len) side
        ∙ ap₂ take (let q : n + 1 + len - suc n ≡ len = omega arith in q) w
        ∙ take_at before (drop (suc n + len) side₀) len size

    after : drop (n + 1 + len + length es) side ≡ drop (suc n + (len + length es)) side₀
    after =
        ap (λ (p : ℕ). drop p side) (let q : n + 1 + len + length es ≡ suc n + (len + length es) = omega arith in q)
        ∙ sym (drop-drop (len + length es) (suc n) side) ∙ ap (drop (len + length es)) w
        ∙ sym (drop-drop (length es) len (before ++ drop (suc n + len) side₀))
        ∙ ap (drop (length es)) (drop_at before (drop (suc n + len) side₀) len size)
        ∙ drop-drop (length es) (suc n + len) side₀
        ∙ ap (λ (p : ℕ). drop p side₀) (let q : suc n + len + length es ≡ suc n + (len + length es) = omega arith in q)

module _ (ks new : List ℕ) (up : ascending ks ≡ true) (rise : ascending new ≡ true) {v u : ℕ} (same : Untouched ks new v u) where
  -- As many entries by both.
  between-count : (j : ℕ) → v + j ≤ u → below (v + j) new + below v ks ≡ below v new + below (v + j) ks
  between-count zero l = let e : v + 0 ≡ v = omega arith in rw e
  between-count (suc j) l =
      let e : v + suc j ≡ suc (v + j) = omega arith in
      rw e
      (omega (
        arith,
        between-count j (omega arith),
        below_next new rise (v + j),
        below_next ks up (v + j),
        ap length (same (v + j) (omega arith) (omega arith)),
      ))

  pub between : (w : ℕ) → v ≤ w → w ≤ u → below w new + below v ks ≡ below v new + below w ks
  between w l m =
      let e : v + (w - v) ≡ w = omega arith in
      rw e at (between-count (w - v) (omega arith))

  -- They are the words of the old side.
  module _ {old : List ℕ} {n at : ℕ} (s : SideOf old n at ks) (inside : u ≤ n) where
    list_at_lem : (w : ℕ) → w < n → entries_of w ks ≡ take (below (suc w) ks - below w ks) (drop (at + n + 1 + below w ks) old)
    list_at_lem w l =
        let next : get_or old (at + w + 1) 0 ≡ below (suc w) ks = ap (λ (p : ℕ). get_or old p 0) (let e : at + w + 1 ≡ at + suc w = omega arith in e) ∙ s.starts (suc w) l in
        sym (s.lists w l) ∙ rw (next, s.starts w (omega arith))

    words_count : (j : ℕ) → v + j ≤ u → entries_below (v + j) new ≡ entries_below v new ++ take (below (v + j) ks - below v ks) (drop (at + n + 1 + below v ks) old)
    words_count zero l =
        let e : v + 0 ≡ v = omega arith in
        let z : below v ks - below v ks ≡ 0 = omega arith in
        rw (e, z) (sym (append-nil (entries_below v new)))
    words_count (suc j) l =
        ap (λ (w : ℕ). entries_below w new) e ∙ entries_next new rise (v + j)
        ∙ ap₂ (λ (a b : List ℕ). a ++ b) (words_count j (omega arith)) (same (v + j) (omega arith) (omega arith) ∙ list_at_lem (v + j) (omega arith) ∙ ap (take (below (suc (v + j)) ks - below (v + j) ks)) further)
        ∙ append_assoc (entries_below v new) (take (below (v + j) ks - below v ks) (drop (at + n + 1 + below v ks) old)) (take (below (suc (v + j)) ks - below (v + j) ks) (drop (below (v + j) ks - below v ks) (drop (at + n + 1 + below v ks) old)))
        ∙ ap (λ (t : List ℕ). entries_below v new ++ t) (sym (take-add (below (v + j) ks - below v ks) (below (suc (v + j)) ks - below (v + j) ks) (drop (at + n + 1 + below v ks) old)) ∙ ap (λ (p : ℕ). take p (drop (at + n + 1 + below v ks) old)) sum)
      where
        e : v + suc j ≡ suc (v + j)
        e = omega arith

        first : below v ks ≤ below (v + j) ks
        first = below-rises v (v + j) ks (omega arith)

        second : below (v + j) ks ≤ below (suc (v + j)) ks
        second = below-rises (v + j) (suc (v + j)) ks (omega arith)

        further : drop (at + n + 1 + below (v + j) ks) old ≡ drop (below (v + j) ks - below v ks) (drop (at + n + 1 + below v ks) old)
        further =
            ap (λ (p : ℕ). drop p old) (let q : at + n + 1 + below (v + j) ks ≡ at + n + 1 + below v ks + (below (v + j) ks - below v ks) = omega (arith, first) in q)
            ∙ sym (drop-drop (below (v + j) ks - below v ks) (at + n + 1 + below v ks) old)

        sum : (below (v + j) ks - below v ks) + (below (suc (v + j)) ks - below (v + j) ks) ≡ below (v + suc j) ks - below v ks
        sum = rw e (omega (arith, first, second))

    copied-words : v ≤ u → entries_below u new ≡ entries_below v new ++ take (below u ks - below v ks) (drop (at + n + 1 + below v ks) old)
    copied-words l =
        let e : v + (u - v) ≡ u = omega arith in
        rw e at (words_count (u - v) (omega arith))

-- ---- both

-- What the copy leaves, as the code has it.
module _ {old : List ℕ} {n at : ℕ} {ks : List ℕ} (s : SideOf old n at ks) (side : List ℕ) {v u len : ℕ} (c : Copyable ks n v u len (length side)) where
  -- The offsets of v and of u, and how many entries are between.
  abbrev a : ℕ
  a = get_or old (at + v) 0

  abbrev many : ℕ
  many = get_or old (at + u) 0 - a

  abbrev from : ℕ
  from = at + n + 1 + a

  first-is : a ≡ below v ks
  first-is = s.starts v (omega (arith, c.upward, c.inside))

  pub copy-rises : a ≤ get_or old (at + u) 0
  copy-rises = rw (first-is, s.starts u c.inside) (below-rises v u ks c.upward)

  pub many_is : many ≡ below u ks - below v ks
  many_is = ap₂ (λ (x y : ℕ). x - y) (s.starts u c.inside) first-is

  pub copy-there : from + many ≤ length old
  copy-there = omega (arith, s.whole, copy-rises, s.starts u c.inside, count-le (λ (k : ℕ). ltb k (u * 16777216)) ks)

  pub copy-fits : n + 1 + (len + many) ≤ length side
  copy-fits = omega (arith, c.fits, many_is)

  es : List ℕ
  es = take many (drop from old)

  es-long : length es ≡ many
  unfolding es
  es-long = length-take-le many (drop from old) (rw length-drop (omega (arith, copy-there)))

  module _ {part : List ℕ} (w : part ≡ take many (take (length old - from) (drop from old)) ++ drop many (take (length side - (n + 1 + len)) (drop (n + 1 + len) side))) where
    abbrev one : List ℕ
    one = take (n + 1 + len) side ++ (part ++ drop (length side - (n + 1 + len)) (drop (n + 1 + len) side))

    one-is : one ≡ take (n + 1 + len) side ++ (es ++ drop (n + 1 + len + length es) side)
    unfolding es
    one-is =
        tail-back side part (n + 1 + len) (omega (arith, copy-fits))
        ∙ ap (λ (l : List ℕ). take (n + 1 + len) side ++ l)
        (w ∙ ap₂ (λ (a b : List ℕ). a ++ b) (ap (take many) (rest_at old from))
        (ap (drop many) (rest_at side (n + 1 + len)) ∙ drop-drop many (n + 1 + len) side ∙ ap (λ (p : ℕ). drop (n + 1 + len + p) side) (sym es-long)))

    front : length (take (n + 1 + len) side) ≡ n + 1 + len
    front = length-take-le (n + 1 + len) side (omega (arith, copy-fits))

    pub one-long : length one ≡ length side
    one-long = ap length one-is ∙ rw (length-append, front, length-append, length-drop, es-long) (omega (arith, copy-fits))

    pub one_has : v + 1 ≤ length one
    one_has = omega (arith, one-long, c.upward, c.inside, copy-fits)

    one-starts : (i : ℕ) → i ≤ n → get_or one i 0 ≡ get_or side i 0
    one-starts i l =
        ap (λ (t : List ℕ). get_or t i 0) one-is
        ∙ get_or-append (take (n + 1 + len) side) _ 0 i (rw front (omega arith)) ∙ get_or-take (n + 1 + len) side i 0 (omega arith)

    -- The offsets that are moved are those of the old side.
    abbrev olds : List ℕ
    olds = take (length old - (at + v + 1)) (drop (at + v + 1) old)

    abbrev rest : List ℕ
    rest = take (length one - (v + 1)) (drop (v + 1) one)

    pub olds-long : u - v ≤ length olds
    olds-long = rw (rest_at old (at + v + 1), length-drop) (omega (arith, s.whole, c.inside))

    pub rest-long : u - v ≤ length rest
    rest-long = rw (rest_at one (v + 1), length-drop, one-long) (omega (arith, c.inside, copy-fits))

    old-at : (i : ℕ) → i < u - v → get_or olds i 0 ≡ below (v + 1 + i) ks
    old-at i l =
        ap (λ (t : List ℕ). get_or t i 0) (rest_at old (at + v + 1)) ∙ get_or-drop (at + v + 1) old i 0
        ∙ ap (λ (p : ℕ). get_or old p 0) (let q : at + v + 1 + i ≡ at + (v + 1 + i) = omega arith in q) ∙ s.starts (v + 1 + i) (omega (arith, c.inside))

    pub olds-fit : (i : ℕ) → i < u - v → (a ≤ get_or olds i 0) × (get_or olds i 0 - a + len < 4294967296)
    olds-fit i l =
        let low : below v ks ≤ below (v + 1 + i) ks = below-rises v (v + 1 + i) ks (omega arith) in
        let high : below (v + 1 + i) ks ≤ below u ks = below-rises (v + 1 + i) u ks (omega arith) in
        (omega (arith, old-at i l, first-is), omega (arith, old-at i l, first-is, c.countable))

    module _ {moved : List ℕ} (m : Moved olds (u - v) a len rest moved) where
      abbrev two : List ℕ
      two = take (v + 1) one ++ (moved ++ drop (length one - (v + 1)) (drop (v + 1) one))

      two_is : two ≡ take (v + 1) one ++ moved
      two_is = tail-back one moved (v + 1) one_has

      head : length (take (v + 1) one) ≡ v + 1
      head = length-take-le (v + 1) one one_has

      pub two-long : length two ≡ length side
      two-long =
          ap length two_is ∙ length-append (take (v + 1) one) moved
          ∙ rw (head, m.long, rest_at one (v + 1), length-drop, one-long) (omega (arith, c.upward, c.inside, copy-fits))

      two-words : drop (suc n) two ≡ drop (suc n) one
      two-words =
          ap (drop (suc n)) two_is
          ∙ ap (λ (p : ℕ). drop p (take (v + 1) one ++ moved)) (let q : suc n ≡ v + 1 + (n - v) = omega (arith, c.upward, c.inside) in q)
          ∙ sym (drop-drop (n - v) (v + 1) (take (v + 1) one ++ moved))
          ∙ ap (drop (n - v)) (drop_at (take (v + 1) one) moved (v + 1) head)
          ∙ ap (λ (p : ℕ). drop p moved) (let q : n - v ≡ u - v + (n - u) = omega (arith, c.upward, c.inside) in q)
          ∙ sym (drop-drop (n - u) (u - v) moved) ∙ ap (drop (n - u)) (m.rest ∙ ap (drop (u - v)) (rest_at one (v + 1)))
          ∙ drop-drop (n - u) (u - v) (drop (v + 1) one) ∙ drop-drop (u - v + (n - u)) (v + 1) one
          ∙ ap (λ (p : ℕ). drop p one) (let q : v + 1 + (u - v + (n - u)) ≡ suc n = omega (arith, c.upward, c.inside) in q)

      pub copied : (new side₀ : List ℕ) → ascending new ≡ true → Untouched ks new v u → Written new n side₀ v side len → Written new n side₀ u two (len + many)
      unfolding es
      copied new side₀ rise same h =
          record {
            within = c.inside;
            long = two-long ∙ h.long;
            starts = λ w l. go w l (ltb v w) refl;
            words =
                two-words ∙ ap (drop (suc n)) one-is
                ∙ appended n len side side₀ (entries_below v new) es h.words (length-below v new ∙ sym h.its_len) (omega (arith, copy-fits))
                ∙ ap₂ (λ (a : List ℕ) (p : ℕ). a ++ drop (suc n + (len + p)) side₀) new-words es-long;
            its_len = omega (arith, h.its_len, between ks new s.rising rise same u c.upward (omega arith), many_is, below-rises v u ks c.upward);
          }
        where
          new-words : entries_below v new ++ es ≡ entries_below u new
          new-words =
              ap₂ (λ (p q : ℕ). entries_below v new ++ take p (drop (at + n + 1 + q) old)) many_is first-is
              ∙ sym (copied-words ks new s.rising rise same s c.inside c.upward)

          go : (w : ℕ) → w ≤ u → (b : Bool) → ltb v w ≡ b → get_or two w 0 ≡ below w new
          go w l true t =
              let i : ℕ = w - (v + 1) in
              let above : v < w = ltb-true v w t in
              let place : v + 1 + (w - (v + 1)) ≡ w = omega arith in
              let low : w - (v + 1) < u - v = omega arith in
              ap₂ (λ (x : List ℕ) (p : ℕ). get_or x p 0) two_is (sym place)
              ∙ ap (λ (p : ℕ). get_or (take (v + 1) one ++ moved) (p + (w - (v + 1))) 0) (sym head)
              ∙ get_or-append-add (take (v + 1) one) moved (w - (v + 1)) 0
              ∙ m.moved (w - (v + 1)) low ∙ ap₂ (λ (x y : ℕ). x - y + len) (old-at (w - (v + 1)) low ∙ ap (λ (p : ℕ). below p ks) place) first-is
              ∙ omega (arith, h.its_len, between ks new s.rising rise same w (omega arith) l, below-rises v w ks (omega arith))
          go w l false t =
              let low : w ≤ v = ltb-false v w t in
              ap (λ (x : List ℕ). get_or x w 0) two_is
              ∙ get_or-append (take (v + 1) one) moved 0 w (rw head (omega arith)) ∙ get_or-take (v + 1) one w 0 (omega arith)
              ∙ one-starts w (omega (arith, c.upward, c.inside)) ∙ h.starts w low
