-- The loop that writes a side: the lists of one changed vertex after another, and those between. Assumes nothing.
use mathlib.Core.Path.{◌≡◌, refl, sym, ◌∙◌, ap, ap₂}
use mathlib.Core.Bool.{Bool, true, false, not, ◌&&◌}
use mathlib.Core.List.{List, [], ◌∷◌, ◌++◌, map, append_assoc}
use Prim.Native.Nat.{ℕ, zero, suc, ◌+◌, ◌-◌, ◌*◌, ◌/◌, ◌%◌, ◌≤◌, ◌<◌}
use native.Mathlib.Numerals.{add-one}
use native.Mathlib.Omega.{arith}
use lib.Dec.{ltb}
use lib.ListN.{length, get_or, set, take, drop, length-append, length-set, length-drop, length-map, drop_of_length-le, take-append-drop, get_or-append}
use lib.Seq.{drop-cons, drop-drop, drop-set-lt, length-take-le, get_or-take, get_or-set_same, get_or-set_other}
use borrow.Author.Tests.{ltb-true, ltb-false, le-ltb}
use Rattle.lists.specs.Lists.{range, all, ascending}
use Rattle.lists.proofs.Tests.{and_l, and_both, not-true}
use Rattle.lists.proofs.All.{all_get_d, all-follows, map-get_or, keep-none}
use Rattle.lists.proofs.Count.{count-le}
use Rattle.lists.proofs.Ascending.{ascending-drop, ascending-above}
use Rattle.lists.proofs.Maps.{image-ext}
use Rattle.lists.proofs.Parts.{rest_at, tail-back}
use Rattle.change_merge.specs.Inner.Toggle.{toggled}
use Rattle.change_merge.specs.Inner.Merge.{key_at, entries_of, below, entries_below, side_words, Fitting, Mergeable, Written, Untouched, Copyable, Copied}
use Rattle.change_merge.proofs.Toggles.{ascending-toggled, all-toggled}
use Rattle.change_merge.proofs.Merging.{entries-ascend}
use Rattle.change_merge.proofs.Parting.{below_none, length-below, entries_next, below_next, ahead_of, entries_from, entries-all, entries-toggled}
use Rattle.change_merge.proofs.Copying.{appended, between, below-rises}

-- The sides of the vertices below v are written, and `next` changes are theirs.
pub record Siding (ks cs : List ℕ) (n : ℕ) (side₀ : List ℕ) (v : ℕ) (side : List ℕ) (next len : ℕ) : Type 0 where
  pub written : Written (toggled ks cs) n side₀ v side len
  pub its_next : next ≡ below v cs

none_below : (ks : List ℕ) → entries_below 0 ks ≡ []
none_below ks = length_none (entries_below 0 ks) (length-below 0 ks ∙ below_none ks)
  where
    length_none : (xs : List ℕ) → length xs ≡ 0 → xs ≡ []
    length_none [] e = refl
    length_none (x ∷ xs) e = absurd (omega arith)

-- The first offset is written before.
pub zero-fits : {ks cs : List ℕ} {n : ℕ} (side : List ℕ) → Fitting ks cs n (length side) → Fitting ks cs n (length (set side 0 0))
zero-fits side f = rw (length-set side 0 0) f

pub zero-first : {ks cs : List ℕ} {n : ℕ} (side : List ℕ) → Fitting ks cs n (length side) → get_or (set side 0 0) 0 0 ≡ 0
zero-first side f = get_or-set_same side 0 0 0 (omega (arith, f.fits))

pub zero_rest : (ks cs : List ℕ) (n : ℕ) (side : List ℕ) {out : List ℕ}
    → out ≡ side_words n (toggled ks cs) ++ drop (suc n + length (toggled ks cs)) (set side 0 0)
    → out ≡ side_words n (toggled ks cs) ++ drop (suc n + length (toggled ks cs)) side
zero_rest ks cs n side e = e ∙ ap (λ (l : List ℕ). side_words n (toggled ks cs) ++ l) (drop-set-lt (suc n + length (toggled ks cs)) side 0 0 (omega arith))

-- ---- vertices that no change touches

-- The keys from some on are of vertices from u on, where v stands before.
pub record Ahead (cs : List ℕ) (n v next u : ℕ) : Type 0 where
  pub above : v ≤ u
  pub inside : u ≤ n
  pub later : all (λ (k : ℕ). not (ltb k (u * 16777216))) (drop next cs) ≡ true

-- Where the keys from some on are of u or later, and those before are of vertices below v, none is between.
module _ (cs : List ℕ) (up : ascending cs ≡ true) (v u : ℕ) {next : ℕ} (here : next ≡ below v cs)
    (later : all (λ (k : ℕ). not (ltb k (u * 16777216))) (drop next cs) ≡ true) where
  past : (w k : ℕ) → w < u → u * 16777216 ≤ k → key_at w k ≡ false
  past w k l h = rw (le-ltb k (suc w * 16777216) (omega arith)) (last (not (ltb k (w * 16777216))))
    where
      last : (b : Bool) → (b && false) ≡ false
      last true = refl
      last false = refl

  none-at : (w : ℕ) → w < u → next ≡ below w cs → entries_of w cs ≡ []
  unfolding entries_of
  none-at w l e =
      sym (entries_from cs up w) ∙ ap (λ (p : ℕ). entries_of w (drop p cs)) (sym e)
      ∙ ap (map (λ (k : ℕ). k % 16777216))
      (keep-none (key_at w) (λ (k : ℕ). not (ltb k (u * 16777216))) (drop next cs) later
      (λ k t. past w k l (ltb-false k (u * 16777216) (not-true _ t))))

  count-to : (j : ℕ) → v + j ≤ u → next ≡ below (v + j) cs
  count-to zero l = let e : v + 0 ≡ v = omega arith in rw e here
  count-to (suc j) l =
      let e : v + suc j ≡ suc (v + j) = omega arith in
      rw e
      (let h : next ≡ below (v + j) cs = count-to j (omega arith) in
      omega (arith, below_next cs up (v + j), ap length (none-at (v + j) (omega arith) h)))

  pub next-at : (w : ℕ) → v ≤ w → w ≤ u → next ≡ below w cs
  next-at w l m = let e : v + (w - v) ≡ w = omega arith in rw e at (count-to (w - v) (omega arith))

  pub untouched : (ks : List ℕ) → ascending ks ≡ true → Untouched ks (toggled ks cs) v u
  unfolding toggled
  untouched ks rise w l m = entries-toggled w ks cs rise ∙ ap (toggled (entries_of w ks)) (none-at w m (next-at w l (omega arith)))

module _ (ks cs : List ℕ) (n : ℕ) (side₀ : List ℕ) (up : ascending ks ≡ true) (f : Fitting ks cs n (length side₀)) where
  new-up : ascending (toggled ks cs) ≡ true
  new-up = ascending-toggled ks cs up

  pub siding-none : get_or side₀ 0 0 ≡ 0 → Siding ks cs n side₀ 0 side₀ 0 0
  siding-none z =
      record {
        written =
            record {
              within = omega arith;
              long = refl;
              starts = λ w l. let e : w ≡ 0 = omega arith in rw e (z ∙ sym (below_none (toggled ks cs)));
              words =
                  ap (λ (p : ℕ). drop p side₀) (let e : suc n ≡ suc n + 0 = omega arith in e)
                  ∙ ap (λ (l : List ℕ). l ++ drop (suc n + 0) side₀) (sym (none_below (toggled ks cs)));
              its_len = sym (below_none (toggled ks cs));
            };
        its_next = sym (below_none cs);
      }

  module _ {v : ℕ} {side : List ℕ} {next len : ℕ} (h : Siding ks cs n side₀ v side next len) where
    ahead : all (λ (k : ℕ). not (ltb k (v * 16777216))) (drop next cs) ≡ true
    ahead = rw h.its_next (ahead_of cs f.changes_ascend v)

    -- Up to the vertex of the next change;
    module _ (l : next < length cs) {u : ℕ} (e : u ≡ get_or cs next 0 / 16777216) where
      c-is : drop next cs ≡ get_or cs next 0 ∷ drop (suc next) cs
      c-is = drop-cons cs next 0 l

      pub next-inside : u < n
      next-inside =
          let a : get_or cs next 0 < n * 16777216 = ltb-true _ _ (all_get_d (λ (k : ℕ). ltb k (n * 16777216)) cs next 0 l f.changes_bounded) in
          omega arith

      pub next-ahead : Ahead cs n v next u
      unfolding all
      next-ahead =
          record {
            above =
                let a : v * 16777216 ≤ get_or cs next 0 = ltb-false _ _ (not-true _ (and_l (not (ltb (get_or cs next 0) (v * 16777216))) _ (rw c-is at ahead))) in
                omega arith;
            inside = omega (arith, next-inside);
            later =
                rw c-is
                (and_both (not (ltb (get_or cs next 0) (u * 16777216))) _ (ap not (le-ltb (get_or cs next 0) (u * 16777216) (omega arith)))
                (all-follows (ltb (get_or cs next 0)) (λ (k : ℕ). not (ltb k (u * 16777216))) (drop (suc next) cs)
                (ascending-above (get_or cs next 0) (drop (suc next) cs) (rw c-is at (ascending-drop next cs f.changes_ascend)))
                (λ k t. ap not (le-ltb k (u * 16777216) (omega (arith, ltb-true (get_or cs next 0) k t))))));
          }

    -- after the last one, up to n.
    pub end-ahead : length cs ≤ next → Ahead cs n v next n
    unfolding all
    end-ahead l = record { above = h.written.within; inside = omega arith; later = rw (drop_of_length-le cs l) }

    -- The lists up to u are copied.
    module _ {u : ℕ} (g : Ahead cs n v next u) where
      same : Untouched ks (toggled ks cs) v u
      same = untouched cs f.changes_ascend v u h.its_next g.later ks up

      total : len + (below u ks - below v ks) ≤ length (toggled ks cs)
      total =
          omega (
            arith,
            h.written.its_len,
            between ks (toggled ks cs) up new-up same u g.above (omega arith),
            below-rises v u ks g.above,
            count-le (λ (k : ℕ). ltb k (u * 16777216)) (toggled ks cs),
          )

      pub siding-copyable : Copyable ks n v u len (length side)
      siding-copyable =
          record {
            few = f.few;
            upward = g.above;
            inside = g.inside;
            countable = omega (arith, total, f.countable);
            fits = omega (arith, total, f.fits, h.written.long);
          }

      pub siding-copied : {out : List ℕ} (many : ℕ) → Copied ks n v u len side out many → Siding ks cs n side₀ u out next (len + many)
      siding-copied many w =
          record {
            written = w (toggled ks cs) side₀ new-up same h.written;
            its_next = next-at cs f.changes_ascend v u h.its_next g.later u g.above (omega arith);
          }

    -- ---- the list of a vertex

    module _ (l : v < n) where
      -- The entries that are written next.
      its : List ℕ
      its = entries_of v (toggled ks cs)

      last : below (suc v) (toggled ks cs) ≡ len + length its
      unfolding its
      last = below_next (toggled ks cs) new-up v ∙ ap (λ (m : ℕ). m + length (entries_of v (toggled ks cs))) (sym h.written.its_len)

      pub siding-fits : n + 1 + len ≤ length side
      siding-fits =
          omega (arith, f.fits, h.written.long, h.written.its_len, count-le (λ (k : ℕ). ltb k (v * 16777216)) (toggled ks cs))

      pub siding-low : n + 1 + len < 4295032832
      siding-low = omega (arith, f.few, f.countable, h.written.its_len, count-le (λ (k : ℕ). ltb k (v * 16777216)) (toggled ks cs))

      few : len + length its ≤ length (toggled ks cs)
      few = omega (arith, last, count-le (λ (k : ℕ). ltb k (suc v * 16777216)) (toggled ks cs))

      made : toggled (entries_of v ks) (entries_of v (drop next cs)) ≡ its
      unfolding its
      made =
          ap (toggled (entries_of v ks)) (ap (λ (j : ℕ). entries_of v (drop j cs)) h.its_next ∙ entries_from cs f.changes_ascend v)
          ∙ sym (entries-toggled v ks cs up)

      part-long : length (take (length side - (n + 1 + len)) (drop (n + 1 + len) side)) ≡ length side - (n + 1 + len)
      part-long = ap length (rest_at side (n + 1 + len)) ∙ length-drop (n + 1 + len) side

      -- The list of v can be merged.
      pub siding-able : {xs : List ℕ} → xs ≡ entries_of v ks → Mergeable xs cs v next (length (take (length side - (n + 1 + len)) (drop (n + 1 + len) side)))
      siding-able {xs} e =
          record {
            list_ascends = rw e (entries-ascend v ks up);
            changes_ascend = f.changes_ascend;
            inside = omega (arith, h.its_next, count-le (λ (k : ℕ). ltb k (v * 16777216)) cs);
            ahead = ahead;
            fits = rw (e, made, part-long) (omega (arith, few, f.fits, h.written.long));
          }

      -- What the merge leaves, and the next offset after it.
      module _ {xs out : List ℕ} (e : xs ≡ entries_of v ks)
          (w : out ≡ toggled xs (entries_of v (drop next cs)) ++ drop (length (toggled xs (entries_of v (drop next cs)))) (take (length side - (n + 1 + len)) (drop (n + 1 + len) side))) where
        abbrev lent : List ℕ
        lent = take (n + 1 + len) side ++ (out ++ drop (length side - (n + 1 + len)) (drop (n + 1 + len) side))

        lent_is : lent ≡ take (n + 1 + len) side ++ (its ++ drop (n + 1 + len + length its) side)
        lent_is =
            tail-back side out (n + 1 + len) siding-fits
            ∙ ap (λ (t : List ℕ). take (n + 1 + len) side ++ t)
            (w ∙ rw (e, made, rest_at side (n + 1 + len)) (ap (λ (t : List ℕ). its ++ t) (drop-drop (length its) (n + 1 + len) side)))

        front : length (take (n + 1 + len) side) ≡ n + 1 + len
        front = length-take-le (n + 1 + len) side siding-fits

        pub lent-long : length lent ≡ length side
        lent-long =
            ap length lent_is
            ∙ rw (length-append, front, length-append, length-drop) (omega (arith, few, f.fits, h.written.long, siding-fits))

        lent-starts : (i : ℕ) → i ≤ v → get_or lent i 0 ≡ below i (toggled ks cs)
        lent-starts i m =
            ap (λ (t : List ℕ). get_or t i 0) lent_is
            ∙ get_or-append (take (n + 1 + len) side) _ 0 i (rw front (omega arith)) ∙ get_or-take (n + 1 + len) side i 0 (omega arith) ∙ h.written.starts i m

        module _ {m j : ℕ} (a : m ≡ length (toggled xs (entries_of v (drop next cs)))) (b : j ≡ next + length (entries_of v (drop next cs))) where
          m-is : m ≡ length its
          m-is = a ∙ rw (e, made)

          pub siding-small : len + m < 4294967296
          siding-small = omega (arith, m-is, few, f.countable)

          pub siding-next : Siding ks cs n side₀ (v + 1) (set lent (v + 1) (len + m)) j (len + m)
          unfolding its
          siding-next =
              rw (add-one v)
              record {
                written =
                    record {
                      within = l;
                      long = length-set lent (suc v) (len + m) ∙ lent-long ∙ h.written.long;
                      starts = λ i k. go i k (ltb i (suc v)) refl;
                      words =
                          drop-set-lt (suc n) lent (suc v) (len + m) (omega arith) ∙ ap (drop (suc n)) lent_is
                          ∙ appended n len side side₀ (entries_below v (toggled ks cs)) its h.written.words (length-below v (toggled ks cs) ∙ sym h.written.its_len) siding-fits
                          ∙ ap₂ (λ (t : List ℕ) (p : ℕ). t ++ drop (suc n + (len + p)) side₀) (sym (entries_next (toggled ks cs) new-up v)) (sym m-is);
                      its_len = omega (arith, m-is, last);
                    };
                its_next = b ∙ rw (h.its_next, entries_from cs f.changes_ascend v) (sym (below_next cs f.changes_ascend v));
              }
            where
              go : (i : ℕ) → i ≤ suc v → (t : Bool) → ltb i (suc v) ≡ t → get_or (set lent (suc v) (len + m)) i 0 ≡ below i (toggled ks cs)
              go i k true t =
                  let low : i < suc v = ltb-true i (suc v) t in
                  get_or-set_other lent (suc v) i (len + m) 0 (λ q. omega arith) ∙ lent-starts i (omega arith)
              go i k false t =
                  let q : i ≡ suc v = omega (arith, ltb-false i (suc v) t) in
                  rw q (get_or-set_same lent (suc v) (len + m) 0 (rw lent-long (omega (arith, siding-fits))) ∙ omega (arith, m-is, last))

  pub siding-all : {side : List ℕ} {next len : ℕ} → Siding ks cs n side₀ n side next len → all (λ (k : ℕ). ltb k (n * 16777216)) ks ≡ true
      → side ≡ side_words n (toggled ks cs) ++ drop (suc n + length (toggled ks cs)) side₀
  unfolding side_words
  siding-all {side} {next} {len} h b =
      sym (take-append-drop (suc n) side)
      ∙ ap₂ (λ (a b : List ℕ). a ++ b) starts (h.written.words ∙ ap₂ (λ (a : List ℕ) (p : ℕ). a ++ drop (suc n + p) side₀) ends size)
      ∙ sym (append_assoc (map (λ (u : ℕ). below u (toggled ks cs)) (range (suc n))) (map (λ (k : ℕ). k % 16777216) (toggled ks cs)) (drop (suc n + length (toggled ks cs)) side₀))
    where
      ends : entries_below n (toggled ks cs) ≡ map (λ (k : ℕ). k % 16777216) (toggled ks cs)
      ends = entries-all n (toggled ks cs) (all-toggled (λ (k : ℕ). ltb k (n * 16777216)) ks cs b f.changes_bounded)

      size : len ≡ length (toggled ks cs)
      size = h.written.its_len ∙ sym (length-below n (toggled ks cs)) ∙ ap length ends ∙ length-map (toggled ks cs) (λ (k : ℕ). k % 16777216)

      starts : take (suc n) side ≡ map (λ (u : ℕ). below u (toggled ks cs)) (range (suc n))
      starts =
          sym (map-get_or side (suc n) (omega (arith, f.fits, h.written.long)))
          ∙ image-ext (λ (u : ℕ). get_or side u 0) (λ (u : ℕ). below u (toggled ks cs)) (suc n) (λ u l. h.written.starts u (omega arith))
