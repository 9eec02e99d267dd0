-- Laws of the loop that lists the orders of the vertices that are left, one next vertex after the other. Assumes nothing.
use mathlib.Core.Path.{◌≡◌, refl, sym, ◌∙◌, ap, ap₂, subst}
use mathlib.Core.Bool.{Bool, true, false, cond}
use mathlib.Core.List.{List, [], ◌∷◌, ◌++◌, flat_map}
use Prim.Native.Nat.{ℕ, zero, suc, ◌+◌, ◌-◌, ◌*◌, ◌≤◌, ◌<◌}
use native.Mathlib.Nat.{mul-le-mul_left}
use native.Mathlib.Numerals.{add-one}
use native.Mathlib.Omega.{arith}
use lib.Bits.{bit_or}
use lib.ListN.{length, take, drop, set, length-append, length-drop, length-set, length-map}
use lib.Seq.{length-take-le, take-suc-set}
use Rattle.lists.specs.Lists.{range, all}
use Rattle.lists.proofs.Parts.{rest_at}
use Rattle.lists.proofs.Maps.{flat_map-suc}
use Rattle.query.specs.Query.{Query, VertexSet}
use Rattle.query.specs.Inner.Struct.{query_in}
use Rattle.query.specs.Inner.Mask.{in_mask, MaskOf, only}
use Rattle.query.specs.declared.Query.{Query as QueryStruct}
use Rattle.plan.specs.Plan.{plus}
use Rattle.plan.proofs.Sets.{plus-set}
use Rattle.plan_spectrum.specs.Orders.{extends, before, orders_from}
use Rattle.plan_spectrum.specs.Inner.Parts.{Put, laid, Listed, Lists}
use Rattle.plan_spectrum.proofs.Steps.{orders_by, orders-suc}
use Rattle.plan_spectrum.proofs.Bounds.{wide, laid-length, by_wide, flat-wide}
use Rattle.plan_spectrum.proofs.Laying.{put-none, laid_none, laid_one, laid-before, laid-mono, laid-suc, listed_more, listed_same}

-- The orders that begin with a vertex below v are listed.
pub record Turned (d : QueryStruct) (s k : ℕ) (prefix before after : List ℕ) (found v : ℕ) : Type 0 where
  pub small : v ≤ d.vertices
  pub kept : length after ≡ length before
  pub listed : Listed prefix (flat_map (orders_by (query_in d) (in_mask s) k) (range v)) before after found

-- No vertex is left: the row itself.
pub leaf : (d : QueryStruct) (s : ℕ) (row : List ℕ) (at : ℕ) (out : List ℕ) (left : ℕ) → left ≡ 0 → Lists d s left row at out
    → Listed (take at row) (orders_from (query_in d) (in_mask s) left) out (take at row ++ drop at out) 1
unfolding orders_from
leaf d s row at out left e h =
    subst (λ (n : ℕ). Listed (take at row) (orders_from (query_in d) (in_mask s) n) out (take at row ++ drop at out) 1) (sym e)
    (record {
      number = refl;
      words =
          ap (λ (n : ℕ). take at row ++ drop n out) (sym (length-take-le at row (omega (arith, h.long, h.numbers))))
          ∙ ap (λ (l : List ℕ). l ++ drop (length l) out) (sym (laid_one (take at row)));
    })

leaf-fits : (d : QueryStruct) (s : ℕ) (row : List ℕ) (at : ℕ) (out : List ℕ) (left : ℕ) → left ≡ 0 → Lists d s left row at out → at ≤ length out
unfolding orders_from
leaf-fits d s row at out left e h =
    omega (
      arith,
      ap (λ (n : ℕ). length (laid (take at row) (orders_from (query_in d) (in_mask s) n))) e ∙ ap length (laid_one (take at row)),
      length-take-le at row (omega (arith, h.long, h.numbers)),
      h.room,
    )

pub copy-fits : (d : QueryStruct) (s : ℕ) (row : List ℕ) (at : ℕ) (out : List ℕ) (left : ℕ) → left ≡ 0 → Lists d s left row at out
    → (at ≤ length row) × (at ≤ length out)
copy-fits d s row at out left e h = (omega (arith, h.long, h.numbers), leaf-fits d s row at out left e h)

module _ (d : QueryStruct) (s left : ℕ) (row : List ℕ) (at : ℕ) (o₀ : List ℕ) (asks : Lists d s left row at o₀) (some : left ≡ 0 → ⊥) where
  abbrev q : Query
  q = query_in d

  abbrev S : VertexSet
  S = in_mask s

  abbrev k : ℕ
  k = left - 1

  abbrev prefix : List ℕ
  prefix = take at row

  abbrev by : ℕ → List (List ℕ)
  by = orders_by q S k

  abbrev rows : ℕ → List (List ℕ)
  rows v = flat_map by (range v)

  later : left ≡ suc k
  later = omega (arith, some)

  whole : orders_from q S left ≡ rows q.vertices
  whole = ap (orders_from q S) later ∙ orders-suc q S k

  prefix-long : length prefix ≡ at
  prefix-long = length-take-le at row (omega (arith, asks.long, asks.numbers))

  pub start : Turned d s k prefix o₀ o₀ 0 0
  unfolding flat_map range
  start =
      record {
        small = omega arith;
        kept = refl;
        listed = record { number = refl; words = put-none o₀ ∙ ap (λ (l : List ℕ). l ++ drop (length l) o₀) (sym (laid_none prefix)) };
      }

  -- The words up to v.
  words_is : (o : List ℕ) (found v : ℕ) → Turned d s k prefix o₀ o found v → length (laid prefix (rows v)) ≡ found * (at + left)
  words_is o found v t =
      laid-length prefix (suc k) (rows v) (flat-wide (suc k) by v (by_wide q S k))
      ∙ ap (λ (n : ℕ). n * (length prefix + suc k)) (sym t.listed.number)
      ∙ ap (λ (n : ℕ). found * n) (omega (arith, prefix-long, later))

  n-is : q.vertices ≡ d.vertices
  unfolding query_in
  n-is = refl

  words_fit : (v : ℕ) → v ≤ d.vertices → length (laid prefix (rows v)) ≤ length o₀
  words_fit v h =
      omega (
        arith,
        laid-mono prefix by v q.vertices (omega (arith, n-is)),
        ap (λ (l : List (List ℕ)). length (laid prefix l)) whole,
        asks.room,
      )

  module _ (o : List ℕ) (found v : ℕ) (t : Turned d s k prefix o₀ o found v) where
    pub found-fits : found * (at + left) ≤ length o
    found-fits = omega (arith, words_is o found v t, words_fit v t.small, t.kept)

    pub done : (v < d.vertices → ⊥) → Listed prefix (orders_from q S left) o₀ o found
    done end =
        subst (λ (l : List (List ℕ)). Listed prefix l o₀ o found)
        (ap rows (let e : v ≡ q.vertices = omega (arith, t.small, n-is, end) in e) ∙ sym whole) t.listed

    module _ (h : v < d.vertices) where
      pub skipped : extends q S v ≡ false → Turned d s k prefix o₀ o found (v + 1)
      skipped shut =
          rw (add-one v)
          (record {
            small = omega arith;
            kept = t.kept;
            listed = listed_same prefix by v o₀ o found (ap (λ (b : Bool). cond b (before v (orders_from q (plus v S) k)) []) shut) t.listed;
          })

      module _ (yes : extends q S v ≡ true) (m : ℕ) (ms : MaskOf m (only v)) where
        by-is : by v ≡ before v (orders_from q (in_mask (bit_or m s)) k)
        by-is =
            ap (λ (b : Bool). cond b (before v (orders_from q (plus v S) k)) []) yes
            ∙ ap (λ (T : VertexSet). before v (orders_from q T k)) (sym (plus-set v m s ms))

        laid_by : laid (take (at + 1) (set row at v)) (orders_from q (in_mask (bit_or m s)) k) ≡ laid prefix (by v)
        laid_by =
            ap (λ (p : List ℕ). laid p (orders_from q (in_mask (bit_or m s)) k))
            (ap (λ (n : ℕ). take n (set row at v)) (add-one at) ∙ take-suc-set row at v (omega (arith, asks.long, asks.numbers, some)))
            ∙ laid-before prefix v (orders_from q (in_mask (bit_or m s)) k) ∙ ap (laid prefix) (sym by-is)

        -- There is room for the orders that begin with v.
        pub next-asks : Lists d (bit_or m s) (left - 1) (set row at v) (at + 1) (take (length o - found * (at + left)) (drop (found * (at + left)) o))
        next-asks =
            record {
              held = asks.held;
              long = length-set row at v ∙ asks.long;
              numbers = omega (arith, asks.numbers, some);
              room =
                  omega (
                    arith,
                    ap length laid_by,
                    ap length (rest_at o (found * (at + left))),
                    length-drop (found * (at + left)) o,
                    words_is o found v t,
                    ap length (laid-suc prefix by v) ∙ length-append (laid prefix (rows v)) (laid prefix (by v)),
                    words_fit (suc v) h,
                    t.kept,
                  );
            }

        pub turned : (part : List ℕ) (r : ℕ)
            → Listed (take (at + 1) (set row at v)) (orders_from q (in_mask (bit_or m s)) (left - 1)) (take (length o - found * (at + left)) (drop (found * (at + left)) o)) part r
            → length (take (found * (at + left)) o ++ (part ++ drop (length o - found * (at + left)) (drop (found * (at + left)) o))) ≡ length o
            → Turned d s k prefix o₀ (take (found * (at + left)) o ++ (part ++ drop (length o - found * (at + left)) (drop (found * (at + left)) o))) (found + r) (v + 1)
        turned part r l same =
            rw (add-one v)
            (record {
              small = omega arith;
              kept = same ∙ t.kept;
              listed =
                  listed_more prefix by v o₀ o part found r (found * (at + left)) (words_is o found v t) t.listed found-fits
                  (l.number ∙ sym (length-map (orders_from q (in_mask (bit_or m s)) k) (λ (row : List ℕ). v ∷ row)) ∙ ap length (sym by-is))
                  (l.words ∙ ap (λ (w : List ℕ). w ++ drop (length w) (take (length o - found * (at + left)) (drop (found * (at + left)) o))) laid_by);
            })

        -- The number found stays below what a slice can have.
        pub found-small : (part : List ℕ) (r : ℕ)
            → Listed (take (at + 1) (set row at v)) (orders_from q (in_mask (bit_or m s)) (left - 1)) (take (length o - found * (at + left)) (drop (found * (at + left)) o)) part r
            → found + r ≤ length o
        found-small part r l =
            let wide_rows : length (laid prefix (rows (suc v))) ≡ length (rows (suc v)) * (length prefix + suc k) = laid-length prefix (suc k) (rows (suc v)) (flat-wide (suc k) by (suc v) (by_wide q S k)) in
            let count : found + r ≡ length (rows (suc v)) = number in
            let least : length (rows (suc v)) * 1 ≤ length (rows (suc v)) * (length prefix + suc k) = mul-le-mul_left (length (rows (suc v))) (omega arith) in
            omega (arith, wide_rows, count, least, words_fit (suc v) h, t.kept)
          where
            number : found + r ≡ length (rows (suc v))
            number =
                ap₂ ◌+◌ t.listed.number (l.number ∙ sym (length-map (orders_from q (in_mask (bit_or m s)) k) (λ (row : List ℕ). v ∷ row)) ∙ ap length (sym by-is))
                ∙ sym (ap length (flat_map-suc by v) ∙ length-append (rows v) (by v))
