-- Laws of the loop that writes the extends in turn. Assumes nothing.
use mathlib.Core.Path.{◌≡◌, sym, ◌∙◌, ap}
use mathlib.Core.List.{List, ◌∷◌, ◌++◌, flat_map, append_assoc, append-nil}
use Prim.Native.Nat.{ℕ, suc, ◌+◌, ◌-◌, ◌*◌, ◌%◌, ◌≤◌, ◌<◌}
use native.Mathlib.Nat.{sub-zero}
use native.Mathlib.Numerals.{add-one}
use native.Mathlib.Omega.{arith}
use lib.Bits.{bit_or}
use lib.ListN.{length, get_or, take, drop}
use lib.Seq.{drop-cons, take-suc, take_all, length-take-le}
use Rattle.lists.proofs.Maps.{flat_map-snoc}
use Rattle.packed.specs.Field.{bytes_for}
use Rattle.packed.specs.Encode.{bits_of, bytes_of}
use Rattle.packed.specs.Inner.Put.{put_field, written}
use Rattle.packed.proofs.RoundTrip.{length-records}
use Rattle.packed.proofs.Written.{written-more, written_all}
use Rattle.query.specs.Query.{Query, VertexSet}
use Rattle.query.specs.Inner.Mask.{in_mask, MaskOf, only}
use Rattle.plan.specs.Plan.{plus}
use Rattle.plan.proofs.Sets.{plus-set}
use Rattle.plan_order.specs.Order.{next_vertex, extends_from}
use Rattle.planner.specs.Draw.{extend_bits, plan_bits}
use Rattle.planner.proofs.Ordering.{length-extends}
use Rattle.planner.proofs.Packing.{length-extend_bits, length-plan_bits}

-- After i of n extends from S, a mask's vertices are covered: those that are left are drawn from it.
pub record Turned (q : Query) (S : VertexSet) (n i covered : ℕ) : Type 0 where
  pub rest : drop i (extends_from q S n) ≡ extends_from q (in_mask covered) (n - i)

module _ (q : Query) (n : ℕ) where
  pub turned_none : (covered : ℕ) → Turned q (in_mask covered) n 0 covered
  turned_none covered = record { rest = rw (sub-zero n) }

  module _ (S : VertexSet) (i covered v : ℕ) (t : Turned q S n i covered) (h : i < n) (next : v ≡ next_vertex q (in_mask covered)) where
    both : get_or (extends_from q S n) i 0 ∷ drop (suc i) (extends_from q S n)
        ≡ next_vertex q (in_mask covered) ∷ extends_from q (plus (next_vertex q (in_mask covered)) (in_mask covered)) (n - suc i)
    unfolding extends_from
    both =
        sym (drop-cons (extends_from q S n) i 0 (rw (length-extends q S n) h)) ∙ t.rest
        ∙ ap (extends_from q (in_mask covered)) (let later : n - i ≡ suc (n - suc i) = omega arith in later)

    -- The next one is the order's.
    pub turned-next : get_or (extends_from q S n) i 0 ≡ v
    turned-next = let b = both in cc

    pub turned_more : (m : ℕ) → MaskOf m (only v) → Turned q S n (i + 1) (bit_or m covered)
    turned_more m ms = record { rest = rw (add-one i, plus-set v m covered ms, next) (let b = both in cc) }

-- ---- their bits

-- The bits of the first i vertices.
abbrev pub bits_to : List ℕ → ℕ → List ℕ
bits_to vs i = flat_map extend_bits (take i vs)

pub length-bits_to : (vs : List ℕ) (i : ℕ) → i ≤ length vs → length (bits_to vs i) ≡ 5 * i
length-bits_to vs i h = length-records extend_bits 5 length-extend_bits (take i vs) ∙ ap (λ (k : ℕ). 5 * k) (length-take-le i vs h)

pub bits_to-none : (bits vs : List ℕ) → bits ++ bits_to vs 0 ≡ bits
unfolding flat_map
bits_to-none bits vs = append-nil bits

pub bits_to-more : (bits vs : List ℕ) (i v : ℕ) → i < length vs → get_or vs i 0 ≡ v → bits ++ bits_to vs i ++ extend_bits v ≡ bits ++ bits_to vs (i + 1)
bits_to-more bits vs i v h e =
    append_assoc bits (bits_to vs i) (extend_bits v)
    ∙ ap (λ (l : List ℕ). bits ++ l) (rw (add-one i, take-suc vs i 0 h, e) (sym (flat_map-snoc extend_bits (take i vs) v)))

pub bits_to-all : (vs : List ℕ) (i : ℕ) → length vs ≤ i → bits_to vs i ≡ flat_map extend_bits vs
bits_to-all vs i h = ap (flat_map extend_bits) (take_all i vs h)

-- The whole plan: with the zero bits that fill the last byte it is the file's bytes.
pub plan-written : (old s : List ℕ) (edge bits : ℕ) (vs : List ℕ) → ((j : ℕ) → get_or old j 0 < 256) → s ≡ written old (plan_bits edge vs)
    → bits ≡ 12 + 5 * length vs → bytes_for (12 + 5 * length vs) ≤ length old
    → put_field s bits ((8 - bits % 8) % 8) 0 ≡ bytes_of (plan_bits edge vs) ++ drop (bytes_for (12 + 5 * length vs)) old
plan-written old s edge bits vs bytes e size room =
    let long : length (plan_bits edge vs) ≡ bits = length-plan_bits edge vs ∙ sym size in
    let fill : (8 - bits % 8) % 8 ≡ 8 * bytes_for (length (plan_bits edge vs)) - length (plan_bits edge vs) = rw long (omega arith) in
    written-more old (plan_bits edge vs) ((8 - bits % 8) % 8) 0 (omega arith) s bits e (sym long)
    ∙ ap (λ (w : ℕ). written old (plan_bits edge vs ++ bits_of w 0)) fill
    ∙ written_all old (plan_bits edge vs) bytes (rw (length-plan_bits edge vs) room)
    ∙ ap (λ (n : ℕ). bytes_of (plan_bits edge vs) ++ drop (bytes_for n) old) (length-plan_bits edge vs)
