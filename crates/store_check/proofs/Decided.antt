-- The tests of the store check, taken together, are refusal 19. Assumes nothing.
use mathlib.Core.Path.{◌≡◌, refl, sym, ◌∙◌, ap, ap₂}
use mathlib.Core.Bool.{Bool, true, false, ◌&&◌}
use mathlib.Core.List.{List}
use Prim.Native.Nat.{ℕ, suc, ◌+◌, ◌-◌, ◌<◌}
use native.Mathlib.Omega.{arith}
use lib.Dec.{ltb}
use lib.ListN.{take, drop}
use Rattle.lists.specs.Lists.{all, same}
use Rattle.lists.proofs.Tests.{and_l, and_r, and_both}
use Rattle.graph.specs.Graph.{Direction, forward, backward}
use Rattle.graph.specs.Store.{graph_in, store_of, store_size, well_formed, store_fault}
use Rattle.adjacency.specs.Inner.Side.{Within, vertices_in, edges_in, side_in}
use Rattle.store_reverse.specs.Inner.Check.{unless, counts_fit, labels_fit, days_fit, offsets_fit, offsets_on, side_fits, side_good, GoodSide, side_reversed, Counted}
use Rattle.store_check.proofs.Counting.{counted-as, counted-few, counted-edges, forward-room, backward-room}
use Rattle.store_reverse.proofs.Loops.{fails-with}
use Rattle.store_reverse.proofs.Offsets.{offsets-rising, offsets-within}
use Rattle.store_step.specs.Inner.Walk.{sides_agree, Decides, BothRise}
use Rattle.store_step.proofs.Agreeing.{agree, agreed}
use Rattle.store_check.proofs.Spelt.{Passed, passed-accepted}
use Rattle.store_check.proofs.Tested.{accepted-passed}

-- ---- a side

-- The part of a store that holds a side's offsets.
pub offsets-part : (store : List ℕ) (n m side : ℕ)
    → offsets_fit m (take (side + n + 1 - side) (drop side store)) ≡ offsets_fit m (offsets_on store n side)
offsets-part store n m side =
    ap (λ (k : ℕ). offsets_fit m (take k (drop side store))) (let i : side + n + 1 - side ≡ suc n = omega arith in i)

-- ---- the labels and the days

-- The parts of a store that hold them.
module _ (store : List ℕ) {n days : ℕ} (named : n ≡ vertices_in store) (at : days ≡ 2 + n) where
  pub labels-part : all (λ (l : ℕ). ltb l 65536) (take (days - 2) (drop 2 store)) ≡ labels_fit store
  unfolding labels_fit
  labels-part =
      ap (λ (k : ℕ). all (λ (l : ℕ). ltb l 65536) (take k (drop 2 store))) (let e : days - 2 ≡ vertices_in store = omega arith in e)

  pub days-part : all (λ (t : ℕ). ltb t 65536) (take (days + n - days) (drop days store)) ≡ days_fit store
  unfolding days_fit
  days-part =
      ap₂ (λ (k d : ℕ). all (λ (t : ℕ). ltb t 65536) (take k (drop d store)))
      (let e : days + n - days ≡ vertices_in store = omega arith in e) (at ∙ ap (λ (k : ℕ). 2 + k) named)

-- ---- two tests

pub goes-on : (a b : Bool) {r s : Bool} → r ≡ a → r ≡ true → s ≡ b → s ≡ (a && b)
goes-on a b e z f = f ∙ ap (λ (t : Bool). t && b) (sym (sym e ∙ z))

pub stops-at : (a b : Bool) {r : Bool} → r ≡ a → r ≡ false → false ≡ (a && b)
stops-at a b e z = ap (λ (t : Bool). t && b) (sym (sym e ∙ z))

-- ---- the whole

-- The tests that follow those of the counts, the labels and the days, by the counts and by where the sides begin.
record PassedAt (store : List ℕ) (n m one two : ℕ) : Type 0 where
  there : side_good store n m one ≡ true
  back : side_good store n m two ≡ true
  reversed : side_reversed store n one two ≡ true

-- The tests of both directions.
module _ {store : List ℕ} (k : counts_fit store ≡ true) (f : (labels_fit store && days_fit store) ≡ true)
    (p : PassedAt store (vertices_in store) (edges_in store) (side_in forward store) (side_in backward store)) where
  sides : (d : Direction) → side_good store (vertices_in store) (edges_in store) (side_in d store) ≡ true
  sides forward = p.there
  sides backward = p.back

  all-passed : Passed store
  all-passed =
      record {
        counts = k;
        labels = and_l (labels_fit store) (days_fit store) f;
        days = and_r (labels_fit store) (days_fit store) f;
        sides = sides;
        reverses = p.reversed;
      }

module _ {store : List ℕ} {n m one two : ℕ} (k : Counted store n m one two) where
  passed-at : Passed store → PassedAt store n m one two
  passed-at p =
      counted-as k (PassedAt store)
      (record {
        there = p.sides forward;
        back = p.sides backward;
        reversed = p.reverses;
      })

  at-passed : (labels_fit store && days_fit store) ≡ true → PassedAt store n m one two → Passed store
  at-passed f = counted-as k (λ (a b c d : ℕ). PassedAt store a b c d → Passed store) (all-passed k.counts f)

-- A test that fails though every accepted store passes it refuses the store.
refuses : (store : List ℕ) (b : Bool) {r : Bool} → r ≡ b → r ≡ false → (Passed store → b ≡ true) → 19 ≡ store_fault store
unfolding store_fault
refuses store b e h f =
    ap unless
    (fails-with b (well_formed (graph_in store) && same (take (store_size (graph_in store)) store) (store_of (graph_in store))) e h
    (λ t. f (accepted-passed store (ap unless t))))

-- The answer to the last test is the refusal.
decides : (store : List ℕ) (b : Bool) {r : ℕ} → r ≡ unless b → (Passed store → b ≡ true) → (b ≡ true → Passed store) → r ≡ store_fault store
decides store true e f g = e ∙ sym (passed-accepted store (g refl))
decides store false e f g = e ∙ refuses store false refl refl f

pub counts-refuse : (store : List ℕ) {r : Bool} → r ≡ counts_fit store → r ≡ false → 19 ≡ store_fault store
counts-refuse store e h = refuses store (counts_fit store) e h (λ p. p.counts)

pub vertices-refuse : (store : List ℕ) {r : Bool} → r ≡ (labels_fit store && days_fit store) → r ≡ false → 19 ≡ store_fault store
vertices-refuse store e h =
    refuses store (labels_fit store && days_fit store) e h (λ p. and_both (labels_fit store) (days_fit store) p.labels p.days)

-- The tests in turn: one that fails refuses the store.
module _ {store : List ℕ} {n m one two : ℕ} (k : Counted store n m one two) {r : Bool} where
  pub ahead-refuses : r ≡ offsets_fit m (offsets_on store n one) → r ≡ false → 19 ≡ store_fault store
  ahead-refuses e h =
      refuses store (offsets_fit m (offsets_on store n one)) e h
      (λ p. and_l (offsets_fit m (offsets_on store n one)) (side_fits store n one) (passed-at k p).there)

  pub back-refuses : r ≡ offsets_fit m (offsets_on store n two) → r ≡ false → 19 ≡ store_fault store
  back-refuses e h =
      refuses store (offsets_fit m (offsets_on store n two)) e h
      (λ p. and_l (offsets_fit m (offsets_on store n two)) (side_fits store n two) (passed-at k p).back)

  pub lists-refuse : r ≡ side_fits store n two → r ≡ false → 19 ≡ store_fault store
  lists-refuse e h =
      refuses store (side_fits store n two) e h
      (λ p. and_r (offsets_fit m (offsets_on store n two)) (side_fits store n two) (passed-at k p).back)

-- Both sides have offsets that fit.
module _ {store : List ℕ} {n m one two : ℕ} (k : Counted store n m one two) (described : (labels_fit store && days_fit store) ≡ true)
    (ahead : offsets_fit m (offsets_on store n one) ≡ true) (back : offsets_fit m (offsets_on store n two) ≡ true) where
  passed-sides : side_fits store n one ≡ true → side_reversed store n one two ≡ true → side_fits store n two ≡ true → Passed store
  passed-sides f m g =
      at-passed k described
      (record {
        there = and_both (offsets_fit _ (offsets_on store n one)) (side_fits store n one) ahead f;
        back = and_both (offsets_fit _ (offsets_on store n two)) (side_fits store n two) back g;
        reversed = m;
      })

  its-lists : Passed store → side_fits store n one ≡ true
  its-lists p = and_r (offsets_fit m (offsets_on store n one)) (side_fits store n one) (passed-at k p).there

  its-others : Passed store → side_fits store n two ≡ true
  its-others p = and_r (offsets_fit m (offsets_on store n two)) (side_fits store n two) (passed-at k p).back

  -- The walk decides, unless it is undecided.
  pub walk-decides : {r : ℕ} → Decides r (sides_agree store n one two) → (r ≡ 1 → ⊥) → r ≡ store_fault store
  walk-decides d h =
      decides store (sides_agree store n one two) (d h)
      (λ p. agree store n one two (its-lists p) (passed-at k p).reversed (its-others p))
      (λ t. let a = agreed store n one two t in passed-sides a.0 a.1 a.2)

  -- After the lists of the second side the reverses decide.
  pub reverses-decide : {r : Bool} → r ≡ (side_fits store n one && side_reversed store n one two) → side_fits store n two ≡ true
      → unless r ≡ store_fault store
  reverses-decide e g =
      decides store (side_fits store n one && side_reversed store n one two) (ap unless e)
      (λ p. and_both (side_fits store n one) (side_reversed store n one two) (its-lists p) (passed-at k p).reversed)
      (λ t.
      passed-sides (and_l (side_fits store n one) (side_reversed store n one two) t) (and_r (side_fits store n one) (side_reversed store n one two) t) g)

  -- What the walk needs of the sides, and what the reverses need.
  pub both-rise : BothRise store n m one two
  both-rise =
      record {
        room = forward-room k;
        other_room = backward-room k;
        rises = ahead;
        other_rises = back;
        few = omega (arith, counted-few k);
        countable = omega (arith, counted-edges k);
      }

  pub lists-within : (v : ℕ) → v < n → Within store n one v
  lists-within = offsets-within store n m one (forward-room k) (offsets-rising store n m one (forward-room k) ahead)

  pub back-good : side_fits store n two ≡ true → GoodSide store n two
  back-good g =
      record {
        within = offsets-within store n m two (backward-room k) (offsets-rising store n m two (backward-room k) back);
        fits = g;
      }
