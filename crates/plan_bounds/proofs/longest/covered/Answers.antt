-- `plan_bounds::longest::covered` meets its contract: the loop's invariant: those of the entries before the index are counted. Assumes nothing.
use mathlib.Core.Path.{◌≡◌, refl, sym, ap, ap₂, ◌∙◌}
use mathlib.Core.List.{List}
use Prim.Native.Nat.{ℕ, ◌+◌, ◌/◌, ◌<◌}
use native.Mathlib.Omega.{arith}
use native.Mathlib.Numerals.{add-one}
use lib.Dec.{eqb}
use lib.ListN.{length, get_or, take}
use lib.Seq.{take-suc, take_all}
use borrow.Author.Tests.{ne_eqb}
use Rattle.lists.specs.Lists.{bit, count_if}
use Rattle.lists.proofs.Count.{count-snoc, length-keep}
use Rattle.graph.specs.Graph.{covers}
use Rattle.adjacency.proofs.Between.{any-covered}
use Rattle.plan_bounds.proofs.Seeing.{byte-bit, byte_le}
use Rattle.plan_bounds.proofs.longest.covered.Invariants.{counted}
use Rattle.plan_bounds.proofs.longest.covered.Goals as goal

next : (l : ℕ) (s : List ℕ) (i : ℕ) → i < length s → counted l s (i + 1) ≡ counted l s i + bit (covers l (get_or s i 0 / 65536))
next l s i h = ap (counted l s) (add-one i) ∙ (ap (count_if (λ (k : ℕ). covers l (k / 65536))) (take-suc s i 0 h) ∙ count-snoc (λ (k : ℕ). covers l (k / 65536)) (take i s) (get_or s i 0))

by-label : (l k : ℕ) → (l ≡ 0 → ⊥) → bit (covers l (k / 65536)) ≡ bit (eqb (k / 65536) l)
unfolding covers
by-label l k some = rw (ne_eqb l 0 some) refl

pub returns-then-label-eq0 : goal.returns-then-label-eq0
returns-then-label-eq0 c = rw c.if-label-eq0.true (ap length (any-covered c.args.list.now) ∙ length-keep (λ (k : ℕ). covers 0 (k / 65536)) c.args.list.now)

pub loop-entry-init : goal.loop-entry-init
unfolding count_if
loop-entry-init c = (omega arith, omega arith, refl)

pub overflow_add-count : goal.overflow_add-count
overflow_add-count c = let l = c.loop-entry in
    omega (arith, l.invariant.1, l.invariant.0, byte_le (eqb (get_or c.args.list.now l.entry-index 0 / 65536) c.args.label))

pub loop-entry-preserved : goal.loop-entry-preserved
loop-entry-preserved c = let a = c.args in
    let l = c.loop-entry in
    let t = eqb (get_or a.list.now l.entry-index 0 / 65536) a.label in (
      omega arith,
      omega (arith, l.invariant.1, byte_le t),
      ap₂ (λ (m n : ℕ). m + n) l.invariant.2 (byte-bit t ∙ sym (by-label a.label (get_or a.list.now l.entry-index 0) c.if-label-eq0.false))
          ∙ sym (next a.label a.list.now l.entry-index (omega arith)),
    )

pub returns : goal.returns
returns c = let a = c.args in
    c.loop-entry.invariant.2 ∙ ap (count_if (λ (k : ℕ). covers a.label (k / 65536))) (take_all c.loop-entry.entry-index a.list.now (omega arith))
