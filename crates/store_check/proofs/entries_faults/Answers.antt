-- `store_check::entries_faults` meets its contract: the sum is that of the entries before i. Assumes nothing.
use mathlib.Core.Path.{refl, sym, ◌∙◌, ap, ap₂}
use Prim.Native.Nat.{ℕ, ◌+◌}
use native.Mathlib.Omega.{arith}
use lib.Seq.{take_all}
use Rattle.lists.specs.Lists.{total}
use Rattle.store_check.specs.Inner.Order.{faults_of}
use Rattle.store_check.proofs.Order.{total-next}
use Rattle.store_check.proofs.entries_faults.Goals as goal

pub loop-entry-init : goal.loop-entry-init
unfolding total
loop-entry-init c = (omega arith, omega arith, refl)

pub loop-entry-preserved : goal.loop-entry-preserved
loop-entry-preserved c = let a = c.args in (
  omega arith,
  omega arith,
  ap₂ (λ (s r : ℕ). s + r) c.loop-entry.invariant.2 c.entry_faults-sum.ensures.0 ∙ sym (total-next (faults_of a.n) a.part.now c.loop-entry.entry-index (omega arith)),
)

pub returns : goal.returns
returns c = let a = c.args in
    c.loop-entry.invariant.2 ∙ ap (total (faults_of a.n)) (take_all c.loop-entry.entry-index a.part.now (omega arith))
