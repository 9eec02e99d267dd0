-- Laws of the refusals' numbers. Assumes nothing.
use mathlib.Core.Path.{sym, ◌∙◌}
use Rattle.std.specs.Prelude.{◌≡◌, ℕ, Result, Err}
use native.Mathlib.Omega.{arith}
use Rattle.refusals.specs.declared.Refusal.{Refusal}
use Rattle.refusals.specs.declared.Refusal.TheVariants.{GraphShort, GraphLong, GraphEdge, GraphOrder, StoreSmall, QueryShort, QueryLong, QueryLimits, QueryEdge, QueryOrder, QueryApart, PlanShort, PlanLong, PlanOperator, PlanPile, PlanExtend, PlanJoin, PlanUncovered, StoreDamaged, ScratchSmall, ListSmall, RecordsShort, PlanBytes, QueryDays, QueryPair, ChangesFile, ChangesEdge, ChangesMany, RunNumbers, OrderingsLarge, OrderingsWords, SheetRows, SheetPage, SheetBytes}
use Rattle.refusals.specs.Inner.Refusals.{number, fault_of}

-- 0 is the number of no refusal.
pub numbered : (refusal : Refusal) → number refusal ≡ 0 → ⊥
numbered GraphShort e = absurd (omega arith)
numbered GraphLong e = absurd (omega arith)
numbered GraphEdge e = absurd (omega arith)
numbered GraphOrder e = absurd (omega arith)
numbered StoreSmall e = absurd (omega arith)
numbered QueryShort e = absurd (omega arith)
numbered QueryLong e = absurd (omega arith)
numbered QueryLimits e = absurd (omega arith)
numbered QueryEdge e = absurd (omega arith)
numbered QueryOrder e = absurd (omega arith)
numbered QueryApart e = absurd (omega arith)
numbered PlanShort e = absurd (omega arith)
numbered PlanLong e = absurd (omega arith)
numbered PlanOperator e = absurd (omega arith)
numbered PlanPile e = absurd (omega arith)
numbered PlanExtend e = absurd (omega arith)
numbered PlanJoin e = absurd (omega arith)
numbered PlanUncovered e = absurd (omega arith)
numbered StoreDamaged e = absurd (omega arith)
numbered ScratchSmall e = absurd (omega arith)
numbered ListSmall e = absurd (omega arith)
numbered RecordsShort e = absurd (omega arith)
numbered PlanBytes e = absurd (omega arith)
numbered QueryDays e = absurd (omega arith)
numbered QueryPair e = absurd (omega arith)
numbered ChangesFile e = absurd (omega arith)
numbered ChangesEdge e = absurd (omega arith)
numbered ChangesMany e = absurd (omega arith)
numbered RunNumbers e = absurd (omega arith)
numbered OrderingsLarge e = absurd (omega arith)
numbered OrderingsWords e = absurd (omega arith)
numbered SheetRows e = absurd (omega arith)
numbered SheetPage e = absurd (omega arith)
numbered SheetBytes e = absurd (omega arith)

-- Nor is what answers its number.
pub numbered_as : {n : ℕ} (refusal : Refusal) → n ≡ number refusal → n ≡ 0 → ⊥
numbered_as refusal is e = numbered refusal (sym is ∙ e)

-- What a refused step answers is a fault.
pub refused : (outcome : Result Unit Refusal) (refusal : Refusal) → outcome ≡ Err refusal → fault_of outcome ≡ 0 → ⊥
refused outcome refusal is e = numbered refusal (rw is at e)
