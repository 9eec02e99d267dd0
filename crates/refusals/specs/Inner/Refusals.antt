-- The refusals' numbers: 'each fault gets its one refusal number'. Assumes nothing.
use Rattle.std.specs.Prelude.{ℕ, Result, Ok, Err}
use Rattle.refusals.specs.declared.Refusal.{Refusal}
use Rattle.refusals.specs.declared.Refusal.TheVariants.{GraphShort, GraphLong, GraphEdge, GraphOrder, StoreSmall, QueryShort, QueryLong, QueryLimits, QueryEdge, QueryOrder, QueryApart, PlanShort, PlanLong, PlanOperator, PlanPile, PlanExtend, PlanJoin, PlanUncovered, StoreDamaged, ScratchSmall, ListSmall, RecordsShort, PlanBytes, QueryDays, QueryPair, ChangesFile, ChangesEdge, ChangesMany, RunNumbers, OrderingsLarge, OrderingsWords, SheetRows, SheetPage, SheetBytes}

abbrev pub number : Refusal → ℕ
number GraphShort = 1
number GraphLong = 2
number GraphEdge = 3
number GraphOrder = 4
number StoreSmall = 5
number QueryShort = 6
number QueryLong = 7
number QueryLimits = 8
number QueryEdge = 9
number QueryOrder = 10
number QueryApart = 11
number PlanShort = 12
number PlanLong = 13
number PlanOperator = 14
number PlanPile = 15
number PlanExtend = 16
number PlanJoin = 17
number PlanUncovered = 18
number StoreDamaged = 19
number ScratchSmall = 20
number ListSmall = 21
number RecordsShort = 22
number PlanBytes = 24
number QueryDays = 25
number QueryPair = 26
number ChangesFile = 27
number ChangesEdge = 28
number ChangesMany = 29
number RunNumbers = 30
number OrderingsLarge = 31
number OrderingsWords = 32
number SheetRows = 33
number SheetPage = 34
number SheetBytes = 35

-- The fault that an outcome stands for, 0 for none.
abbrev pub fault_of : Result Unit Refusal → ℕ
fault_of (Ok _) = 0
fault_of (Err refusal) = number refusal
