-- Laws of the answers of a walk as numbers. Assumes nothing.
use mathlib.Core.Path.{◌≡◌, sym, ap}
use mathlib.Core.Bool.{Bool, true, false}
use native.Mathlib.Omega.{arith}
use Rattle.store_reverse.specs.Inner.Check.{unless}
use Rattle.store_step.specs.declared.Stop.{Stop}
use Rattle.store_step.specs.declared.Stop.TheVariants.{Disagree, Undecided}
use Rattle.store_step.specs.Inner.Stops.{number}

-- A walk that stops has not gone on to its end.
pub stopped : (stop : Stop) → number stop ≡ 0 → ⊥
stopped Disagree e = absurd (omega arith)
stopped Undecided e = absurd (omega arith)

-- The numbers of a test's answers.
pub refused : {b : Bool} → b ≡ false → 19 ≡ unless b
refused e = ap unless (sym e)

pub passes : {b : Bool} → b ≡ true → 0 ≡ unless b
passes e = ap unless (sym e)
