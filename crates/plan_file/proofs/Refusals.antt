-- Laws of refusals in order, for code that tests one condition after the other. Assumes nothing.
use mathlib.Core.Path.{◌≡◌}
use mathlib.Core.Bool.{Bool, true, false}
use mathlib.Core.List.{List, ◌∷◌}
use Prim.Native.Nat.{ℕ, suc}
use lib.Dec.{eqb-suc-zero}
use Rattle.lists.specs.Refusal.{refuse, first}

-- A condition that holds is the refusal.
pub stops : (k : ℕ) (b : Bool) (ks : List ℕ) → b ≡ true → first (refuse (suc k) b ∷ ks) ≡ suc k
unfolding first
stops k b ks e = rw (e, eqb-suc-zero k)

-- One that does not hold is passed over.
pub passes : (k : ℕ) (b : Bool) (ks : List ℕ) → b ≡ false → first (refuse k b ∷ ks) ≡ first ks
unfolding first
passes k b ks e = rw e
