-- All orderings of a query are refused and priced the same over two graphs with the same named edges. Assumes nothing.
use mathlib.Core.Path.{◌≡◌, ap, ap₂, fun_ext}
use mathlib.Core.Bool.{Bool, true, false}
use mathlib.Core.List.{List, [], ◌∷◌, ◌++◌, flat_map}
use Prim.Native.Nat.{ℕ}
use lib.Dec.{ltb}
use Rattle.lists.specs.Refusal.{refuse, first}
use Rattle.graph.specs.Graph.{Graph}
use Rattle.query.specs.Query.{Query}
use Rattle.run_spec.specs.Run.{counted}
use Rattle.plan_spectrum.specs.Orders.{orderings, plan_of}
use Rattle.plan_spectrum.specs.Spectrum.{cost_words, entries, limit_fault}
use Rattle.isolation.specs.Others.{names}
use Rattle.isolation.proofs.Own.{own}
use Rattle.isolation.proofs.Plans.{SamePlan, same-plan}

module _ (q : Query) (g h : Graph) (none_any : names q 0 ≡ false) (one : own q g ≡ own q h) where
  -- An ordering's plan, run with the cache on.
  alike : (o : List ℕ) → SamePlan q g h true (plan_of o)
  alike o = same-plan q g h none_any one true (plan_of o)

  pub same-limit : (scratch : ℕ) → limit_fault g q scratch ≡ limit_fault h q scratch
  same-limit scratch =
      fun_ext
      (λ (o : List ℕ).
      ap₂ (λ (need : ℕ) (passes : Bool). first (refuse 20 (ltb (counted scratch) need) ∷ refuse 30 passes ∷ [])) (alike o).need (alike o).passes)

  pub same_entries : entries g q ≡ entries h q
  unfolding entries
  same_entries =
      ap (λ (f : List ℕ → List ℕ). flat_map f (orderings q)) (fun_ext (λ (o : List ℕ). ap (λ (cost : ℕ). o ++ cost_words cost) (alike o).cost))
