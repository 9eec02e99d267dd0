-- A query of a file that was read, and the parts of an answer over an accepted store put together. Assumes nothing.
use mathlib.Core.Path.{◌≡◌, refl, sym, ◌∙◌, ap, ap₂}
use mathlib.Core.List.{List}
use Prim.Native.Nat.{ℕ, suc, ◌+◌, ◌-◌, ◌*◌, ◌≤◌}
use native.Mathlib.Nat.{mul-le-mul_right}
use native.Mathlib.Numerals.{add-one}
use native.Mathlib.Omega.{arith}
use lib.ListN.{length, take}
use Rattle.graph.specs.Store.{graph_in}
use Rattle.query.specs.Answer.{struct_of}
use Rattle.query.specs.File.{query_of, query_fault}
use Rattle.query.specs.Inner.Struct.{query_in}
use Rattle.query.specs.declared.Query.{Query as QueryStruct}
use Rattle.query_file.proofs.FileLaws.{query_held}
use Rattle.query_file.proofs.Structs.{file-struct, file-labels}
use Rattle.run_spec.proofs.Accepted.{edges_proper}
use Rattle.planner.proofs.Drawing.{read-sized}
use Rattle.plan_spectrum.specs.Orders.{orderings}
use Rattle.plan_spectrum.specs.Spectrum.{max_spectrum, entries}
use Rattle.plan_spectrum.specs.Inner.Parts.{entries_in, Small, Lie, AllRun}
use Rattle.plan_spectrum.proofs.Pricing.{row_is}
use Rattle.plan_spectrum.proofs.Entering.{entries-are}

pub read_small : (query : List ℕ) → query_fault query ≡ 0 → (query_of query).vertices ≤ max_spectrum → Small (struct_of (query_of query))
unfolding struct_of
read_small query e few =
    record {
      held = query_held query e;
      proper = rw (file-struct query) (edges_proper query e);
      labels = rw (file-struct query) (file-labels query);
      at-least = (read-sized query e).at-least;
      at_most = few;
    }

-- The words of all entries, as the code counts them.
pub entries-room : (d : QueryStruct) (plans : ℕ) → plans ≡ length (orderings (query_in d)) → plans * (d.vertices + 1) ≡ length (orderings (query_in d)) * suc (query_in d).vertices
unfolding query_in
entries-room d plans number = ap₂ ◌*◌ number (add-one d.vertices)

pub room_small : (d : QueryStruct) (plans : ℕ) → plans ≤ 144 → d.vertices ≤ max_spectrum → plans * (d.vertices + 1) ≤ 864
room_small d plans few small =
    let m : plans * (d.vertices + 1) ≤ 144 * (d.vertices + 1) = mul-le-mul_right (d.vertices + 1) few in omega (arith, m, small)

-- The entries that are written are the definition's.
pub entries-written : (store : List ℕ) (d : QueryStruct) (list : List ℕ) (plans : ℕ) (work costs₀ : List ℕ) → Lie store d list plans work costs₀ → (costs : List ℕ) (r : ℕ)
    → AllRun (graph_in store) (query_in d) (length work) costs r → r ≡ 0 → entries_in (d.vertices - 1) plans list costs ≡ entries (graph_in store) (query_in d)
entries-written store d list plans work costs₀ lie costs r run fine =
    entries-are (graph_in store) (query_in d) list costs (d.vertices - 1) plans lie.number (row_is store d list plans work costs₀ lie)
    (ap (λ (n : ℕ). take n costs) lie.number ∙ run.costs fine)
