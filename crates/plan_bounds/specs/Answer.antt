-- What the operation answers, for every store, query file and plan file. Assumes nothing.
use Rattle.std.specs.Prelude.{List, [], ◌∷◌, ℕ, min}
use Rattle.lists.specs.Refusal.{first, answered}
use Rattle.graph.specs.Store.{graph_in, store_fault}
use Rattle.query.specs.File.{query_of}
use Rattle.plan.specs.File.{operators_of, check_fault}
use Rattle.run_spec.specs.Run.{max_number}
use Rattle.plan_bounds.specs.declared.BoundsAnswer.{BoundsAnswer}
use Rattle.plan_bounds.specs.Bounds.{list_bound, need_bound, costs_bound, largest_bound}

-- 'Refusals are those of the plan, then 19.'
unfoldable pub bounds_fault : List ℕ → List ℕ → List ℕ → ℕ
bounds_fault store query plan = first (check_fault query plan ∷ store_fault store ∷ [])

-- 'A bound too large for 64 bits is given as the largest.'
abbrev pub given : ℕ → ℕ
given x = min x max_number

-- 'The answer gives list words, scratch words, cost and the largest row bound'; refused, they are 0.
unfoldable pub bounds_answer : List ℕ → List ℕ → List ℕ → BoundsAnswer
bounds_answer store query plan =
    let g = graph_in store in
    let q = query_of query in
    let os = operators_of plan in
    let k = bounds_fault store query plan in
    record {
      refusal = k;
      list_words = answered k (given (list_bound g q os));
      scratch_words = answered k (given (need_bound g q os));
      cost = answered k (given (costs_bound g q os));
      largest = answered k (given (largest_bound g q os));
    }
