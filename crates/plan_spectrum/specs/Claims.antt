-- What is claimed of all orderings of a query that was read. Assumes nothing.
use Rattle.std.specs.Prelude.{◌≡◌, true, List, ℕ, suc, ◌+◌, ◌*◌, ◌≤◌, length, get_or}
use Rattle.lists.specs.Lists.{bit, any, count_if, same}
use Rattle.graph.specs.Graph.{Graph}
use Rattle.query.specs.File.{query_of, query_fault}
use Rattle.run_spec.specs.Run.{plan_cost}
use Rattle.plan_order.specs.Order.{drawn_operators}
use Rattle.plan_spectrum.specs.Orders.{orderings, plan_of, accepted, drawn_ordering, in_order}
use Rattle.plan_spectrum.specs.Spectrum.{max_spectrum, cost_of, cost_words}

pub record EveryOrdering (g : Graph) (query : List ℕ) : Type 0 where
  -- 'Every accepted plan of one scan and extends, each once': any numbers stand in the list once where their
  -- plan is accepted, else never.
  pub each_once : (o : List ℕ) → count_if (same o) (orderings (query_of query))
      ≡ bit (accepted (query_of query) (plan_of o))
  -- 'Ordered by scan index and then by extended vertices in turn.'
  pub in_order : in_order (orderings (query_of query)) ≡ true
  -- At most 144 for a query of at most 5 vertices.
  pub few : (query_of query).vertices ≤ max_spectrum → length (orderings (query_of query)) ≤ 144
  -- 'Its cost with cache on, high word first.'
  pub cost_read : (o : List ℕ) → get_or (cost_words (cost_of g (query_of query) o)) 0 0 * 4294967296 + get_or
      (cost_words (cost_of g (query_of query) o)) 1 0
      ≡ plan_cost true g (query_of query) (plan_of o)
  -- The drawn plan is among them.
  pub drawn : any (same (drawn_ordering g (query_of query))) (orderings (query_of query)) ≡ true
  pub drawn-plan : plan_of (drawn_ordering g (query_of query)) ≡ drawn_operators g (query_of query)

abbrev pub EveryOrderingListed : Graph → List ℕ → Type 0
EveryOrderingListed g query = query_fault query ≡ 0 → EveryOrdering g query
