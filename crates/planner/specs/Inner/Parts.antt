-- What the functions that draw a plan ask and answer one by one. Assumes nothing.
use Rattle.std.specs.Prelude.{◌≡◌, cond, List, ◌++◌, ℕ, eqb, ltb, length, drop}
use Rattle.lists.specs.Refusal.{refuse, answered}
use Rattle.graph.specs.Graph.{Graph}
use Rattle.query.specs.Query.{Query}
use Rattle.planner.specs.Draw.{drawn_plan}
use Rattle.planner.specs.declared.DrawAnswer.{DrawAnswer}

-- What is answered and left for a graph and a query that were accepted.
pub record Drawn (g : Graph) (q : Query) (before after : List ℕ) (r : DrawAnswer) : Type 0 where
  pub refusal : r.refusal ≡ refuse 24 (ltb (length before) (length (drawn_plan g q)))
  pub bytes : r.bytes ≡ answered r.refusal (length (drawn_plan g q))
  pub left : after ≡ cond (eqb r.refusal 0) (drawn_plan g q ++ drop (length (drawn_plan g q)) before) before
