-- The bounds worked by hand: list words, scratch words, cost and the largest row bound, as one table. Assumes
-- nothing.
use Rattle.std.specs.Prelude.{Bool, List, [], ◌∷◌, ℕ, replicate}
use Rattle.lists.specs.Lists.{same}
use Rattle.graph.specs.Store.{load_store}
use Rattle.plan_bounds.specs.declared.BoundsAnswer.{BoundsAnswer}
use Rattle.plan_bounds.specs.Answer.{bounds_answer}
use Rattle.cases.specs.Cases.{file_g, file_k, file_none, file_star3, file_q, file_x, file_star, plan_p}
use Rattle.cases.specs.Cases.{plan_extends, plan_join, plan_square}

-- A graph loaded to a store of so many words, a query and a plan, and what is answered: refusal, list words,
-- scratch words, cost, largest.
pub record Bounded : Type 0 where
  pub graph : List ℕ
  pub room : ℕ
  pub query : List ℕ
  pub plan : List ℕ
  pub answer : List ℕ

abbrev pub bounds_in : BoundsAnswer → List ℕ
bounds_in a = a.refusal ∷ a.list_words ∷ a.scratch_words ∷ a.cost ∷ a.largest ∷ []

unfoldable pub bounded : Bounded → Bool
bounded c = same (bounds_in (bounds_answer (load_store c.graph (replicate c.room 0)) c.query c.plan))
    c.answer

abbrev case : List ℕ → ℕ → List ℕ → List ℕ → List ℕ → Bounded
case graph room query plan answer = record {
  graph = graph;
  room = room;
  query = query;
  plan = plan;
  answer = answer;
}

unfoldable pub worked : List Bounded
worked =
    -- G, Q, P; G, X by extends; G, X by the join; K, X by extends; N 0, Q, P
    case file_g 30 file_q plan_p (0 ∷ 30 ∷ 7 ∷ 20 ∷ 10 ∷ [])
    ∷ case file_g 30 file_x plan_extends (0 ∷ 80 ∷ 13 ∷ 60 ∷ 20 ∷ [])
    ∷ case file_g 30 file_x plan_join (0 ∷ 400 ∷ 67 ∷ 40 ∷ 100 ∷ [])
    ∷ case file_k 38 file_x plan_extends (0 ∷ 168 ∷ 14 ∷ 126 ∷ 42 ∷ [])
    ∷ case file_none 4 file_q plan_p (0 ∷ 0 ∷ 5 ∷ 0 ∷ 0 ∷ [])
    -- The star over the star: from the covered vertex 0 the longest portion is 3, from the new vertex it
    -- would be 1
    ∷ case file_star3 26 file_star plan_square (0 ∷ 108 ∷ 15 ∷ 36 ∷ 27 ∷ [])
    -- P cut to two bytes; a store of three words, which holds no graph
    ∷ case file_g 30 file_q (0x10 ∷ 0x05 ∷ []) (12 ∷ 0 ∷ 0 ∷ 0 ∷ 0 ∷ [])
    ∷ case file_g 3 file_q plan_p (19 ∷ 0 ∷ 0 ∷ 0 ∷ 0 ∷ [])
    ∷ []
