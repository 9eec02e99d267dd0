-- What it means for a set of a query's vertices that the query is connected. Assumes nothing.
use Rattle.std.specs.Prelude.{◌≡◌, true, false, ℕ, ◌<◌}
use Rattle.query.specs.Query.{Query, VertexSet, touches, connected}

-- A vertex of the query outside S that a query edge joins to S.
pub record Beside (q : Query) (S : VertexSet) : Type 0 where
  pub vertex : ℕ
  pub below : vertex < q.vertices
  pub outside : S vertex ≡ false
  pub joined : touches q vertex S ≡ true

-- 'While a vertex is uncovered, some uncovered vertex touches the covered ones': where the query is
-- connected, any set that has one of its vertices and lacks another.
abbrev pub SomeBeside : Query → VertexSet → Type 0
SomeBeside q S =
    connected q ≡ true → (a b : ℕ) → a < q.vertices → b < q.vertices → S a ≡ true → S b ≡ false → Beside q S
