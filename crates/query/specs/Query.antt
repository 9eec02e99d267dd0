-- A query: a small labelled graph whose vertices are to be matched. Assumes nothing.
use Rattle.std.specs.Prelude.{Bool, not, ◌&&◌, ◌||◌, List, [], ◌∷◌, ℕ, zero, suc, eqb, ltb, get_or}
use Rattle.lists.specs.Lists.{range, all, any, keep}
use Rattle.graph.specs.Graph.{Edge}

-- A pair of vertices: 'the first's item number must be below the second's'.
pub record Pair : Type 0 where
  pub low : ℕ
  pub high : ℕ

-- Vertices with a label and a first and a last day each, edges and pairs in the file's order.
pub record Query : Type 0 where
  pub vertices : ℕ
  pub labels : List ℕ
  pub firsts : List ℕ
  pub lasts : List ℕ
  pub edges : List Edge
  pub pairs : List Pair

-- A query vertex's label; 0 fits every data vertex.
abbrev pub wanted : Query → ℕ → ℕ
wanted q w = get_or q.labels w 0

-- The first and the last day that an item of a query vertex may have, 'both inclusive'.
abbrev pub first_day : Query → ℕ → ℕ
first_day q w = get_or q.firsts w 0

abbrev pub last_day : Query → ℕ → ℕ
last_day q w = get_or q.lasts w 0

-- The query has the pair of w and u.
unfoldable pub paired : Query → ℕ → ℕ → Bool
paired q w u = any (λ (p : Pair). eqb p.low w && eqb p.high u) q.pairs

-- The query edge of an index.
abbrev pub edge_at : Query → ℕ → Edge
edge_at q i = get_or q.edges i (record { source = 0; label = 0; target = 0 })

-- A set S of query vertices.
abbrev pub VertexSet : Type 0
VertexSet = ℕ → Bool

-- The set of a list's elements.
abbrev pub among : List ℕ → VertexSet
among l w = any (λ (u : ℕ). eqb u w) l

-- The edge has both ends in S.
abbrev pub inside : VertexSet → Edge → Bool
inside S e = S e.source && S e.target

-- The edge runs between v and S, in either direction.
abbrev pub between : ℕ → VertexSet → Edge → Bool
between v S e = eqb e.source v && S e.target || S e.source && eqb e.target v

-- Some query edge runs between v and S.
abbrev pub touches : Query → ℕ → VertexSet → Bool
touches q v S = any (between v S) q.edges

-- The vertices that at most k edges in a row lead to from vertex 0, ignoring direction.
unfoldable pub reached : Query → ℕ → List ℕ
reached q zero = 0 ∷ []
reached q (suc k) =
    let seen = reached q k in
    keep (λ (w : ℕ). among seen w || touches q w (among seen)) (range q.vertices)

-- An edge of a query of n vertices that was read: both ends below n, and not equal.
abbrev pub proper_edge : ℕ → Edge → Bool
proper_edge n e = ltb e.source n && ltb e.target n && not (eqb e.source e.target)

-- 'Ignoring direction, the query is connected.'
unfoldable pub connected : Query → Bool
connected q = all (among (reached q q.vertices)) (range q.vertices)
