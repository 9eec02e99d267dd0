-- 'Two accepted stores with the same items, labels and days, differing only in edges whose labels a query
-- does not name, where that query has no edge label 0.' Assumes nothing.
use Rattle.std.specs.Prelude.{◌≡◌, Bool, true, false, ◌&&◌, List, ℕ, eqb}
use Rattle.lists.specs.Lists.{any}
use Rattle.graph.specs.Graph.{Edge, Graph}
use Rattle.graph.specs.Store.{graph_in, store_fault}
use Rattle.query.specs.Query.{Query}
use Rattle.query.specs.File.{query_of, query_fault}

-- A query edge has the label l.
unfoldable pub names : Query → ℕ → Bool
names q l = any (λ (e : Edge). eqb e.label l) q.edges

-- The graph has the edge from s to t of label l.
unfoldable pub has_edge : Graph → ℕ → ℕ → ℕ → Bool
has_edge g s l t = any (λ (e : Edge). eqb e.source s && eqb e.label l && eqb e.target t) g.edges

-- No query edge has label 0, which 'means any label', and an edge whose label the query names is in one graph
-- exactly when it is in the other. The other edges may differ in any way: which they are, and how many.
pub record OthersDiffer (q : Query) (g h : Graph) : Type 0 where
  pub none_any : names q 0 ≡ false
  pub named : (s l t : ℕ) → names q l ≡ true → has_edge g s l t ≡ has_edge h s l t

-- The two stores of the claim: 19 accepts both (`Refuses19` says what that means), and their graphs have the
-- same N, labels and days. M, the offsets, the entries and the stores' lengths may all differ. Where the
-- query file is refused, nothing more is asked.
pub record TwoCompanies (query one two : List ℕ) : Type 0 where
  pub one_accepted : store_fault one ≡ 0
  pub two_accepted : store_fault two ≡ 0
  pub vertices : (graph_in one).vertices ≡ (graph_in two).vertices
  pub labels : (graph_in one).labels ≡ (graph_in two).labels
  pub days : (graph_in one).days ≡ (graph_in two).days
  pub others : query_fault query ≡ 0 → OthersDiffer (query_of query) (graph_in one) (graph_in two)
