-- What the store holds of a vertex: 'a vertex's portion for one label is a part of the store, handed on
-- uncopied'. Assumes nothing.
use Rattle.std.specs.Prelude.{Bool, List, map, ℕ, ◌+◌, ◌/◌, ◌%◌, eqb}
use Rattle.lists.specs.Lists.{all, any, keep, sort}
use Rattle.graph.specs.Graph.{Edge, Graph, Direction, entry_span, near, entry, covers}

-- A vertex's list in one direction: the entries of its edges, 'ascending within a vertex'.
unfoldable pub list_of : Direction → Graph → ℕ → List ℕ
list_of d g x = sort (map (entry d) (keep (λ (e : Edge). eqb (near d e) x) g.edges))

-- Its portion for a query's label: the entries whose label that label covers.
unfoldable pub portion : Direction → Graph → ℕ → ℕ → List ℕ
portion d g l x = keep (λ (k : ℕ). covers l (k / entry_span)) (list_of d g x)

-- Every entry of a list is of one label, whose entries begin at `key`; so the list ascends by neighbour where
-- it ascends.
abbrev pub keyed : ℕ → List ℕ → Bool
keyed key list = all (λ (k : ℕ). eqb k (key + k % entry_span)) list

-- x is one of the words.
abbrev pub member : ℕ → List ℕ → Bool
member x s = any (λ (k : ℕ). eqb k x) s
