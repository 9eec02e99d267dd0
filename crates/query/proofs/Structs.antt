-- Laws of a query as the code has it. Assumes nothing.
use mathlib.Core.Path.{◌≡◌, refl, sym, ◌∙◌, ap}
use mathlib.Core.List.{List, map}
use Prim.Native.Nat.{ℕ, ◌<◌}
use lib.ListN.{length, get_or, take, length-map, get_or-map}
use Rattle.lists.proofs.Maps.{map-indices, get_or-image}
use Rattle.graph.specs.Graph.{Edge}
use Rattle.query.specs.Query.{Pair, Query, edge_at}
use Rattle.query.specs.File.{max_vertices, max_edges, max_pairs}
use Rattle.query.specs.Answer.{padded, struct_of}
use Rattle.query.specs.Inner.Struct.{edge_struct, as_edge, edge_of, pair_of, query_in}
use Rattle.query.specs.declared.Edge.{Edge as EdgeStruct}
use Rattle.query.specs.declared.Query.{Query as QueryStruct}
use Rattle.query.proofs.Images.{get_or-padded, take-padded}

abbrev no_edge : Edge
no_edge = record { source = 0; label = 0; target = 0 }

-- The edge of an index below the count.
pub edge_in_lem : (d : QueryStruct) (i : ℕ) → i < d.edges → edge_at (query_in d) i ≡ edge_of d i
unfolding query_in
edge_in_lem d i h = get_or-image (edge_of d) d.edges i _ h

-- The edge that `edge` returns.
pub edge-read : (d : QueryStruct) (i : ℕ) (e : EdgeStruct) → i < d.edges → e ≡ edge_struct (edge_at (query_in d) i) → as_edge e ≡ edge_of d i
edge-read d i e h r = ap as_edge r ∙ edge_in_lem d i h

-- An edge of a query is found in its struct.
pub edge-of : (q : Query) (i : ℕ) → i < length q.edges → edge_of (struct_of q) i ≡ edge_at q i
unfolding struct_of
edge-of q i h =
    λ k. record { source = field (λ (e : Edge). e.source) refl k; label = field (λ (e : Edge). e.label) refl k; target = field (λ (e : Edge). e.target) refl k }
  where
    field : (f : Edge → ℕ) → f no_edge ≡ 0 → get_or (padded max_edges (map f q.edges)) i 0 ≡ f (edge_at q i)
    field f z =
        get_or-padded max_edges (map f q.edges) i (rw (length-map q.edges f) h)
        ∙ ap (get_or (map f q.edges) i) (sym z) ∙ get_or-map f q.edges i no_edge

-- So is a pair.
abbrev pub pair_at : Query → ℕ → Pair
pair_at q i = get_or q.pairs i (record { low = 0; high = 0 })

pub pair-of : (q : Query) (i : ℕ) → i < length q.pairs → pair_of (struct_of q) i ≡ pair_at q i
unfolding struct_of
pair-of q i h = λ k. record { low = field (λ (p : Pair). p.low) refl k; high = field (λ (p : Pair). p.high) refl k }
  where
    field : (f : Pair → ℕ) → f (record { low = 0; high = 0 }) ≡ 0 → get_or (padded max_pairs (map f q.pairs)) i 0 ≡ f (pair_at q i)
    field f z =
        get_or-padded max_pairs (map f q.pairs) i (rw (length-map q.pairs f) h)
        ∙ ap (get_or (map f q.pairs) i) (sym z) ∙ get_or-map f q.pairs i (record { low = 0; high = 0 })

-- A struct holds the query that it was made of.
pub in_struct : (q : Query) → length q.labels ≡ q.vertices → length q.firsts ≡ q.vertices → length q.lasts ≡ q.vertices
    → query_in (struct_of q) ≡ q
unfolding query_in struct_of
in_struct q l f t =
    λ k. record {
      vertices = q.vertices;
      labels = taken q.labels l k;
      firsts = taken q.firsts f k;
      lasts = taken q.lasts t k;
      edges = map-indices (edge_of (struct_of q)) q.edges _ (edge-of q) k;
      pairs = map-indices (pair_of (struct_of q)) q.pairs _ (pair-of q) k;
    }
  where
    taken : (xs : List ℕ) → length xs ≡ q.vertices → take q.vertices (padded max_vertices xs) ≡ xs
    taken xs e = ap (λ (n : ℕ). take n (padded max_vertices xs)) (sym e) ∙ take-padded max_vertices xs
