-- Laws of a file's query as the code has it. Assumes nothing.
use mathlib.Core.Path.{◌≡◌, refl, sym, ◌∙◌, ap}
use mathlib.Core.Bool.{true, false, ◌&&◌}
use mathlib.Core.List.{List, map, map-map}
use Prim.Native.Nat.{ℕ, ◌+◌, ◌*◌, ◌≤◌, ◌<◌}
use native.Mathlib.Omega.{arith}
use lib.Dec.{leb, ltb}
use lib.ListN.{length}
use borrow.Author.Tests.{leb-true, lt-ltb}
use Rattle.lists.specs.Lists.{range, all}
use Rattle.lists.proofs.Tests.{and_l, and_r, not-false}
use Rattle.lists.proofs.All.{all-range}
use Rattle.lists.proofs.Count.{all_map}
use Rattle.lists.proofs.Maps.{length-image, get_or-image, image-ext}
use Rattle.packed.specs.Field.{field_at}
use Rattle.packed.proofs.Laws.{field_lt}
use Rattle.graph.specs.Graph.{Edge}
use Rattle.query.specs.Query.{Pair, edge_at}
use Rattle.query.specs.File.{min_vertices, max_vertices, min_edges, max_edges, max_pairs, vertex_count, edge_count, pair_count, label_in, first_in, last_in, edge_start, edge_in, pair_start, pair_in, query_of, outside_limits}
use Rattle.query_file.specs.Inner.Parts.{vertex_field, edge_field, pair_field}
use Rattle.query.specs.Answer.{padded, struct_of}
use Rattle.query.specs.Inner.Struct.{edge_of, pair_of, query_in, Held}
use Rattle.query.proofs.Structs.{edge-of, pair_at, pair-of, in_struct}

-- What the limits of a file say.
module _ (s : List ℕ) (ok : outside_limits s ≡ false) where
  within : (leb min_vertices (vertex_count s) && leb (vertex_count s) max_vertices && leb min_edges (edge_count s) && leb (edge_count s) max_edges) ≡ true
  within = not-false _ ok

  vertices-within : (leb min_vertices (vertex_count s) && leb (vertex_count s) max_vertices) ≡ true
  vertices-within = and_l _ (leb min_edges (edge_count s)) (and_l _ (leb (edge_count s) max_edges) within)

  pub at-least-vertices : min_vertices ≤ vertex_count s
  at-least-vertices = leb-true min_vertices (vertex_count s) (and_l _ (leb (vertex_count s) max_vertices) vertices-within)

  pub at-most-vertices : vertex_count s ≤ max_vertices
  at-most-vertices = leb-true (vertex_count s) max_vertices (and_r (leb min_vertices (vertex_count s)) _ vertices-within)

  pub at-least-edges : min_edges ≤ edge_count s
  at-least-edges = leb-true min_edges (edge_count s) (and_r (leb min_vertices (vertex_count s) && leb (vertex_count s) max_vertices) _ (and_l _ (leb (edge_count s) max_edges) within))

  pub at-most-edges : edge_count s ≤ max_edges
  at-most-edges = leb-true (edge_count s) max_edges (search (and_r, within))

-- A file's query has a label and two days for each vertex, so that its struct holds it.
pub file-struct : (s : List ℕ) → query_in (struct_of (query_of s)) ≡ query_of s
unfolding query_of
file-struct s =
    in_struct (query_of s) (length-image (label_in s) (vertex_count s)) (length-image (first_in s) (vertex_count s)) (length-image (last_in s) (vertex_count s))

-- Its labels are bytes.
pub file-labels : (s : List ℕ) → all (λ (e : Edge). ltb e.label 256) (query_of s).edges ≡ true
unfolding query_of
file-labels s =
    all_map (λ (e : Edge). ltb e.label 256) (edge_in s) (range (edge_count s))
    ∙ all-range (λ (i : ℕ). ltb (edge_in s i).label 256) (edge_count s) (λ i l. lt-ltb (edge_in s i).label 256 (field_lt s (edge_start s i + 6) 8))

-- The edges of a file's query.
pub file-edge : (s : List ℕ) (i : ℕ) → i < edge_count s → edge_at (query_of s) i ≡ edge_in s i
unfolding query_of
file-edge s i h = get_or-image (edge_in s) (edge_count s) i _ h

-- Its pairs, which a count of 4 bits counts.
pub file-pair : (s : List ℕ) (i : ℕ) → i < pair_count s → pair_at (query_of s) i ≡ pair_in s i
unfolding query_of
file-pair s i h = get_or-image (pair_in s) (pair_count s) i _ h

pub at-most-pairs : (s : List ℕ) → pair_count s ≤ max_pairs
at-most-pairs s = omega (arith, field_lt s (edge_start s (edge_count s)) 4)

-- The struct that is read field by field from a file of n vertices, m edges and p pairs, where edge 0 and pair 0 are at bit positions.
module _ (s : List ℕ) (n m p at from : ℕ) (vertices : n ≡ vertex_count s) (edges : m ≡ edge_count s) (pairs : p ≡ pair_count s)
    (place : at ≡ 9 + 48 * n) (past : from ≡ at + 14 * m + 4) where
  field-read : (o w : ℕ) (f : Edge → ℕ) → ((i : ℕ) → field_at s (edge_start s i + o) w ≡ f (edge_in s i))
      → map (edge_field s at o w) (range m) ≡ map f (map (edge_in s) (range (edge_count s)))
  field-read o w f h =
      ap (λ (k : ℕ). map (edge_field s at o w) (range k)) edges
      ∙ image-ext (edge_field s at o w) (λ (i : ℕ). f (edge_in s i)) (edge_count s) (λ i l. ap (λ (k : ℕ). field_at s k w) (omega arith) ∙ h i)
      ∙ sym (map-map f (edge_in s) (range (edge_count s)))

  pair_read : (o : ℕ) (f : Pair → ℕ) → ((i : ℕ) → field_at s (pair_start s i + o) 3 ≡ f (pair_in s i))
      → map (pair_field s from o) (range p) ≡ map f (map (pair_in s) (range (pair_count s)))
  pair_read o f h =
      ap (λ (k : ℕ). map (pair_field s from o) (range k)) pairs
      ∙ image-ext (pair_field s from o) (λ (i : ℕ). f (pair_in s i)) (pair_count s) (λ i l. ap (λ (k : ℕ). field_at s k 3) (omega arith) ∙ h i)
      ∙ sym (map-map f (pair_in s) (range (pair_count s)))

  vertex-read : (o : ℕ) (f : ℕ → ℕ) → ((w : ℕ) → vertex_field s o w ≡ f w) → map (vertex_field s o) (range n) ≡ map f (range (vertex_count s))
  vertex-read o f h = ap (λ (k : ℕ). map (vertex_field s o) (range k)) vertices ∙ image-ext (vertex_field s o) f (vertex_count s) (λ w l. h w)

  pub struct-read : (ls fs us ss ts es xs ys : List ℕ) → ls ≡ padded max_vertices (map (vertex_field s 0) (range n))
      → fs ≡ padded max_vertices (map (vertex_field s 16) (range n)) → us ≡ padded max_vertices (map (vertex_field s 32) (range n))
      → ss ≡ padded max_edges (map (edge_field s at 0 3) (range m)) → ts ≡ padded max_edges (map (edge_field s at 3 3) (range m))
      → es ≡ padded max_edges (map (edge_field s at 6 8) (range m))
      → xs ≡ padded max_pairs (map (pair_field s from 0) (range p)) → ys ≡ padded max_pairs (map (pair_field s from 3) (range p))
      → record { vertices = n; edges = m; labels = ls; firsts = fs; lasts = us; sources = ss; targets = ts; edge_labels = es; pairs = p; lows = xs; highs = ys }
      ≡ struct_of (query_of s)
  unfolding struct_of query_of
  struct-read ls fs us ss ts es xs ys hl hf hu hs ht he hx hy =
      λ k. record {
        vertices = vertices k;
        edges = (edges ∙ sym (length-image (edge_in s) (edge_count s))) k;
        labels = (hl ∙ ap (padded max_vertices) (vertex-read 0 (label_in s) (λ w. ap (λ (j : ℕ). field_at s j 16) (omega arith)))) k;
        firsts = (hf ∙ ap (padded max_vertices) (vertex-read 16 (first_in s) (λ w. refl))) k;
        lasts = (hu ∙ ap (padded max_vertices) (vertex-read 32 (last_in s) (λ w. refl))) k;
        sources = (hs ∙ ap (padded max_edges) (field-read 0 3 (λ (e : Edge). e.source) (λ i. ap (λ (j : ℕ). field_at s j 3) (omega arith)))) k;
        targets = (ht ∙ ap (padded max_edges) (field-read 3 3 (λ (e : Edge). e.target) (λ i. refl))) k;
        edge_labels = (he ∙ ap (padded max_edges) (field-read 6 8 (λ (e : Edge). e.label) (λ i. refl))) k;
        pairs = (pairs ∙ sym (length-image (pair_in s) (pair_count s))) k;
        lows = (hx ∙ ap (padded max_pairs) (pair_read 0 (λ (e : Pair). e.low) (λ i. ap (λ (j : ℕ). field_at s j 3) (omega arith)))) k;
        highs = (hy ∙ ap (padded max_pairs) (pair_read 3 (λ (e : Pair). e.high) (λ i. refl))) k;
      }

-- A file within the limits has a query that the code's functions take.
pub held : (s : List ℕ) → outside_limits s ≡ false → Held (struct_of (query_of s))
unfolding struct_of query_of
held s ok =
    record {
      vertices = at-most-vertices s ok;
      edges = rw length-image (at-most-edges s ok);
      pairs = rw length-image (at-most-pairs s);
      source = λ i h. end i h (λ (e : Edge). e.source) (field_lt s (edge_start s i) 3);
      target = λ i h. end i h (λ (e : Edge). e.target) (field_lt s (edge_start s i + 3) 3);
      low = λ i h. half i h (λ (p : Pair). p.low) (field_lt s (pair_start s i) 3);
      high = λ i h. half i h (λ (p : Pair). p.high) (field_lt s (pair_start s i + 3) 3);
    }
  where
    end : (i : ℕ) → i < length (query_of s).edges → (f : Edge → ℕ) → f (edge_in s i) < max_vertices → f (edge_of (struct_of (query_of s)) i) < max_vertices
    end i h f l = rw (edge-of (query_of s) i h, file-edge s i (rw length-image at h)) l

    half : (i : ℕ) → i < length (query_of s).pairs → (f : Pair → ℕ) → f (pair_in s i) < max_vertices → f (pair_of (struct_of (query_of s)) i) < max_vertices
    half i h f l = rw (pair-of (query_of s) i h, file-pair s i (rw length-image at h)) l
