-- Where the parts of a store lie: 'N, M, the labels', the days, 'N+1 forward offsets, M forward entries, N+1 backward offsets,
-- M backward entries'. Assumes nothing.
use mathlib.Core.Path.{◌≡◌, sym, ◌∙◌, ap}
use mathlib.Core.List.{List, ◌∷◌, ◌++◌, map, append_assoc}
use Prim.Native.Nat.{ℕ, suc, ◌+◌, ◌≤◌}
use native.Mathlib.Nat.{le_of_eq}
use native.Mathlib.Omega.{arith}
use lib.Dec.{ltb}
use lib.ListN.{length, get_or, drop, length-append, length-map, get_or-append, drop_of_length-le}
use lib.Seq.{drop_at, drop-append-add, drop-append-le, drop-drop, get_or-drop}
use Rattle.lists.specs.Lists.{range, count_if, sort}
use Rattle.lists.proofs.All.{length-range}
use Rattle.lists.proofs.Sort.{length-sort}
use Rattle.lists.proofs.Maps.{get_or-image}
use Rattle.graph.specs.Graph.{Edge, Graph, Direction, forward, backward, near, key}
use Rattle.graph.specs.Store.{offsets, entries, store_of, store_size}
use Rattle.graph.specs.Inner.Side.{side_at}
use Rattle.graph.proofs.WellFormed.{Described}

pub length-offsets : (d : Direction) (g : Graph) → length (offsets d g) ≡ suc g.vertices
unfolding offsets
length-offsets d g = length-map (range (suc g.vertices)) _ ∙ length-range (suc g.vertices)

pub length-entries : (d : Direction) (g : Graph) → length (entries d g) ≡ length g.edges
unfolding entries
length-entries d g = length-map (sort (map (key d) g.edges)) _ ∙ length-sort (map (key d) g.edges) ∙ length-map g.edges (key d)

-- '4N + 2M + 4 words'.
pub length-store : (g : Graph) → Described g → length (store_of g) ≡ store_size g
unfolding store_of
length-store g e =
    simp (length-append, length-offsets, length-entries, e.0, e.1) (omega arith)

-- The offset of v in one direction.
abbrev pub offset : Direction → Graph → ℕ → ℕ
offset d g v = count_if (λ (e : Edge). ltb (near d e) v) g.edges

pub offset_at : (d : Direction) (g : Graph) (v : ℕ) → v ≤ g.vertices → get_or (offsets d g) v 0 ≡ offset d g v
unfolding offsets
offset_at d g v h = get_or-image (offset d g) (suc g.vertices) v 0 (omega arith)

-- The offsets and entries of one direction, and what follows them.
abbrev pub side : Direction → Graph → List ℕ → List ℕ
side d g rest = offsets d g ++ (entries d g ++ rest)

-- Where the offsets of a direction begin.
abbrev pub side_start : Direction → Graph → ℕ
side_start d g = side_at d g.vertices (length g.edges)

-- What follows the offsets of a direction.
abbrev pub side_end : Direction → Graph → List ℕ → List ℕ
side_end forward g rest = side backward g rest
side_end backward g rest = rest

pub store-shape : (g : Graph) (rest : List ℕ)
    → store_of g ++ rest ≡ (g.vertices ∷ length g.edges ∷ g.labels) ++ (g.days ++ side forward g (side backward g rest))
unfolding store_of
store-shape g rest = simp append_assoc

-- k words past the offsets of a side are k words into its entries.
side-entries : (d : Direction) (g : Graph) (rest : List ℕ) (k : ℕ) → k ≤ length g.edges
    → drop (suc g.vertices + k) (side d g rest) ≡ drop k (entries d g) ++ rest
side-entries d g rest k h =
    ap (λ (n : ℕ). drop (n + k) (side d g rest)) (sym (length-offsets d g))
    ∙ drop-append-add (offsets d g) (entries d g ++ rest) k
    ∙ drop-append-le k (entries d g) rest (rw length-entries h)

module _ (g : Graph) (described : Described g) (rest : List ℕ) where
  forward_at : drop (side_start forward g) (store_of g ++ rest) ≡ side forward g (side backward g rest)
  forward_at =
      ap (drop (side_start forward g)) (store-shape g rest ∙ sym (append_assoc (g.vertices ∷ length g.edges ∷ g.labels) g.days _))
      ∙ drop_at ((g.vertices ∷ length g.edges ∷ g.labels) ++ g.days) (side forward g (side backward g rest)) (side_start forward g)
      (length-append (g.vertices ∷ length g.edges ∷ g.labels) g.days ∙ omega (arith, described.0, described.1))

  pub side-at : (d : Direction) → drop (side_start d g) (store_of g ++ rest) ≡ side d g (side_end d g rest)
  side-at forward = forward_at
  side-at backward =
      ap (λ (n : ℕ). drop n (store_of g ++ rest)) split
      ∙ sym (drop-drop (suc g.vertices + length g.edges) (side_start forward g) (store_of g ++ rest))
      ∙ ap (drop (suc g.vertices + length g.edges)) forward_at
      ∙ side-entries forward g (side backward g rest) (length g.edges) (omega arith)
      ∙ ap (λ (l : List ℕ). l ++ side backward g rest) (drop_of_length-le (entries forward g) (le_of_eq (length-entries forward g)))
    where
      split : side_start backward g ≡ side_start forward g + (suc g.vertices + length g.edges)
      split = omega arith

  -- The word at which the offset of v stands, and the words from the k-th entry on.
  pub store-offset : (d : Direction) (v : ℕ) → v ≤ g.vertices → get_or (store_of g ++ rest) (side_start d g + v) 0 ≡ offset d g v
  store-offset d v h =
      sym (get_or-drop (side_start d g) (store_of g ++ rest) v 0)
      ∙ ap (λ (l : List ℕ). get_or l v 0) (side-at d)
      ∙ get_or-append (offsets d g) (entries d g ++ side_end d g rest) 0 v (rw length-offsets (omega arith))
      ∙ offset_at d g v h

  pub store-entries : (d : Direction) (k : ℕ) → k ≤ length g.edges
      → drop (side_start d g + (suc g.vertices + k)) (store_of g ++ rest) ≡ drop k (entries d g) ++ side_end d g rest
  store-entries d k h =
      sym (drop-drop (suc g.vertices + k) (side_start d g) (store_of g ++ rest))
      ∙ ap (drop (suc g.vertices + k)) (side-at d) ∙ side-entries d g (side_end d g rest) k h
