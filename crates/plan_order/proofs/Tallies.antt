-- Laws of the counts of data edges by label, and of the scan's edge by them. Assumes nothing.
use mathlib.Core.Path.{◌≡◌, sym, ◌∙◌, ap, ap₂}
use mathlib.Core.Bool.{true}
use mathlib.Core.List.{List, map}
use Prim.Native.Nat.{ℕ, suc, ◌+◌, ◌/◌, ◌≤◌, ◌<◌}
use native.Mathlib.Nat.{le_refl}
use native.Mathlib.Omega.{arith}
use lib.Dec.{eqb, ltb}
use lib.ListN.{length, get_or, set, take, drop, length-map}
use lib.Seq.{take-length, take_at}
use borrow.Author.Tests.{ltb-true, lt-ltb, ne_eqb}
use Rattle.lists.specs.Lists.{range, all, count_if}
use Rattle.lists.proofs.All.{all_true, all-follows, all_get_d, map-get_or}
use Rattle.lists.proofs.Count.{all_map, count_map, count-all, count_under}
use Rattle.lists.proofs.Maps.{get_or-image, image-ext}
use Rattle.graph.specs.Graph.{Edge, Graph, forward, entry, entry_span, entry_end, covers}
use Rattle.graph.specs.Store.{entries, store_size, graph_in, store_fault}
use Rattle.graph.specs.Inner.Side.{side_at}
use Rattle.graph.proofs.WellFormed.{fitting}
use Rattle.graph.proofs.Keys.{entry-fits, entry-label, forward-entries}
use Rattle.graph.proofs.Parts.{store-entries, length-entries, side_start, side_end}
use Rattle.counting_sort.specs.Inner.Groups.{group_sizes}
use Rattle.counting_sort.proofs.Counting.{Tallied, set-image}
use Rattle.adjacency.specs.Inner.Side.{vertices_in, edges_in}
use Rattle.adjacency.proofs.Accepted.{graph-formed, store-whole, store-vertices, store-edges, store_length}
use Rattle.query.specs.Query.{Query, edge_at}
use Rattle.plan_order.specs.Order.{chosen, edges_of, scan_size, scan_edge}
use Rattle.plan_order.specs.Inner.Counts.{label_counts, edge_counts, Entries}
use Rattle.plan_order.proofs.Choosing.{chosen-ext}

-- ---- counting the entries of a list

-- The label of the entry at an index.
abbrev pub label_at : List ℕ → ℕ → ℕ
label_at s j = get_or s j 0 / entry_span

pub label-below : (s : List ℕ) (j : ℕ) → Entries s → j < length s → label_at s j < 256
label-below s j e h = omega (arith, ltb-true (get_or s j 0) 16777216 (all_get_d (λ (k : ℕ). ltb k 16777216) s j 0 h e.fit))

-- What was counted by index was counted of the entries.
tallied-label : (s : List ℕ) (l : ℕ) → count_if (λ (j : ℕ). eqb (label_at s j) l) (range (length s)) ≡ count_if (λ (k : ℕ). eqb (k / entry_span) l) s
tallied-label s l =
    sym (count_map (λ (k : ℕ). eqb (k / entry_span) l) (λ (j : ℕ). get_or s j 0) (range (length s)))
    ∙ ap (count_if (λ (k : ℕ). eqb (k / entry_span) l)) (map-get_or s (length s) (le_refl (length s)) ∙ take-length s)

-- With the number of all entries for label 0 the counts are complete.
pub tallied-all : (s counts : List ℕ) → Tallied (label_at s) 256 (length s) counts → set counts 0 (length s) ≡ label_counts s
unfolding label_counts group_sizes covers
tallied-all s counts t =
    ap₂ (λ (c : List ℕ) (n : ℕ). set c 0 n) t.words (sym every)
    ∙ set-image (λ (l : ℕ). count_if (λ (j : ℕ). eqb (label_at s j) l) (range (length s))) (λ (l : ℕ). count_if (λ (k : ℕ). covers l (k / entry_span)) s) 256 0 (omega arith)
    (λ l d. tallied-label s l ∙ sym (rw (ne_eqb l 0 d)))
  where
    every : count_if (λ (k : ℕ). covers 0 (k / entry_span)) s ≡ length s
    every = count-all (λ (k : ℕ). covers 0 (k / entry_span)) s (all_true s)

-- ---- the forward entries of a store

module _ (store : List ℕ) (accepted : store_fault store ≡ 0) where
  abbrev g : Graph
  g = graph_in store

  abbrev from : ℕ
  from = side_at forward (vertices_in store) (edges_in store) + vertices_in store + 1

  pub forward-room : from + edges_in store ≤ length store
  forward-room = omega (arith, store_length store accepted, store-vertices store accepted, store-edges store accepted)

  pub forward-part : take (edges_in store) (drop from store) ≡ map (entry forward) g.edges
  forward-part =
      let w = graph-formed store accepted in
      let past = drop (store_size g) store in
      let at : from ≡ side_start forward g + (suc g.vertices + 0) = omega (arith, store-vertices store accepted) in
      ap₂ (λ (k : ℕ) (s : List ℕ). take (edges_in store) (drop k s)) at (store-whole store accepted)
      ∙ ap (take (edges_in store)) (store-entries g w.described past forward 0 (omega arith))
      ∙ take_at (entries forward g) (side_end forward g past) (edges_in store) (length-entries forward g ∙ sym (store-edges store accepted))
      ∙ forward-entries g w

  pub part-entries : Entries (take (edges_in store) (drop from store))
  part-entries =
      let w = graph-formed store accepted in
      record {
        few = rw (forward-part, length-map g.edges (entry forward)) (omega (arith, w.few_edges));
        fit = rw forward-part
            (all_map (λ (k : ℕ). ltb k entry_end) (entry forward) g.edges
            ∙ all-follows (fitting g.vertices) (λ (e : Edge). ltb (entry forward e) entry_end) g.edges w.edges_fit
            (λ e t. lt-ltb (entry forward e) entry_end (entry-fits g w forward e t)));
      }

  -- The counts of these entries are those of the edges.
  pub part-counts : label_counts (take (edges_in store) (drop from store)) ≡ edge_counts g
  unfolding label_counts edge_counts edges_of
  part-counts =
      let w = graph-formed store accepted in
      ap label_counts forward-part
      ∙ image-ext (λ (l : ℕ). count_if (λ (k : ℕ). covers l (k / entry_span)) (map (entry forward) g.edges)) (edges_of g) 256
      (λ l h.
      count_map (λ (k : ℕ). covers l (k / entry_span)) (entry forward) g.edges
      ∙ count_under (fitting g.vertices) (λ (e : Edge). covers l (entry forward e / entry_span)) (λ (e : Edge). covers l e.label) g.edges w.edges_fit
      (λ e t. ap (covers l) (entry-label g w forward e t)))

-- ---- the scan's edge

-- The size of the scan of each edge, by the counts.
abbrev pub size_by : List ℕ → Query → ℕ → ℕ
size_by counts q i = get_or counts (edge_at q i).label 0

pub scan-chosen : (g : Graph) (q : Query) (counts : List ℕ) (m : ℕ) → counts ≡ edge_counts g → m ≡ length q.edges
    → all (λ (e : Edge). ltb e.label 256) q.edges ≡ true
    → chosen (λ (i j : ℕ). ltb (size_by counts q i) (size_by counts q j)) m ≡ scan_edge g q
unfolding scan_edge edge_counts
scan-chosen g q counts m c e labels =
    rw e
    (chosen-ext (λ (i j : ℕ). ltb (size_by counts q i) (size_by counts q j)) (λ (i j : ℕ). ltb (scan_size g q i) (scan_size g q j)) (length q.edges)
    (λ i j k l. ap₂ ltb (size i k) (size j l)))
  where
    size : (i : ℕ) → i < length q.edges → size_by counts q i ≡ scan_size g q i
    size i h =
        ap (λ (s : List ℕ). get_or s (edge_at q i).label 0) c
        ∙ get_or-image (edges_of g) 256 (edge_at q i).label 0 (ltb-true (edge_at q i).label 256 (all_get_d (λ (e : Edge). ltb e.label 256) q.edges i _ h labels))
