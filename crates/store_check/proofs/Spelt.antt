-- A store that passes every test of the check spells a well-formed graph, and its words are those that this graph is loaded
-- to. Assumes nothing.
use mathlib.Core.Path.{◌≡◌, sym, ◌∙◌, ap, ap₂, fun_ext, subst}
use mathlib.Core.Bool.{Bool, true, ◌&&◌}
use mathlib.Core.List.{List, ◌∷◌, ◌++◌, map, map-map, flat_map}
use Prim.Native.Nat.{ℕ, suc, ◌+◌, ◌-◌, ◌*◌, ◌%◌, ◌≤◌, ◌<◌}
use native.Mathlib.Omega.{arith}
use lib.Dec.{ltb}
use lib.ListN.{length, get_or, take, drop, length-map, length-drop, take-append-drop}
use lib.Seq.{length-take-le, get_or-drop, drop-cons, drop-drop}
use borrow.Author.Tests.{ltb-true, lt-ltb}
use Rattle.lists.specs.Lists.{range, all, count_if, ascending, sort}
use Rattle.lists.proofs.Tests.{and_l, and_r, and_both}
use Rattle.lists.proofs.All.{all-at, all-range, all-follows, all-and, map-get_or}
use Rattle.lists.proofs.Count.{all_map, all-flat_map}
use Rattle.lists.proofs.Sort.{length-sort, sort-ascending}
use Rattle.lists.proofs.Maps.{map-under, map-flat_map}
use Rattle.graph.specs.Graph.{Edge, Graph, Direction, forward, backward, key}
use Rattle.graph.specs.Store.{used_words, list_in, entry_edge, graph_in, offsets, entries, store_of, store_fault}
use Rattle.graph.proofs.WellFormed.{WellFormed, fitting, edge-fitting, formed-well}
use Rattle.graph.proofs.Keys.{keys-ascend, keys_below}
use Rattle.graph.proofs.Parts.{offset, side, store-shape}
use Rattle.graph.proofs.StoreGraph.{store-accepted}
use Rattle.adjacency.specs.Inner.Side.{list_on, vertices_in, edges_in, side_in}
use Rattle.adjacency.specs.Inner.Portion.{member}
use Rattle.store_reverse.specs.Inner.Check.{counts_fit, labels_fit, days_fit, offsets_fit, offsets_on, side_fits, side_good, GoodSide, reverse, list_reversed, side_reversed}
use Rattle.store_check.proofs.Counting.{Counts, counts-fit}
use Rattle.adjacency.proofs.Members.{member-sort, ascending-covers}
use Rattle.adjacency.proofs.Accepted.{side-ends}
use Rattle.store_check.proofs.KeyLists.{key_at, keys_of, Fit, keys-entries, keys-ascending, keys-before, pair-some, some_pair}
use Rattle.store_reverse.proofs.Offsets.{Rising, offsets-rising, offsets-lists, offsets-length}
use Rattle.store_reverse.proofs.Fits.{good_entry, Entry, good-entry, fit-entries, good-side, side-list, side-ascends}

-- The tests, all passed.
pub record Passed (store : List ℕ) : Type 0 where
  pub counts : counts_fit store ≡ true
  pub labels : labels_fit store ≡ true
  pub days : days_fit store ≡ true
  pub sides : (d : Direction) → side_good store (vertices_in store) (edges_in store) (side_in d store) ≡ true
  pub reverses : side_reversed store (vertices_in store) (side_in forward store) (side_in backward store) ≡ true

-- The list of v on the side of a direction.
abbrev pub list_to : List ℕ → Direction → ℕ → List ℕ
list_to store d v = list_on store (vertices_in store) (side_in d store) v

-- The words that `graph_in` reads are the forward lists.
list-in : (store : List ℕ) (v : ℕ) → list_in store v ≡ list_to store forward v
list-in store v =
    let n : ℕ = vertices_in store in
    let from : ℕ = get_or store (2 + 2 * n + v) 0 in
    ap₂ (λ (to base : ℕ). take (get_or store to 0 - from) (drop base store))
    (let e : 2 + 2 * n + suc v ≡ 2 + 2 * n + v + 1 = omega arith in e) (let e : 3 + 3 * n + from ≡ 2 + 2 * n + n + 1 + from = omega arith in e)

edges-in : (store : List ℕ) → (graph_in store).edges ≡ flat_map (λ (v : ℕ). map (entry_edge v) (list_to store forward v)) (range (vertices_in store))
unfolding graph_in
edges-in store = ap (λ (f : ℕ → List Edge). flat_map f (range (vertices_in store))) (fun_ext (λ v. ap (map (entry_edge v)) (list-in store v)))

-- The keys of its edges in a direction.
edge-keys : (d : Direction) (store : List ℕ)
    → map (key d) (graph_in store).edges ≡ flat_map (λ (v : ℕ). map (λ (k : ℕ). key d (entry_edge v k)) (list_to store forward v)) (range (vertices_in store))
edge-keys d store =
    ap (map (key d)) (edges-in store)
    ∙ map-flat_map (key d) (λ (v : ℕ). map (entry_edge v) (list_to store forward v)) (range (vertices_in store))
    ∙ ap (λ (f : ℕ → List ℕ). flat_map f (range (vertices_in store))) (fun_ext (λ v. map-map (key d) (entry_edge v) (list_to store forward v)))

forward-keys : (store : List ℕ) → map (key forward) (graph_in store).edges ≡ keys_of (list_to store forward) (vertices_in store)
unfolding keys_of
forward-keys store =
    edge-keys forward store
    ∙ ap (λ (f : ℕ → ℕ → ℕ). flat_map (λ (v : ℕ). map (f v) (list_to store forward v)) (range (vertices_in store)))
    (fun_ext (λ v. fun_ext (λ k. let e : key forward (entry_edge v k) ≡ key_at v k = omega arith in e)))

module _ (store : List ℕ) (passed : Passed store) where
  counted : Counts store
  counted = counts-fit store passed.counts

  abbrev n : ℕ
  n = vertices_in store

  abbrev m : ℕ
  m = edges_in store

  abbrev g : Graph
  g = graph_in store

  side-room : (d : Direction) → side_in d store + n + 1 + m ≤ length store
  side-room d = omega (arith, side-ends d n m, counted.room)

  rising : (d : Direction) → Rising m n (λ (v : ℕ). get_or store (side_in d store + v) 0)
  rising d =
      offsets-rising store n m (side_in d store) (side-room d)
      (and_l (offsets_fit m (offsets_on store n (side_in d store))) (side_fits store n (side_in d store)) (passed.sides d))

  good : (d : Direction) → GoodSide store n (side_in d store)
  good d = good-side store n m (side_in d store) (side-room d) (passed.sides d)

  list-good : (d : Direction) (v : ℕ) → v < n → all (good_entry n) (list_to store d v) ≡ true
  list-good d v h = fit-entries n (list_to store d v) (side-list (good d) v h)

  list-fit : (d : Direction) → Fit (list_to store d) n
  list-fit d v h =
      all-follows (good_entry n) (λ (k : ℕ). ltb k 16777216) (list_to store d v) (list-good d v h)
      (λ k t. lt-ltb k 16777216 (good-entry n k t).fits)

  -- A side has M entries.
  keys-count : (d : Direction) → length (keys_of (list_to store d) n) ≡ m
  keys-count d =
      sym (length-map (keys_of (list_to store d) n) (λ (k : ℕ). k % 16777216)) ∙ ap length (keys-entries (list_to store d) n (list-fit d))
      ∙ offsets-length store n m (side_in d store) (side-room d) (rising d) n (omega arith) ∙ (rising d).ends

  -- M edges, in their ranges, ascending.
  edge-count : length g.edges ≡ m
  edge-count = sym (length-map g.edges (key forward)) ∙ ap length (forward-keys store) ∙ keys-count forward

  edges_fit : all (fitting n) g.edges ≡ true
  edges_fit =
      ap (all (fitting n)) (edges-in store)
      ∙ all-flat_map (fitting n) (λ (v : ℕ). map (entry_edge v) (list_to store forward v)) (range n)
      ∙ all-range (λ (v : ℕ). all (fitting n) (map (entry_edge v) (list_to store forward v))) n
      (λ v h.
      all_map (fitting n) (entry_edge v) (list_to store forward v)
      ∙ all-follows (good_entry n) (λ (k : ℕ). fitting n (entry_edge v k)) (list_to store forward v) (list-good forward v h)
      (λ k t.
      let f : Entry n k = good-entry n k t in
      edge-fitting n (entry_edge v k) (record { source_in = h; target_in = f.inside; label_given = omega arith; label_fits = omega arith })))

  -- A part of n words.
  part_length : (at : ℕ) → at ≤ 2 + n → length (take n (drop at store)) ≡ n
  part_length at h = length-take-le n (drop at store) (rw length-drop (let r : used_words n m ≤ length store = counted.room in omega arith))

  well : WellFormed g
  unfolding graph_in labels_fit days_fit
  well =
      record {
        few_vertices = counted.few_vertices;
        few_edges = rw edge-count counted.few_edges;
        described = (part_length 2 (omega arith), part_length (2 + n) (omega arith));
        labels-fit = passed.labels;
        days-fit = passed.days;
        edges_fit = edges_fit;
        edges_ascend = ap ascending (forward-keys store) ∙ keys-ascending (list_to store forward) n (list-fit forward) (side-ascends (good forward));
      }

  -- Each forward entry has its reverse on the backward side.
  reversed : (v : ℕ) → v < n
      → all (λ (k : ℕ). good_entry n k && member (reverse v k) (list_to store backward (k % 65536))) (list_to store forward v) ≡ true
  unfolding side_reversed list_reversed
  reversed v h =
      all-and (good_entry n) (λ (k : ℕ). member (reverse v k) (list_to store backward (k % 65536))) (list_to store forward v)
      ∙ and_both (all (good_entry n) (list_to store forward v))
      (all (λ (k : ℕ). member (reverse v k) (list_to store backward (k % 65536))) (list_to store forward v))
      (list-good forward v h)
      (all-at (λ (u : ℕ). list_reversed store n (side_in backward store) u (list_to store forward u)) n passed.reverses v h)

  -- So the backward lists have the backward keys of the edges.
  backward-keys : (k : ℕ) → member k (map (key backward) g.edges) ≡ true → member k (keys_of (list_to store backward) n) ≡ true
  unfolding keys_of
  backward-keys k t =
      pair-some has (λ (v j : ℕ). key backward (entry_edge v j)) (list_to store forward) n k reversed (sym (ap (member k) (edge-keys backward store)) ∙ t)
      (λ v j h s e.
      let f : Entry n j = good-entry n j (and_l (good_entry n j) (member (reverse v j) (list_to store backward (j % 65536))) s) in
      subst (λ (i : ℕ). member i (keys_of (list_to store backward) n) ≡ true)
      (let i : key_at (j % 65536) (reverse v j) ≡ k = omega arith in i)
      (some_pair key_at (list_to store backward) n (j % 65536) (reverse v j) f.inside
      (and_r (good_entry n j) (member (reverse v j) (list_to store backward (j % 65536))) s)))
    where
      has : ℕ → ℕ → Bool
      has v j = good_entry n j && member (reverse v j) (list_to store backward (j % 65536))

  -- The keys in order are those of the lists, one after the other. The backward lists have no others: there are M of both.
  sorted : (d : Direction) → sort (map (key d) g.edges) ≡ keys_of (list_to store d) n
  sorted forward = sort-ascending (map (key forward) g.edges) well.edges_ascend ∙ forward-keys store
  sorted backward =
      ascending-covers (sort (map (key backward) g.edges)) (keys_of (list_to store backward) n)
      (keys-ascend g well backward) (keys-ascending (list_to store backward) n (list-fit backward) (side-ascends (good backward)))
      (λ k t. backward-keys k (sym (member-sort k (map (key backward) g.edges)) ∙ t))
      (length-sort (map (key backward) g.edges) ∙ length-map g.edges (key backward) ∙ edge-count ∙ sym (keys-count backward))

  -- Its offsets and entries are those of the graph.
  offset-spelt : (d : Direction) (v : ℕ) → v ≤ n → offset d g v ≡ get_or (drop (side_in d store) store) v 0
  offset-spelt d v h =
      keys_below g well d v ∙ ap (count_if (λ (k : ℕ). ltb k (v * 16777216))) (sorted d)
      ∙ keys-before (list_to store d) n v (list-fit d) h
      ∙ offsets-length store n m (side_in d store) (side-room d) (rising d) v h
      ∙ sym (get_or-drop (side_in d store) store v 0)

  offsets-spelt : (d : Direction) → offsets d g ≡ offsets_on store n (side_in d store)
  unfolding offsets graph_in
  offsets-spelt d =
      map-under (λ (v : ℕ). ltb v (suc n)) (offset d g) (λ (v : ℕ). get_or (drop (side_in d store) store) v 0) (range (suc n))
      (all-range (λ (v : ℕ). ltb v (suc n)) (suc n) (λ v l. lt-ltb v (suc n) l))
      (λ v t. offset-spelt d v (let l : v < suc n = ltb-true v (suc n) t in omega arith))
      ∙ map-get_or (drop (side_in d store) store) (suc n) (rw length-drop (let l : side_in d store + n + 1 + m ≤ length store = side-room d in omega arith))

  entries-spelt : (d : Direction) → entries d g ≡ take m (drop (side_in d store + n + 1) store)
  unfolding entries
  entries-spelt d =
      ap (map (λ (k : ℕ). k % 16777216)) (sorted d) ∙ keys-entries (list_to store d) n (list-fit d)
      ∙ offsets-lists store n m (side_in d store) (side-room d) (rising d) n (omega arith)
      ∙ ap (λ (k : ℕ). take k (drop (side_in d store + n + 1) store)) (rising d).ends

  -- Its words, part after part.
  part_then : (at : ℕ) → drop at store ≡ take n (drop at store) ++ drop (at + n) store
  part_then at = sym (take-append-drop n (drop at store)) ∙ ap (λ (l : List ℕ). take n (drop at store) ++ l) (drop-drop n at store)

  side-spelt : (d : Direction) → drop (side_in d store) store ≡ side d g (drop (side_in d store + n + 1 + m) store)
  side-spelt d =
      sym (take-append-drop (suc n) (drop (side_in d store) store))
      ∙ ap₂ (λ (a b : List ℕ). a ++ b) (sym (offsets-spelt d))
      (drop-drop (suc n) (side_in d store) store
      ∙ ap (λ (k : ℕ). drop k store) (let e : side_in d store + suc n ≡ side_in d store + n + 1 = omega arith in e)
      ∙ sym (take-append-drop m (drop (side_in d store + n + 1) store))
      ∙ ap₂ (λ (a b : List ℕ). a ++ b) (sym (entries-spelt d)) (drop-drop m (side_in d store + n + 1) store))

  store-spelt : store ≡ store_of g ++ drop (side_in backward store + n + 1 + m) store
  unfolding graph_in
  store-spelt =
      drop-cons store 0 0 (omega (arith, counted.named))
      ∙ ap (λ (l : List ℕ). n ∷ l) (drop-cons store 1 0 counted.named)
      ∙ ap (λ (l : List ℕ). n ∷ m ∷ l)
      (part_then 2
      ∙ ap (λ (l : List ℕ). take n (drop 2 store) ++ l)
      (part_then (2 + n)
      ∙ ap (λ (l : List ℕ). take n (drop (2 + n) store) ++ l)
      (ap (λ (k : ℕ). drop k store) (let e : 2 + n + n ≡ side_in forward store = omega arith in e) ∙ side-spelt forward
      ∙ ap (side forward g) (ap (λ (k : ℕ). drop k store) (let e : side_in forward store + n + 1 + m ≡ side_in backward store = omega arith in e) ∙ side-spelt backward))))
      ∙ ap (λ (k : ℕ). (n ∷ k ∷ take n (drop 2 store)) ++ (take n (drop (2 + n) store) ++ side forward g (side backward g rest))) (sym edge-count)
      ∙ sym (store-shape g rest)
    where
      rest : List ℕ
      rest = drop (side_in backward store + n + 1 + m) store

-- So it is not refused.
pub passed-accepted : (store : List ℕ) → Passed store → store_fault store ≡ 0
passed-accepted store p =
    subst (λ (s : List ℕ). store_fault s ≡ 0) (sym (store-spelt store p))
    (store-accepted (graph_in store) (formed-well (graph_in store) (well store p)) _)
