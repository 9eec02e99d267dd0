-- Laws of the query file and its faults. Assumes nothing.
use mathlib.Core.Path.{◌≡◌, refl, sym, ◌∙◌, ap, ap₂}
use mathlib.Core.Bool.{Bool, true, false, not, ◌||◌}
use mathlib.Core.List.{List, [], ◌∷◌, ◌++◌, map}
use Prim.Native.Nat.{ℕ, zero, suc, ◌+◌, ◌^◌, ◌≤◌, ◌<◌}
use native.Mathlib.Numerals.{add-one}
use native.Mathlib.Omega.{arith}
use lib.Dec.{ltb}
use lib.ListN.{length}
use borrow.Author.Tests.{ltb-true, ltb-false, lt-ltb, le-ltb, eqb-false}
use Rattle.lists.specs.Lists.{range}
use Rattle.lists.specs.Refusal.{refuse, first}
use Rattle.lists.proofs.Tests.{not-false}
use Rattle.lists.proofs.Faults.{first_head, first_tail, first-cons, refuse-zero, zero-refuse, first_some, first_one, first_group, first-after, first-stop, first_next}
use Rattle.packed.specs.Field.{field_at, bits_in, bytes_for}
use Rattle.packed.proofs.Laws.{field-add, field_lt}
use Rattle.query.specs.Query.{connected}
use Rattle.query.specs.File.{vertex_count, edge_count, pair_count, first_in, last_in, edge_start, edge_in, pair_start, pair_in, query_of, outside_limits, counted_size, day_fault, key, edge_fault, bad_pair, pair_key, pair_fault, query_fault}
use Rattle.query_file.specs.Inner.Parts.{size_fault, sizes_fault, edge_from, pair_from, key_fault, pair_key_fault, query_days_fault, query_edges_fault, query_pairs_fault, query_file_fault, Readable}
use Rattle.query.specs.Answer.{struct_of}
use Rattle.query.specs.Inner.Struct.{Held}
use Rattle.query_file.proofs.Structs.{held}

-- The three fields of an edge, read as one, are its key.
pub key-field : (s : List ℕ) (at : ℕ) → field_at s at 14 ≡ key (edge_from s at)
key-field s at = omega (arith, field-add s at 6 8, field-add s at 3 3)

pub key-lt : (s : List ℕ) (at : ℕ) → key (edge_from s at) < 2 ^ 14
key-lt s at = rw (← key-field s at) (field_lt s at 14)

-- The least key that ascends at edge i: one more than the key before it.
unfoldable pub least_key : List ℕ → ℕ → ℕ
least_key s zero = 0
least_key s (suc i) = key (edge_in s i) + 1

-- Not above the key before it is below the least that ascends.
later : (a b : ℕ) → ltb b (a + 1) ≡ not (ltb a b)
later a b = go (ltb a b) refl
  where
    go : (t : Bool) → ltb a b ≡ t → ltb b (a + 1) ≡ not t
    go true e = let h : a < b = ltb-true a b e in le-ltb b (a + 1) (omega arith)
    go false e = let h : b ≤ a = ltb-false a b e in lt-ltb b (a + 1) (omega arith)

-- The fault of edge i, by its key.
pub edge-by-key : (s : List ℕ) (i : ℕ) → key_fault (vertex_count s) (least_key s i) (edge_in s i) ≡ edge_fault s i
unfolding least_key
edge-by-key s zero = rw (le-ltb (key (edge_in s 0)) 0 (omega arith)) refl
edge-by-key s (suc i) = rw (later (key (edge_in s i)) (key (edge_in s (suc i)))) refl

-- What the code reads of edge i, at its place in the file.
module _ (s : List ℕ) (n at i : ℕ) (count : n ≡ vertex_count s) (place : at ≡ edge_start s i) where
  edge_here : edge_from s at ≡ edge_in s i
  edge_here = ap (edge_from s) place

  pub fault-here : (least fault : ℕ) → least ≡ least_key s i → fault ≡ key_fault n least (edge_from s at) → fault ≡ edge_fault s i
  fault-here least fault l f =
      f ∙ ap (λ (k : ℕ). key_fault k least (edge_from s at)) count ∙ ap₂ (key_fault (vertex_count s)) l edge_here ∙ edge-by-key s i

  pub least-next : (k : ℕ) → k ≡ key (edge_from s at) → k + 1 ≡ least_key s (i + 1)
  unfolding least_key
  least-next k e = rw (add-one i) (ap (λ (j : ℕ). j + 1) (e ∙ ap key edge_here))

-- ---- the same of the pairs

pub pair-key-field : (s : List ℕ) (at : ℕ) → field_at s at 6 ≡ pair_key (pair_from s at)
pair-key-field s at = omega (arith, field-add s at 3 3)

pub pair-key-lt : (s : List ℕ) (at : ℕ) → pair_key (pair_from s at) < 2 ^ 6
pair-key-lt s at = rw (← pair-key-field s at) (field_lt s at 6)

unfoldable pub least_pair : List ℕ → ℕ → ℕ
least_pair s zero = 0
least_pair s (suc i) = pair_key (pair_in s i) + 1

pub pair-by-key : (s : List ℕ) (i : ℕ) → pair_key_fault (vertex_count s) (least_pair s i) (pair_in s i) ≡ pair_fault s i
unfolding least_pair
pair-by-key s zero = ap (λ (b : Bool). refuse 26 (bad_pair (vertex_count s) (pair_in s 0) || b)) (le-ltb (pair_key (pair_in s 0)) 0 (omega arith))
pair-by-key s (suc i) =
    ap (λ (b : Bool). refuse 26 (bad_pair (vertex_count s) (pair_in s (suc i)) || b)) (later (pair_key (pair_in s i)) (pair_key (pair_in s (suc i))))

module _ (s : List ℕ) (n at i : ℕ) (vertices : n ≡ vertex_count s) (place : at ≡ pair_start s i) where
  pair-here : pair_from s at ≡ pair_in s i
  pair-here = ap (pair_from s) place

  pub pair-fault-here : (least fault : ℕ) → least ≡ least_pair s i → fault ≡ pair_key_fault n least (pair_from s at) → fault ≡ pair_fault s i
  pair-fault-here least fault l f =
      f ∙ ap (λ (k : ℕ). pair_key_fault k least (pair_from s at)) vertices ∙ ap₂ (pair_key_fault (vertex_count s)) l pair-here ∙ pair-by-key s i

  pub least-pair-next : (k : ℕ) → k ≡ pair_key (pair_from s at) → k + 1 ≡ least_pair s (i + 1)
  unfolding least_pair
  least-pair-next k e = rw (add-one i) (ap (λ (j : ℕ). j + 1) (e ∙ ap pair_key pair-here))

-- The faults of the first vertices: one vertex more, and the first at fault.
module _ (s : List ℕ) (w : ℕ) (none : query_days_fault s w ≡ 0) where
  pub days-next : first_in s w ≤ last_in s w → query_days_fault s (w + 1) ≡ 0
  unfolding query_days_fault
  days-next h = first_next (day_fault s) w none (zero-refuse 25 _ (le-ltb (last_in s w) (first_in s w) h))

  pub days-stop : (n : ℕ) → w < n → last_in s w < first_in s w → query_days_fault s n ≡ 25
  unfolding query_days_fault
  days-stop n l h =
      let here : day_fault s w ≡ 25 = ap (refuse 25) (lt-ltb (last_in s w) (first_in s w) h) in
      first-stop (day_fault s) n w l none (λ z. eqb-false 25 0 refl (sym here ∙ z)) ∙ here

-- The faults of the first edges: one edge more, and the first edge at fault.
pub edges-next : (s : List ℕ) (i : ℕ) → query_edges_fault s i ≡ 0 → edge_fault s i ≡ 0 → query_edges_fault s (i + 1) ≡ 0
unfolding query_edges_fault
edges-next s i = first_next (edge_fault s) i

pub edges-stop : (s : List ℕ) (m i : ℕ) → i < m → query_edges_fault s i ≡ 0 → (edge_fault s i ≡ 0 → ⊥) → query_edges_fault s m ≡ edge_fault s i
unfolding query_edges_fault
edges-stop s m i = first-stop (edge_fault s) m i

-- And those of the first pairs.
pub pairs_next : (s : List ℕ) (i : ℕ) → query_pairs_fault s i ≡ 0 → pair_fault s i ≡ 0 → query_pairs_fault s (i + 1) ≡ 0
unfolding query_pairs_fault
pairs_next s i = first_next (pair_fault s) i

pub pairs-stop : (s : List ℕ) (k i : ℕ) → i < k → query_pairs_fault s i ≡ 0 → (pair_fault s i ≡ 0 → ⊥) → query_pairs_fault s k ≡ pair_fault s i
unfolding query_pairs_fault
pairs-stop s k i = first-stop (pair_fault s) k i

-- Read query's refusal: the first fault of the file, then 11.
query-parts : (s : List ℕ) → query_fault s ≡ first (query_file_fault s ∷ refuse 11 (not (connected (query_of s))) ∷ [])
unfolding query_fault query_file_fault sizes_fault query_days_fault query_edges_fault query_pairs_fault
query-parts s =
    regroup _ _ _ _ _ _ _ (map (day_fault s) (range (vertex_count s))) (map (edge_fault s) (range (edge_count s))) (map (pair_fault s) (range (pair_count s)))
  where
    regroup : (a b l c d e f : ℕ) (ds es ps : List ℕ)
        → first (a ∷ b ∷ l ∷ c ∷ d ∷ e ∷ (ds ++ (es ++ (ps ++ (f ∷ [])))))
        ≡ first (first (a ∷ b ∷ first (l ∷ first (c ∷ d ∷ e ∷ []) ∷ []) ∷ first ds ∷ first es ∷ first ps ∷ []) ∷ f ∷ [])
    regroup a b l c d e f ds es ps =
        let size = first (c ∷ d ∷ e ∷ []) in
        let after-edges = first_group es (ps ++ (f ∷ [])) ∙ first-after (first es) _ _ (first_group ps (f ∷ [])) in
        let after-size = first_group ds (es ++ (ps ++ (f ∷ []))) ∙ first-after (first ds) _ _ after-edges in
        let rest = first ds ∷ first es ∷ first ps ∷ f ∷ [] in
        let sizes = first-after l _ _ (first_group (c ∷ d ∷ e ∷ []) (ds ++ (es ++ (ps ++ (f ∷ [])))) ∙ first-after size _ _ after-size) ∙ first_group (l ∷ size ∷ []) rest in
        first-after a _ _ (first-after b _ _ sizes) ∙ first_group (a ∷ b ∷ first (l ∷ size ∷ []) ∷ first ds ∷ first es ∷ first ps ∷ []) (f ∷ [])

pub query-first : (s : List ℕ) → (query_file_fault s ≡ 0 → ⊥) → query_fault s ≡ query_file_fault s
query-first s d = query-parts s ∙ first_some (query_file_fault s) _ d

pub query-last : (s : List ℕ) → query_file_fault s ≡ 0 → query_fault s ≡ refuse 11 (not (connected (query_of s)))
query-last s e = query-parts s ∙ first-cons (query_file_fault s) _ e ∙ first_one (refuse 11 (not (connected (query_of s))))

-- The faults of a file of two bytes or more, one after the other: 8, then 6 and 7, then 25, then 9 and 10, then 26.
module _ (s : List ℕ) where
  pub short-first : length s < 2 → query_file_fault s ≡ 6
  unfolding query_file_fault first
  short-first h = rw (lt-ltb (length s) 2 h) refl

  abbrev items : List ℕ
  items = query_days_fault s (vertex_count s) ∷ query_edges_fault s (edge_count s) ∷ query_pairs_fault s (pair_count s) ∷ []

  module _ (long : 2 ≤ length s) where
    after-short : query_file_fault s ≡ first (refuse 8 (outside_limits s) ∷ sizes_fault s ∷ items)
    unfolding query_file_fault
    after-short = first-cons (refuse 6 (ltb (length s) 2)) _ (zero-refuse 6 (ltb (length s) 2) (le-ltb (length s) 2 long))

    pub limits-first : (refuse 8 (outside_limits s) ≡ 0 → ⊥) → query_file_fault s ≡ refuse 8 (outside_limits s)
    limits-first d = after-short ∙ first_some (refuse 8 (outside_limits s)) _ d

    module _ (within : outside_limits s ≡ false) where
      after-limits : query_file_fault s ≡ first (sizes_fault s ∷ items)
      after-limits = after-short ∙ first-cons (refuse 8 (outside_limits s)) _ (zero-refuse 8 (outside_limits s) within)

      pub size-first : (sizes_fault s ≡ 0 → ⊥) → query_file_fault s ≡ sizes_fault s
      size-first d = after-limits ∙ first_some (sizes_fault s) _ d

      module _ (sized : sizes_fault s ≡ 0) where
        after-size : query_file_fault s ≡ first items
        after-size = after-limits ∙ first-cons (sizes_fault s) _ sized

        pub days-first : (query_days_fault s (vertex_count s) ≡ 0 → ⊥) → query_file_fault s ≡ query_days_fault s (vertex_count s)
        days-first d = after-size ∙ first_some (query_days_fault s (vertex_count s)) _ d

        module _ (dated : query_days_fault s (vertex_count s) ≡ 0) where
          after-days : query_file_fault s ≡ first (query_edges_fault s (edge_count s) ∷ query_pairs_fault s (pair_count s) ∷ [])
          after-days = after-size ∙ first-cons (query_days_fault s (vertex_count s)) _ dated

          pub edges-first : (query_edges_fault s (edge_count s) ≡ 0 → ⊥) → query_file_fault s ≡ query_edges_fault s (edge_count s)
          edges-first d = after-days ∙ first_some (query_edges_fault s (edge_count s)) _ d

          pub pairs-last : query_edges_fault s (edge_count s) ≡ 0 → query_file_fault s ≡ query_pairs_fault s (pair_count s)
          pairs-last e = after-days ∙ first-cons (query_edges_fault s (edge_count s)) _ e ∙ first_one (query_pairs_fault s (pair_count s))

  -- A file of the size that its bits ask for has them.
  pub size-bits : (b : ℕ) → size_fault s b ≡ 0 → b ≤ bits_in s
  size-bits b e = let long : bytes_for b ≤ length s = ltb-false _ _ (refuse-zero 5 _ (first_head _ _ e)) in omega arith

  -- The faults of the size: 6 up to the pair count, then those of the whole.
  pub counted-first : length s < counted_size s → sizes_fault s ≡ 6
  unfolding sizes_fault first
  counted-first h = rw (lt-ltb (length s) (counted_size s) h) refl

  pub sizes-last : counted_size s ≤ length s → sizes_fault s ≡ size_fault s (pair_start s (pair_count s))
  unfolding sizes_fault
  sizes-last h =
      first-cons (refuse 6 (ltb (length s) (counted_size s))) _ (zero-refuse 6 (ltb (length s) (counted_size s)) (le-ltb (length s) (counted_size s) h))
      ∙ first_one (size_fault s (pair_start s (pair_count s)))

  pub sizes-bits : sizes_fault s ≡ 0 → pair_start s (pair_count s) ≤ bits_in s
  unfolding sizes_fault
  sizes-bits e = size-bits (pair_start s (pair_count s)) (first_head _ [] (first_tail (refuse 6 (ltb (length s) (counted_size s))) _ e))

-- A file without a fault is readable.
pub file-readable : (s : List ℕ) → query_file_fault s ≡ 0 → Readable s
unfolding query_file_fault
file-readable s e =
    let rest : first (refuse 8 (outside_limits s) ∷ sizes_fault s ∷ items s) ≡ 0 = first_tail _ _ e in
    record {
      limits = refuse-zero 7 _ (first_head _ _ rest);
      bits = sizes-bits s (first_head _ _ (first_tail _ _ rest));
    }

pub query_readable : (s : List ℕ) → query_fault s ≡ 0 → Readable s
query_readable s e = file-readable s (first_head (query_file_fault s) _ (sym (query-parts s) ∙ e))

-- An accepted file's query is one that the code's functions take.
pub query_held : (s : List ℕ) → query_fault s ≡ 0 → Held (struct_of (query_of s))
query_held s e = held s (query_readable s e).limits

-- It is connected.
pub query-connected : (s : List ℕ) → query_fault s ≡ 0 → connected (query_of s) ≡ true
query-connected s e = not-false (connected (query_of s)) (refuse-zero 10 _ (first_head _ _ (first_tail (query_file_fault s) _ (sym (query-parts s) ∙ e))))
