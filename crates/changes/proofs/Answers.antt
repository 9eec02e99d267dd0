-- The refusals in their order, and what is answered and left, refused and accepted. Assumes nothing.
use mathlib.Core.Path.{◌≡◌, sym, ◌∙◌, ap, ap₂}
use mathlib.Core.List.{List, [], ◌∷◌, ◌++◌}
use Prim.Native.Nat.{ℕ, ◌+◌, ◌*◌, ◌≤◌, ◌<◌}
use native.Mathlib.Omega.{arith}
use lib.Dec.{ltb}
use lib.ListN.{length, drop}
use borrow.Author.Tests.{lt-ltb, le-ltb, ltb-false, ne_eqb}
use Rattle.lists.specs.Lists.{range, count_if}
use Rattle.lists.specs.Refusal.{refuse, first}
use Rattle.lists.proofs.Count.{count_map}
use Rattle.lists.proofs.Maps.{length-image}
use Rattle.lists.proofs.Faults.{first_head, first_tail, first-cons, first_some, refuse-zero}
use Rattle.graph.specs.Store.{graph_in, store_fault, store_of, store_size, used_words}
use Rattle.adjacency.specs.Inner.Side.{vertices_in, edges_in}
use Rattle.adjacency.proofs.Accepted.{graph-formed, store-vertices, store-edges}
use Rattle.change_file.specs.File.{Change, change_count, adds_in, changes_of, change_fault}
use Rattle.changes.specs.Edit.{edit_fault, edited_graph, apply_changes, apply_fault, apply_answer, changed_store}
use Rattle.change_file.specs.Inner.Reading.{Sized}
use Rattle.changes.specs.Inner.Fill.{Accepted}
use Rattle.changes.proofs.EditedGraph.{applied-size}
use Rattle.changes.proofs.Present.{change_at, file-sized}
use Rattle.changes.proofs.Filled.{applied-parts}

-- What is known after 19, 27 and 28.
pub record Tested (old : List ℕ) (n m : ℕ) (s : List ℕ) (k : ℕ) : Type 0 where
  pub store : store_fault old ≡ 0
  pub vertices : n ≡ vertices_in old
  pub edges : m ≡ edges_in old
  pub file : change_fault n s ≡ 0
  pub changes : k ≡ change_count s
  pub edits : edit_fault (graph_in old) (changes_of s) ≡ 0

pub tested-by : {old : List ℕ} {n m : ℕ} {s : List ℕ} {k : ℕ} → store_fault old ≡ 0 → n ≡ vertices_in old → m ≡ edges_in old → change_fault n s ≡ 0 → k ≡ change_count s
    → edit_fault (graph_in old) (changes_of s) ≡ 0 → Tested old n m s k
tested-by a b c d e f = record { store = a; vertices = b; edges = c; file = d; changes = e; edits = f }

module _ (old s : List ℕ) (room : ℕ) where
  pub fault-store : {r : ℕ} → r ≡ store_fault old → (r ≡ 0 → ⊥) → r ≡ apply_fault old s room
  unfolding apply_fault
  fault-store e n = e ∙ sym (first_some (store_fault old) _ (λ z. n (e ∙ z)))

  module _ (a : store_fault old ≡ 0) {n : ℕ} (v : n ≡ vertices_in old) where
    n-is : n ≡ (graph_in old).vertices
    n-is = v ∙ store-vertices old a

    pub fault-file : {r : ℕ} → r ≡ change_fault n s → (r ≡ 0 → ⊥) → r ≡ apply_fault old s room
    unfolding apply_fault
    fault-file e z =
        e ∙ ap (λ (x : ℕ). change_fault x s) n-is
        ∙ sym (first-cons (store_fault old) _ a ∙ first_some (change_fault (graph_in old).vertices s) _ (λ y. z (e ∙ ap (λ (x : ℕ). change_fault x s) n-is ∙ y)))

    module _ (b : change_fault n s ≡ 0) where
      clean : change_fault (graph_in old).vertices s ≡ 0
      clean = ap (λ (x : ℕ). change_fault x s) (sym n-is) ∙ b

      pub fault-edits : {r : ℕ} → r ≡ edit_fault (graph_in old) (changes_of s) → (r ≡ 0 → ⊥) → r ≡ apply_fault old s room
      unfolding apply_fault
      fault-edits e z =
          e ∙ sym (first-cons (store_fault old) _ a ∙ first-cons (change_fault (graph_in old).vertices s) _ clean ∙ first_some (edit_fault (graph_in old) (changes_of s)) _ (λ y. z (e ∙ y)))

  module _ {n m k : ℕ} (t : Tested old n m s k) where
    last : List ℕ
    last = refuse 29 (ltb 1048575 (length (edited_graph old s).edges)) ∷ refuse 5 (ltb room (store_size (edited_graph old s))) ∷ []

    to_last : apply_fault old s room ≡ first last
    unfolding apply_fault last
    to_last =
        first-cons (store_fault old) _ t.store
        ∙ first-cons (change_fault (graph_in old).vertices s) _ (ap (λ (x : ℕ). change_fault x s) (sym (t.vertices ∙ store-vertices old t.store)) ∙ t.file)
        ∙ first-cons (edit_fault (graph_in old) (changes_of s)) _ t.edits

    module _ {e : ℕ} (q : e ≡ length (edited_graph old s).edges) where
      size_is : store_size (edited_graph old s) ≡ used_words n e
      unfolding apply_changes
      size_is = ap₂ used_words (sym (t.vertices ∙ store-vertices old t.store)) (sym q)

      last_is : apply_fault old s room ≡ first (refuse 29 (ltb 1048575 e) ∷ refuse 5 (ltb room (used_words n e)) ∷ [])
      unfolding last
      last_is = to_last ∙ ap₂ (λ (x y : ℕ). first (refuse 29 (ltb 1048575 x) ∷ refuse 5 (ltb room y) ∷ [])) (sym q) size_is

      pub fault-many : 1048575 < e → 29 ≡ apply_fault old s room
      unfolding first
      fault-many l = sym (last_is ∙ rw (lt-ltb 1048575 e l))

      pub fault-room : e ≤ 1048575 → room < used_words n e → 5 ≡ apply_fault old s room
      unfolding first
      fault-room l r = sym (last_is ∙ rw (le-ltb 1048575 e l, lt-ltb room (used_words n e) r))

      pub fault-none : e ≤ 1048575 → used_words n e ≤ room → 0 ≡ apply_fault old s room
      unfolding first
      fault-none l r = sym (last_is ∙ rw (le-ltb 1048575 e l, le-ltb room (used_words n e) r))

-- ---- how many edges there are

module _ {old : List ℕ} {n m : ℕ} {s : List ℕ} {k : ℕ} (t : Tested old n m s k) where
  pub tested-sized : Sized s
  tested-sized = file-sized n s t.file

  pub few_edges : m < 1048576
  few_edges = omega (arith, t.edges, store-edges old t.store, (graph-formed old t.store).few_edges)

  size : length (edited_graph old s).edges + k ≡ m + 2 * count_if (adds_in s) (range k)
  unfolding changes_of
  size =
      omega (
        arith,
        applied-size (graph_in old) (changes_of s) (applied-parts old n s t.store t.vertices t.file t.edits),
        length-image (change_at s) (change_count s),
        t.changes,
        t.edges,
        store-edges old t.store,
        count_map (λ (c : Change). c.adds) (change_at s) (range (change_count s)),
        ap (λ (j : ℕ). count_if (adds_in s) (range j)) t.changes,
      )

  pub enough-edges : k ≤ m + 2 * count_if (adds_in s) (range k)
  enough-edges = omega (arith, size)

  pub edges_are : {e : ℕ} → e + k ≡ m + 2 * count_if (adds_in s) (range k) → e ≡ length (edited_graph old s).edges
  edges_are q = omega (arith, size)

-- ---- accepted

-- The parts of an accepted call.
module _ (old s : List ℕ) (room : ℕ) (z : apply_fault old s room ≡ 0) where
  pub accepted-store : store_fault old ≡ 0
  unfolding apply_fault
  accepted-store = first_head _ _ z

  module _ {n : ℕ} (v : n ≡ vertices_in old) where
    pub accepted-file : change_fault n s ≡ 0
    unfolding apply_fault
    accepted-file = ap (λ (x : ℕ). change_fault x s) (v ∙ store-vertices old accepted-store) ∙ first_head _ _ (first_tail _ _ z)

    pub accepted-long : 3 ≤ length s
    accepted-long = omega (arith, (file-sized n s accepted-file).there)

    module _ {m k : ℕ} (e : m ≡ edges_in old) (c : k ≡ change_count s) where
      pub accepted-tested : Tested old n m s k
      unfolding apply_fault
      accepted-tested =
          record {
            store = accepted-store;
            vertices = v;
            edges = e;
            file = accepted-file;
            changes = c;
            edits = first_head _ _ (first_tail _ _ (first_tail _ _ z));
          }

      pub accepted-all : Accepted old n s k
      unfolding apply_fault
      accepted-all =
          record {
            store = accepted-store;
            vertices = v;
            file = accepted-file;
            changes = c;
            edits = accepted-tested.edits;
            few =
                let l : length (edited_graph old s).edges ≤ 1048575 = ltb-false 1048575 (length (edited_graph old s).edges) (refuse-zero 28 _ (first_head _ _ (first_tail _ _ (first_tail _ _ (first_tail _ _ z))))) in
                omega arith;
          }

      module _ {x : ℕ} (q : x ≡ length (edited_graph old s).edges) where
        words_are : store_size (edited_graph old s) ≡ used_words n x
        unfolding apply_changes
        words_are = ap₂ used_words (sym (v ∙ store-vertices old accepted-store)) (sym q)

        pub accepted-room : used_words n x ≤ room
        unfolding apply_fault
        accepted-room =
            rw (← words_are)
            (ltb-false room (store_size (edited_graph old s)) (refuse-zero 4 _ (first_head _ _ (first_tail _ _ (first_tail _ _ (first_tail _ _ (first_tail _ _ z)))))))

        pub answer-accepted : record { refusal = 0; vertices = n; edges = x } ≡ apply_answer old s room
        unfolding apply_answer apply_changes
        answer-accepted =
            rw (z)
            (λ i. record { refusal = 0; vertices = (v ∙ store-vertices old accepted-store) i; edges = q i })

pub store-accepted : (old s store : List ℕ) (z : apply_fault old s (length store) ≡ 0) {n : ℕ} (v : n ≡ vertices_in old) {x : ℕ} (q : x ≡ length (edited_graph old s).edges)
    → {out : List ℕ} → out ≡ store_of (edited_graph old s) ++ drop (used_words n x) store → out ≡ changed_store old s store
unfolding changed_store apply_changes
store-accepted old s store z {n} v {x} q e =
    e ∙ ap (λ (p : ℕ). store_of (edited_graph old s) ++ drop p store) (ap₂ used_words (v ∙ store-vertices old (accepted-store old s (length store) z)) q) ∙ rw (z)

-- ---- refused

module _ (old s store : List ℕ) {r : ℕ} (e : r ≡ apply_fault old s (length store)) (refused : r ≡ 0 → ⊥) where
  pub answer-refused : record { refusal = r; vertices = 0; edges = 0 } ≡ apply_answer old s (length store)
  unfolding apply_answer
  answer-refused = rw (← e, ne_eqb r 0 refused)

  pub store-refused : store ≡ changed_store old s store
  unfolding changed_store
  store-refused = rw (← e, ne_eqb r 0 refused)

-- ---- in words of the edited graph

pub size_fits : (old s : List ℕ) (room : ℕ) → apply_fault old s room ≡ 0 → store_size (edited_graph old s) ≤ room
unfolding apply_fault
size_fits old s room z =
    ltb-false room (store_size (edited_graph old s)) (refuse-zero 4 _ (first_head _ _ (first_tail _ _ (first_tail _ _ (first_tail _ _ (first_tail _ _ z))))))

pub store_is : (old s store : List ℕ) → apply_fault old s (length store) ≡ 0
    → store_of (edited_graph old s) ++ drop (store_size (edited_graph old s)) store ≡ changed_store old s store
unfolding changed_store
store_is old s store z = rw (z)
