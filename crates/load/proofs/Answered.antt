-- What Load answers and leaves in the store, refused and accepted. Assumes nothing.
use mathlib.Core.Path.{◌≡◌, sym, ◌∙◌}
use mathlib.Core.List.{List, ◌++◌}
use Prim.Native.Nat.{ℕ, ◌≤◌}
use lib.ListN.{length, drop}
use borrow.Author.Tests.{ltb-false, ne_eqb}
use Rattle.lists.proofs.Faults.{first_head, first_tail, refuse-zero}
use Rattle.graph.specs.File.{graph_of, graph_fault, vertex_count, edge_count}
use Rattle.graph.specs.Store.{store_of, used_words, store_size, load_fault, load_store}
use Rattle.graph.proofs.Loads.{load_store_lem}
use Rattle.load.specs.Answer.{load_answer}
use Rattle.graph_file.proofs.Refused.{length-edges, store_words}

-- ---- refused

module _ (s store : List ℕ) {r : ℕ} (e : r ≡ load_fault s (length store)) (refused : r ≡ 0 → ⊥) where
  pub answer-refused : record { refusal = r; vertices = 0; edges = 0 } ≡ load_answer s (length store)
  unfolding load_answer
  answer-refused = rw (← e, ne_eqb r 0 refused)

  pub store-refused : store ≡ load_store s store
  unfolding load_store
  store-refused = rw (← e, ne_eqb r 0 refused)

-- ---- accepted

module _ (s store : List ℕ) (e : load_fault s (length store) ≡ 0) where
  pub file-accepted : graph_fault s ≡ 0
  unfolding load_fault
  file-accepted = first_head _ _ e

  -- Its words fit the store.
  pub room-accepted : {n m : ℕ} → n ≡ vertex_count s → m ≡ edge_count s → used_words n m ≤ length store
  unfolding load_fault
  room-accepted vn vm =
      rw (vn, vm, ← (store_words s)) (ltb-false (length store) (store_size (graph_of s)) (refuse-zero 4 _ (first_head _ _ (first_tail _ _ e))))

  module _ {n m : ℕ} (vn : n ≡ vertex_count s) (vm : m ≡ edge_count s) where
    pub answer-accepted : record { refusal = 0; vertices = n; edges = m } ≡ load_answer s (length store)
    unfolding load_answer graph_of
    answer-accepted = rw (e, vn, vm, length-edges s)

    pub store-accepted : {out : List ℕ} → out ≡ store_of (graph_of s) ++ drop (used_words n m) store → out ≡ load_store s store
    store-accepted h = h ∙ rw (vn, vm, ← (store_words s)) (sym (load_store_lem s store e))
