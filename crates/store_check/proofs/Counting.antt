-- What it says of a store that its counts fit. Assumes nothing.
use mathlib.Core.Path.{◌≡◌, sym, ◌∙◌, subst}
use mathlib.Core.Bool.{Bool, true, false}
use mathlib.Core.List.{List}
use Prim.Native.Nat.{ℕ, ◌+◌, ◌≤◌, ◌<◌}
use native.Mathlib.Omega.{arith}
use lib.Dec.{leb}
use lib.ListN.{length}
use borrow.Author.Tests.{ltb-true, lt-ltb, leb-true, le-leb}
use Rattle.lists.proofs.Tests.{and_l, and_r, fails}
use Rattle.graph.specs.Graph.{forward, backward}
use Rattle.graph.specs.Store.{used_words}
use Rattle.adjacency.specs.Inner.Side.{vertices_in, edges_in, side_in}
use Rattle.store_reverse.specs.Inner.Check.{counts_fit, Counted}
use Rattle.adjacency.proofs.Accepted.{side-ends}

ruleset conj = (and_l, and_r)

pub record Counts (store : List ℕ) : Type 0 where
  pub named : 2 ≤ length store
  pub few_vertices : vertices_in store < 65536
  pub few_edges : edges_in store < 1048576
  pub room : used_words (vertices_in store) (edges_in store) ≤ length store

pub counts-fit : (store : List ℕ) → counts_fit store ≡ true → Counts store
unfolding counts_fit
counts-fit store e =
    record {
      named = leb-true 2 (length store) (search conj);
      few_vertices = ltb-true (vertices_in store) 65536 (search conj);
      few_edges = ltb-true (edges_in store) 1048576 (search conj);
      room = leb-true (used_words (vertices_in store) (edges_in store)) (length store) (search conj);
    }

pub fit-counts : (store : List ℕ) → Counts store → counts_fit store ≡ true
unfolding counts_fit
fit-counts store k =
    rw (
      le-leb 2 (length store) k.named,
      lt-ltb (vertices_in store) 65536 k.few_vertices,
      lt-ltb (edges_in store) 1048576 k.few_edges,
      le-leb (used_words (vertices_in store) (edges_in store)) (length store) k.room,
    )

-- The answers of the test.
pub counts-passed : (store : List ℕ) {r : Bool} → r ≡ counts_fit store → r ≡ true → Counts store
counts-passed store e z = counts-fit store (sym e ∙ z)

-- Where the counts are within their limits, the words decide.
pub counts-decide : (store : List ℕ) {words : ℕ} → words ≡ used_words (vertices_in store) (edges_in store) → 2 ≤ length store → vertices_in store < 65536
    → edges_in store < 1048576 → leb words (length store) ≡ counts_fit store
unfolding counts_fit
counts-decide store e a b c = rw (e, le-leb 2 (length store) a, lt-ltb (vertices_in store) 65536 b, lt-ltb (edges_in store) 1048576 c)

pub counts-refused : (store : List ℕ) → (Counts store → ⊥) → false ≡ counts_fit store
counts-refused store f = sym (fails (counts_fit store) (λ t. f (counts-fit store t)))

module _ {store : List ℕ} {n m one two : ℕ} (k : Counted store n m one two) where
  -- What holds of the counts and of where the sides begin holds of what stands for them.
  pub counted-as : (P : ℕ → ℕ → ℕ → ℕ → Type 0) → P (vertices_in store) (edges_in store) (side_in forward store) (side_in backward store) → P n m one two
  counted-as P x =
      subst (λ (a : ℕ). P a m one two) (sym k.vertices)
      (subst (λ (b : ℕ). P (vertices_in store) b one two) (sym k.edges)
      (subst (λ (c : ℕ). P (vertices_in store) (edges_in store) c two) (sym k.forward_at)
      (subst (λ (d : ℕ). P (vertices_in store) (edges_in store) (side_in forward store) d) (sym k.backward_at) x)))

  pub counted-few : n < 65536
  counted-few = omega (arith, (counts-fit store k.counts).few_vertices, k.vertices)

  pub counted-edges : m < 1048576
  counted-edges = omega (arith, (counts-fit store k.counts).few_edges, k.edges)

  -- Both sides lie in the store.
  pub forward-room : one + n + 1 + m ≤ length store
  forward-room =
      counted-as (λ (a b c d : ℕ). c + a + 1 + b ≤ length store)
      (omega (arith, side-ends forward (vertices_in store) (edges_in store), (counts-fit store k.counts).room))

  pub backward-room : two + n + 1 + m ≤ length store
  backward-room =
      counted-as (λ (a b c d : ℕ). d + a + 1 + b ≤ length store)
      (omega (arith, side-ends backward (vertices_in store) (edges_in store), (counts-fit store k.counts).room))
