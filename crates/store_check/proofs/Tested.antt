-- A store that is not refused passes every test of the check. Assumes nothing.
use mathlib.Core.Path.{◌≡◌, sym, ◌∙◌, ap, ap₂, subst}
use mathlib.Core.Bool.{true, ◌&&◌}
use mathlib.Core.List.{List}
use Prim.Native.Nat.{ℕ, suc, ◌+◌, ◌%◌, ◌≤◌, ◌<◌}
use native.Mathlib.Omega.{arith}
use lib.Dec.{eqb, ltb}
use lib.ListN.{length, get_or}
use borrow.Author.Tests.{eqb-true, ltb-true, lt-ltb, le-ltb}
use Rattle.lists.specs.Lists.{◌implies◌, all, ascends_from}
use Rattle.lists.proofs.Tests.{and_both, imp_intro, eqb_refl}
use Rattle.lists.proofs.All.{all-mem, mem-all, mem-any, all-range, all-follows, all_under, all-and}
use Rattle.lists.proofs.Count.{count_none, count-all}
use Rattle.lists.proofs.Sort.{ascends-from}
use Rattle.graph.specs.Graph.{Edge, Graph, Direction, forward, backward, near, entry}
use Rattle.graph.specs.Store.{used_words, graph_in, store_fault}
use Rattle.graph.proofs.WellFormed.{WellFormed, fitting}
use Rattle.graph.proofs.Keys.{near-in, far-in}
use Rattle.adjacency.specs.Inner.Side.{vertices_in, edges_in, side_in}
use Rattle.store_reverse.specs.Inner.Check.{counts_fit, labels_fit, days_fit, offsets_fit, offsets_on, list_fits, side_fits, reverse, list_reversed, side_reversed}
use Rattle.adjacency.specs.Inner.Portion.{list_of, member}
use Rattle.store_check.proofs.Counting.{fit-counts}
use Rattle.adjacency.proofs.Listed.{list_all, list_any, list_ascends, entries-given, entries_fit, entries-in}
use Rattle.adjacency.proofs.Accepted.{side-ends, graph-formed, store_length, store-edges, offset-in, list-within, list_on_lem}
use Rattle.store_reverse.proofs.Offsets.{Rising, rising-offsets}
use Rattle.store_check.proofs.Spelt.{Passed, list_to}

module _ (g : Graph) (w : WellFormed g) (d : Direction) (v : ℕ) where
  -- A vertex's list fits.
  list-fits : list_fits g.vertices (list_of d g v) ≡ true
  unfolding list_fits
  list-fits =
      and_both (ascends_from 65535 (list_of d g v)) (all (λ (k : ℕ). ltb k 16777216 && ltb (k % 65536) g.vertices) (list_of d g v))
      (ascends-from 65535 (list_of d g v) (list_ascends g w d v) (entries-given g w d v))
      (all-and (λ (k : ℕ). ltb k 16777216) (λ (k : ℕ). ltb (k % 65536) g.vertices) (list_of d g v)
      ∙ and_both (all (λ (k : ℕ). ltb k 16777216) (list_of d g v)) (all (λ (k : ℕ). ltb (k % 65536) g.vertices) (list_of d g v))
      (entries_fit g w d v) (entries-in g w d v))

-- And each forward entry is reversed: the reverse of an edge's forward entry is its backward one.
list-reversed : (g : Graph) → WellFormed g → (v : ℕ)
    → all (λ (k : ℕ). member (reverse v k) (list_of backward g (k % 65536))) (list_of forward g v) ≡ true
list-reversed g w v =
    list_all (λ (k : ℕ). member (reverse v k) (list_of backward g (k % 65536))) forward g v
    ∙ all-mem (λ (e : Edge). eqb e.source v implies member (reverse v (entry forward e)) (list_of backward g (entry forward e % 65536))) g.edges
    (λ e i. imp_intro (eqb e.source v) (member (reverse v (entry forward e)) (list_of backward g (entry forward e % 65536)))
    (λ t.
    let l : e.target < 65536 = omega (arith, far-in g w forward e (mem-all (fitting g.vertices) i w.edges_fit), w.few_vertices) in
    let a : entry forward e % 65536 ≡ e.target = omega arith in
    let b : reverse v (entry forward e) ≡ entry backward e = omega (arith, eqb-true e.source v t) in
    ap₂ (λ (j x : ℕ). member j (list_of backward g x)) b a
    ∙ list_any (λ (j : ℕ). eqb j (entry backward e)) backward g e.target
    ∙ mem-any (λ (o : Edge). eqb o.target e.target && eqb (entry backward o) (entry backward e)) i
    (and_both (eqb e.target e.target) (eqb (entry backward e) (entry backward e)) (eqb_refl e.target) (eqb_refl (entry backward e)))))

module _ (store : List ℕ) (accepted : store_fault store ≡ 0) where
  abbrev g : Graph
  g = graph_in store

  formed : WellFormed g
  formed = graph-formed store accepted

  used : used_words (vertices_in store) (edges_in store) ≤ length store
  unfolding graph_in
  used = rw (store-edges store accepted) (store_length store accepted)

  counts-pass : counts_fit store ≡ true
  unfolding graph_in
  counts-pass =
      fit-counts store
      (record { named = omega (arith, used); few_vertices = formed.few_vertices; few_edges = rw (store-edges store accepted) formed.few_edges; room = used })

  -- The offsets of a direction rise from 0 to M.
  offsets-rise : (d : Direction) → Rising (edges_in store) (vertices_in store) (λ (v : ℕ). get_or store (side_in d store + v) 0)
  unfolding graph_in
  offsets-rise d =
      record {
        starts =
            offset-in store accepted d 0 (omega arith)
            ∙ count_none (λ (e : Edge). ltb (near d e) 0) g.edges (λ e. le-ltb (near d e) 0 (omega arith));
        rises =
            λ v h.
            subst (λ (k : ℕ). get_or store (side_in d store + v) 0 ≤ get_or store k 0)
            (let e : side_in d store + v + 1 ≡ side_in d store + suc v = omega arith in e) (list-within store accepted d v h).rises;
        ends =
            offset-in store accepted d (vertices_in store) (omega arith)
            ∙ count-all (λ (e : Edge). ltb (near d e) (vertices_in store)) g.edges
            (all-follows (fitting (vertices_in store)) (λ (e : Edge). ltb (near d e) (vertices_in store)) g.edges formed.edges_fit
            (λ e t. lt-ltb (near d e) (vertices_in store) (near-in g formed d e t)))
            ∙ sym (store-edges store accepted);
      }

  pub accepted-passed : Passed store
  unfolding labels_fit days_fit side_fits side_reversed list_reversed graph_in
  accepted-passed =
      record {
        counts = counts-pass;
        labels = formed.labels-fit;
        days = formed.days-fit;
        sides =
            λ d.
            and_both (offsets_fit (edges_in store) (offsets_on store (vertices_in store) (side_in d store))) (side_fits store (vertices_in store) (side_in d store))
            (rising-offsets store (vertices_in store) (edges_in store) (side_in d store)
            (omega (arith, used, side-ends d (vertices_in store) (edges_in store))) (offsets-rise d))
            (all-range (λ (v : ℕ). list_fits (vertices_in store) (list_to store d v)) (vertices_in store)
            (λ v h. ap (list_fits (vertices_in store)) (list_on_lem store accepted d v h) ∙ list-fits g formed d v));
        reverses =
            all-range (λ (v : ℕ). list_reversed store (vertices_in store) (side_in backward store) v (list_to store forward v)) (vertices_in store)
            (λ v h.
            ap (all (λ (k : ℕ). member (reverse v k) (list_to store backward (k % 65536)))) (list_on_lem store accepted forward v h)
            ∙ all_under (λ (k : ℕ). ltb (k % 65536) (vertices_in store)) (λ (k : ℕ). member (reverse v k) (list_to store backward (k % 65536)))
            (λ (k : ℕ). member (reverse v k) (list_of backward g (k % 65536))) (list_of forward g v) (entries-in g formed forward v)
            (λ k t. ap (member (reverse v k)) (list_on_lem store accepted backward (k % 65536) (ltb-true (k % 65536) (vertices_in store) t)))
            ∙ list-reversed g formed v);
      }
