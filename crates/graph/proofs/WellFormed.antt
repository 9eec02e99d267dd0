-- What a well-formed graph is, as facts: the parts of the test `well_formed`, and of an edge. Assumes nothing.
use mathlib.Core.Path.{◌≡◌, refl}
use mathlib.Core.Bool.{Bool, true, false, not, ◌&&◌, ◌||◌}
use mathlib.Core.List.{map}
use Prim.Native.Nat.{ℕ, ◌<◌}
use native.Mathlib.Omega.{arith}
use lib.Dec.{eqb, ltb}
use lib.ListN.{length}
use borrow.Author.Tests.{eqb-true, eq-eqb, eqb-false, ne_eqb, ltb-true, lt-ltb}
use Rattle.lists.specs.Lists.{all, ascending}
use Rattle.lists.proofs.Tests.{and_l, and_r, clash}
use Rattle.graph.specs.Graph.{Edge, Graph, forward, key}
use Rattle.graph.specs.File.{bad_edge}
use Rattle.graph.specs.Store.{well_formed}

ruleset conj = (and_l, and_r)

-- An edge of a graph of n vertices: the test that `well_formed` makes of each, and the facts that it stands for.
abbrev pub fitting : ℕ → Edge → Bool
fitting n e = not (bad_edge n e) && ltb e.label 256

pub record Fitting (n : ℕ) (e : Edge) : Type 0 where
  pub source_in : e.source < n
  pub target_in : e.target < n
  pub label_given : 0 < e.label
  pub label_fits : e.label < 256

pub fitting-edge : (n : ℕ) (e : Edge) → fitting n e ≡ true → Fitting n e
fitting-edge n e t =
    let p : (ltb e.source n ≡ true) × (ltb e.target n ≡ true) × (eqb e.label 0 ≡ false) × (ltb e.label 256 ≡ true) =
    parts (ltb e.source n) (ltb e.target n) (eqb e.label 0) (ltb e.label 256) t in
    let labelled : (e.label ≡ 0 → ⊥) = eqb-false e.label 0 p.2 in
    record {
      source_in = ltb-true e.source n p.0;
      target_in = ltb-true e.target n p.1;
      label_given = omega (arith, labelled);
      label_fits = ltb-true e.label 256 p.3;
    }
  where
    parts : (a b c d : Bool) → (not (not (a && b) || c) && d) ≡ true → (a ≡ true) × (b ≡ true) × (c ≡ false) × (d ≡ true)
    parts true true true d i = clash i refl
    parts true true false d i = (refl, refl, refl, i)
    parts true false c d i = clash i refl
    parts false b c d i = clash i refl

pub edge-fitting : (n : ℕ) (e : Edge) → Fitting n e → fitting n e ≡ true
edge-fitting n e f =
    rw (
      lt-ltb e.source n f.source_in,
      lt-ltb e.target n f.target_in,
      ne_eqb e.label 0 (λ i. omega arith),
      lt-ltb e.label 256 f.label_fits,
    )

-- A label and a day a vertex.
abbrev pub Described : Graph → Type 0
Described g = (length g.labels ≡ g.vertices) × (length g.days ≡ g.vertices)

-- The parts of `well_formed`.
pub record WellFormed (g : Graph) : Type 0 where
  pub few_vertices : g.vertices < 65536
  pub few_edges : length g.edges < 1048576
  pub described : Described g
  pub labels-fit : all (λ (l : ℕ). ltb l 65536) g.labels ≡ true
  pub days-fit : all (λ (t : ℕ). ltb t 65536) g.days ≡ true
  pub edges_fit : all (fitting g.vertices) g.edges ≡ true
  pub edges_ascend : ascending (map (key forward) g.edges) ≡ true

pub well-formed : (g : Graph) → well_formed g ≡ true → WellFormed g
unfolding well_formed
well-formed g t =
    record {
      few_vertices = ltb-true g.vertices 65536 (search conj depth 8);
      few_edges = ltb-true (length g.edges) 1048576 (search conj depth 8);
      described = (eqb-true (length g.labels) g.vertices (search conj depth 8), eqb-true (length g.days) g.vertices (search conj));
      labels-fit = search conj depth 8;
      days-fit = search conj depth 8;
      edges_fit = search conj depth 8;
      edges_ascend = search conj depth 8;
    }

pub formed-well : (g : Graph) → WellFormed g → well_formed g ≡ true
unfolding well_formed
formed-well g w =
    rw (
      lt-ltb g.vertices 65536 w.few_vertices,
      lt-ltb (length g.edges) 1048576 w.few_edges,
      eq-eqb (length g.labels) g.vertices w.described.0,
      w.labels-fit,
      eq-eqb (length g.days) g.vertices w.described.1,
      w.days-fit,
      w.edges_fit,
    ) w.edges_ascend
