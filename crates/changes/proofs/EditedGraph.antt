-- The edited graph is well-formed, and its edges are the toggled ones. Assumes nothing.
use mathlib.Core.Path.{◌≡◌, ◌∙◌, ap}
use mathlib.Core.Bool.{Bool, true}
use mathlib.Core.List.{List, map, map-map, map-id}
use Prim.Native.Nat.{ℕ, ◌+◌, ◌*◌, ◌<◌}
use native.Mathlib.Omega.{arith}
use lib.ListN.{length, length-map}
use Rattle.lists.specs.Lists.{all, ascending}
use Rattle.lists.proofs.All.{all-follows}
use Rattle.lists.proofs.Count.{all_map}
use Rattle.graph.specs.Graph.{Edge, Graph, forward, key}
use Rattle.graph.proofs.WellFormed.{WellFormed, fitting}
use Rattle.graph.proofs.Keys.{key-entry, key-near, edge-of}
use Rattle.change_file.specs.File.{Change}
use Rattle.changes.specs.Edit.{change_key, key_edge, keys_of, edited_keys, apply_changes, applies}
use Rattle.change_merge.specs.Inner.Toggle.{toggled}
use Rattle.change_merge.proofs.Toggles.{all-toggled, ascending-toggled}
use Rattle.changes.proofs.Edited.{additions, edited-toggled, edited-size}

-- A key tells its edge, and an edge that fits is the one that its key tells.
pub edge-key : (k : ℕ) → key forward (key_edge k) ≡ k
edge-key k = omega arith

pub key-edge : (g : Graph) → WellFormed g → (e : Edge) → fitting g.vertices e ≡ true → key_edge (key forward e) ≡ e
key-edge g w e t = rw (key-near g w forward e t, key-entry g w forward e t) (edge-of g w e t)

-- The keys of n vertices' edges.
abbrev pub fit_key : ℕ → ℕ → Bool
fit_key n k = fitting n (key_edge k)

-- What is asked of changes to a graph.
pub record Applied (g : Graph) (cs : List Change) : Type 0 where
  pub formed : WellFormed g
  pub changes_fit : all (λ (c : Change). fitting g.vertices c.edge) cs ≡ true
  pub changes_ascend : ascending (map change_key cs) ≡ true
  pub all_apply : all (applies (keys_of g)) cs ≡ true

module _ (g : Graph) (cs : List Change) (h : Applied g cs) where
  fit-keys : all (fit_key g.vertices) (keys_of g) ≡ true
  fit-keys =
      all_map (fit_key g.vertices) (key forward) g.edges
      ∙ all-follows (fitting g.vertices) (λ (e : Edge). fit_key g.vertices (key forward e)) g.edges h.formed.edges_fit
      (λ e t. ap (fitting g.vertices) (key-edge g h.formed e t) ∙ t)

  fit-changes : all (fit_key g.vertices) (map change_key cs) ≡ true
  fit-changes =
      all_map (fit_key g.vertices) change_key cs
      ∙ all-follows (λ (c : Change). fitting g.vertices c.edge) (λ (c : Change). fit_key g.vertices (change_key c)) cs h.changes_fit
      (λ c t. ap (fitting g.vertices) (key-edge g h.formed c.edge t) ∙ t)

  pub applied-keys : keys_of (apply_changes g cs) ≡ toggled (keys_of g) (map change_key cs)
  unfolding apply_changes
  applied-keys =
      map-map (key forward) key_edge (edited_keys (keys_of g) cs)
      ∙ simp edge-key (map-id (edited_keys (keys_of g) cs))
      ∙ edited-toggled (keys_of g) h.formed.edges_ascend cs h.changes_ascend h.all_apply

  pub applied-size : length (apply_changes g cs).edges + length cs ≡ length g.edges + 2 * additions cs
  applied-size =
      omega (
        arith,
        length-map (apply_changes g cs).edges (key forward),
        ap length applied-keys,
        edited-size (keys_of g) h.formed.edges_ascend cs h.changes_ascend h.all_apply,
        length-map g.edges (key forward),
      )

  pub applied-formed : length (apply_changes g cs).edges < 1048576 → WellFormed (apply_changes g cs)
  unfolding apply_changes
  applied-formed few =
      record {
        few_vertices = h.formed.few_vertices;
        few_edges = few;
        described = h.formed.described;
        labels-fit = h.formed.labels-fit;
        days-fit = h.formed.days-fit;
        edges_fit =
            all_map (fitting g.vertices) key_edge (edited_keys (keys_of g) cs)
            ∙ ap (all (fit_key g.vertices)) (edited-toggled (keys_of g) h.formed.edges_ascend cs h.changes_ascend h.all_apply)
            ∙ all-toggled (fit_key g.vertices) (keys_of g) (map change_key cs) fit-keys fit-changes;
        edges_ascend = ap ascending applied-keys ∙ ascending-toggled (keys_of g) (map change_key cs) h.formed.edges_ascend;
      }
