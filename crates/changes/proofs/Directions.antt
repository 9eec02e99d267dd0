-- The keys of the edited graph in either direction: those of the old one, toggled by those of the changes. Assumes nothing.
use mathlib.Core.Path.{◌≡◌, sym, ◌∙◌, ap, ap₂}
use mathlib.Core.Bool.{true}
use mathlib.Core.List.{List, map, map-map}
use Prim.Native.Nat.{ℕ, ◌*◌, ◌≤◌, ◌<◌}
use lib.Dec.{eqb, ltb}
use lib.ListN.{length}
use borrow.Author.Tests.{lt-ltb}
use Rattle.lists.specs.Lists.{range, all, count_if, ascending, sort}
use Rattle.lists.proofs.All.{all-follows}
use Rattle.lists.proofs.Count.{all_map}
use Rattle.lists.proofs.Sort.{all-sort, sort-ascending}
use Rattle.graph.specs.Graph.{Edge, Graph, Direction, forward, backward, near, key}
use Rattle.graph.proofs.WellFormed.{fitting}
use Rattle.graph.proofs.Keys.{near-in, key_below, sorted_keys, forward-keys}
use Rattle.change_file.specs.File.{Change, change_count, changed_edge, changes_of}
use Rattle.changes.specs.Edit.{change_key, keys_of, apply_changes}
use Rattle.change_merge.specs.Inner.Toggle.{toggled}
use Rattle.change_merge.specs.Inner.Merge.{change_keys}
use Rattle.changes.proofs.OtherKeys.{other_key, key_fits, others-once, others-ascend, others-toggled, edges-other, edges-fit-keys}
use Rattle.changes.proofs.EditedGraph.{Applied, applied-keys, applied-formed}
use Rattle.changes.proofs.Present.{change_at}

-- The key of a change's edge in a direction.
abbrev pub key_of : Direction → Change → ℕ
key_of d c = key d c.edge

pub keys-listed : (d : Direction) (s : List ℕ) → map (λ (i : ℕ). key d (changed_edge s i)) (range (change_count s)) ≡ map (key_of d) (changes_of s)
unfolding changes_of
keys-listed d s = sym (map-map (key_of d) (change_at s) (range (change_count s)))

pub change-keys : (d : Direction) (s : List ℕ) → change_keys d s ≡ sort (map (key_of d) (changes_of s))
unfolding change_keys
change-keys d s = ap sort (keys-listed d s)

module _ (g : Graph) (cs : List Change) (h : Applied g cs) where
  edges : List Edge
  edges = map (λ (c : Change). c.edge) cs

  edges_fit : all (fitting g.vertices) edges ≡ true
  unfolding edges
  edges_fit = all_map (fitting g.vertices) (λ (c : Change). c.edge) cs ∙ h.changes_fit

  few : g.vertices < 65536
  few = h.formed.few_vertices

  -- The forward keys have 40 bits, and the backward ones are told by them.
  fit-changes : all key_fits (map change_key cs) ≡ true
  unfolding edges
  fit-changes = ap (all key_fits) (sym (map-map (key forward) (λ (c : Change). c.edge) cs)) ∙ edges-fit-keys g.vertices few edges edges_fit

  back-changes : map (key_of backward) cs ≡ map other_key (map change_key cs)
  unfolding edges
  back-changes =
      sym (map-map (key backward) (λ (c : Change). c.edge) cs) ∙ edges-other g.vertices few edges edges_fit
      ∙ ap (map other_key) (map-map (key forward) (λ (c : Change). c.edge) cs)

  pub back-once : (x : ℕ) → count_if (λ (y : ℕ). eqb y x) (map (key_of backward) cs) ≤ 1
  back-once x = rw back-changes (others-once (map change_key cs) fit-changes h.changes_ascend x)

  pub applied-ascend : (d : Direction) → ascending (sort (map (key_of d) cs)) ≡ true
  applied-ascend forward = ap ascending (sort-ascending (map change_key cs) h.changes_ascend) ∙ h.changes_ascend
  applied-ascend backward = ap (λ (l : List ℕ). ascending (sort l)) back-changes ∙ others-ascend (map change_key cs) fit-changes h.changes_ascend

  pub applied-bounded : (d : Direction) → all (λ (k : ℕ). ltb k (g.vertices * 16777216)) (sort (map (key_of d) cs)) ≡ true
  applied-bounded d =
      all-sort (λ (k : ℕ). ltb k (g.vertices * 16777216)) (map (key_of d) cs)
      ∙ all_map (λ (k : ℕ). ltb k (g.vertices * 16777216)) (key_of d) cs
      ∙ all-follows (λ (c : Change). fitting g.vertices c.edge) (λ (c : Change). ltb (key_of d c) (g.vertices * 16777216)) cs h.changes_fit
      (λ c t. key_below g h.formed d c.edge t g.vertices ∙ lt-ltb (near d c.edge) g.vertices (near-in g h.formed d c.edge t))

  pub applied-sorted : length (apply_changes g cs).edges < 1048576 → (d : Direction)
      → toggled (sorted_keys d g) (sort (map (key_of d) cs)) ≡ sorted_keys d (apply_changes g cs)
  applied-sorted m forward =
      ap₂ toggled (forward-keys g h.formed) (sort-ascending (map change_key cs) h.changes_ascend)
      ∙ sym (applied-keys g cs h) ∙ sym (forward-keys (apply_changes g cs) (applied-formed g cs h m))
  applied-sorted m backward =
      ap₂ (λ (a b : List ℕ). toggled (sort a) (sort b)) (edges-other g.vertices few g.edges h.formed.edges_fit) back-changes
      ∙ others-toggled (keys_of g) (map change_key cs) (edges-fit-keys g.vertices few g.edges h.formed.edges_fit) fit-changes h.formed.edges_ascend h.changes_ascend
      ∙ ap (λ (l : List ℕ). sort (map other_key l)) (sym (applied-keys g cs h))
      ∙ ap sort (sym (edges-other (apply_changes g cs).vertices new-few (apply_changes g cs).edges (applied-formed g cs h m).edges_fit))
    where
      new-few : (apply_changes g cs).vertices < 65536
      new-few = (applied-formed g cs h m).few_vertices
