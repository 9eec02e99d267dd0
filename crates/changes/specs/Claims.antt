-- What a reader wants of applied changes: the new store is as loaded, and they can be undone. Assumes
-- nothing.
use Rattle.std.specs.Prelude.{◌≡◌, true, not, List, map, ℕ, ◌≤◌, ltb, length, take}
use Rattle.lists.specs.Lists.{all}
use Rattle.graph.specs.File.{graph_of}
use Rattle.lists.specs.Refusal.{refuse}
use Rattle.graph.specs.Store.{store_size, load_fault, load_store, graph_in, store_fault}
use Rattle.change_file.specs.File.{Change, changes_of, change_fault}
use Rattle.changes.specs.Edit.{edited_graph, apply_fault, changed_store}

-- The words of the new store are those of a loaded one: there is a file, of bytes, of the edited graph; Load
-- accepts it and leaves the same words. So the new store is not refused, and it spells the edited graph.
pub record AsLoaded (old s store : List ℕ) : Type 0 where
  pub file : List ℕ
  pub bytes : all (λ (b : ℕ). ltb b 256) file ≡ true
  pub its_graph : graph_of file ≡ edited_graph old s
  pub accepted : load_fault file (length store) ≡ 0
  pub words : changed_store old s store ≡ load_store file store
  pub not_refused : store_fault (changed_store old s store) ≡ 0
  pub spells : graph_in (changed_store old s store) ≡ edited_graph old s

-- 'As by loading the edited graph', where the changes are accepted.
abbrev pub LoadsEdited : List ℕ → List ℕ → List ℕ → Type 0
LoadsEdited old s store = apply_fault old s (length store) ≡ 0 → AsLoaded old s store

-- The reverse of a change: what was added is taken away, and the other way round.
abbrev pub turned : Change → Change
turned c = record { adds = not c.adds; edge = c.edge }

-- A file that holds the reverse of a file's changes, and that 27 does not turn away.
pub record ReverseOf (old s back : List ℕ) : Type 0 where
  pub its_changes : changes_of back ≡ map turned (changes_of s)
  pub accepted : change_fault (graph_in old).vertices back ≡ 0

-- The changes can be undone: there is a file of their reverse, of bytes; of every such file nothing is
-- refused but a store that is too small, and the words are the old store's.
pub record Undone (old s store : List ℕ) : Type 0 where
  pub one : (back : List ℕ) × ReverseOf old s back × (all (λ (b : ℕ). ltb b 256) back ≡ true)
  pub refused : (back : List ℕ) → ReverseOf old s back
      → (room : ℕ) → apply_fault (changed_store old s store) back room
      ≡ refuse 5 (ltb room (store_size (graph_in old)))
  pub words : (back : List ℕ) → ReverseOf old s back → (last : List ℕ) → store_size (graph_in old) ≤ length last
      → take (store_size (graph_in old)) (changed_store (changed_store old s store) back last)
      ≡ take (store_size (graph_in old)) old

-- 'Applying a change file and then its reverse gives the old words back', where the changes are accepted.
abbrev pub Reverses : List ℕ → List ℕ → List ℕ → Type 0
Reverses old s store = apply_fault old s (length store) ≡ 0 → Undone old s store
