-- The change file: 'a count (20 bits), then for each a bit (1 add, 0 take away) and an edge as in the graph
-- file', and its fault. Assumes nothing.
use Rattle.std.specs.Prelude.{Bool, true, not, ◌&&◌, List, map, ℕ, zero, suc, ◌+◌, ◌*◌, eqb, ltb, length}
use Rattle.lists.specs.Lists.{range, all}
use Rattle.lists.specs.Refusal.{refuse}
use Rattle.packed.specs.Field.{field_at, bytes_for, fill_set}
use Rattle.graph.specs.Graph.{Edge, forward, key}
use Rattle.graph.specs.File.{bad_edge}

-- An edge that is added, or taken away.
pub record Change : Type 0 where
  pub adds : Bool
  pub edge : Edge

abbrev pub change_count : List ℕ → ℕ
change_count s = field_at s 0 20

-- Where change i begins, with its bit and then its edge.
abbrev pub change_start : ℕ → ℕ
change_start i = 20 + 41 * i

abbrev pub adds_in : List ℕ → ℕ → Bool
adds_in s i = eqb (field_at s (change_start i) 1) 1

abbrev pub changed_edge : List ℕ → ℕ → Edge
changed_edge s i =
    record {
      source = field_at s (change_start i + 1) 16;
      label = field_at s (change_start i + 17) 8;
      target = field_at s (change_start i + 25) 16;
    }

-- The changes that a file holds.
unfoldable pub changes_of : List ℕ → List Change
changes_of s = map (λ (i : ℕ). record { adds = adds_in s i; edge = changed_edge s i }) (range (change_count s))

-- The bytes of its changes, the last one filled.
abbrev pub change_size : List ℕ → ℕ
change_size s = bytes_for (change_start (change_count s))

-- Changes i - 1 and i ascend strictly by edge; there is none before the first.
abbrev pub change_ascends : List ℕ → ℕ → Bool
change_ascends s zero = true
change_ascends s (suc i) = ltb (key forward (changed_edge s i)) (key forward (changed_edge s (suc i)))

-- An edge that neither 3 nor 4 turns away, in a graph of n vertices.
abbrev pub change_fits : ℕ → List ℕ → ℕ → Bool
change_fits n s i = not (bad_edge n (changed_edge s i)) && change_ascends s i

-- '27 a change file of wrong length or fill or with an edge that 3 or 4 turns away.'
unfoldable pub change_fault : ℕ → List ℕ → ℕ
change_fault n s =
    refuse 27
    (not (eqb (length s) (change_size s) && not (fill_set s (change_start (change_count s)))
    && all (change_fits n s) (range (change_count s))))
