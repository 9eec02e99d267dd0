-- Merging the lists of a side with the changes, by keys. Assumes nothing.
use Rattle.std.specs.Prelude.{◌≡◌, Bool, true, cond, not, ◌&&◌, ℕ, suc, ◌+◌, ◌-◌, ◌*◌, ◌/◌, ◌%◌, ◌≤◌, ◌<◌, eqb, ltb, length, get_or, drop}
use mathlib.Core.List.{List, ◌++◌, map, flat_map}
use Rattle.lists.specs.Lists.{range, all, keep, count_if, ascending, sort}
use Rattle.graph.specs.Graph.{entry_end, Direction, forward, backward, key}
use Rattle.adjacency.specs.Inner.Side.{list_on, Within}
use Rattle.change_file.specs.File.{change_count, changed_edge}
use Rattle.change_file.specs.Inner.Reading.{Sized}
use Rattle.change_merge.specs.Inner.Toggle.{toggled}

-- A key is one of an edge at v.
abbrev pub key_at : ℕ → ℕ → Bool
key_at v k = not (ltb k (v * entry_end)) && ltb k (suc v * entry_end)

-- The entries of the edges at v.
unfoldable pub entries_of : ℕ → List ℕ → List ℕ
entries_of v ks = map (λ (k : ℕ). k % entry_end) (keep (key_at v) ks)

-- The keys of the changes in a direction, ascending.
unfoldable pub change_keys : Direction → List ℕ → List ℕ
change_keys d s = sort (map (λ (i : ℕ). key d (changed_edge s i)) (range (change_count s)))

-- Those that a side is merged with: the ones given, or where none are given the forward ones, which the file
-- has in order.
unfoldable pub side_keys : List ℕ → List ℕ → List ℕ
side_keys s keys = cond (eqb (length keys) 0) (map (λ (i : ℕ). key forward (changed_edge s i))
    (range (change_count s))) keys

-- A file with no keys, or with as many as it has changes.
pub record Keyed (s keys : List ℕ) : Type 0 where
  pub sized : Sized s
  pub full : (length keys ≡ 0 → ⊥) → length keys ≡ change_count s

-- The entry in a key of an edge at v, and one above all entries in any other.
abbrev pub entry_at : ℕ → ℕ → ℕ
entry_at v k = cond (eqb (k / entry_end) v) (k % entry_end) entry_end

-- That of the j-th key.
abbrev pub next_entry : List ℕ → ℕ → ℕ → ℕ
next_entry cs v j = cond (ltb j (length cs)) (entry_at v (get_or cs j 0)) entry_end

-- A vertex's list and the changes of that vertex, which are the next ones of all, with room for what comes of
-- them.
pub record Mergeable (xs cs : List ℕ) (v from room : ℕ) : Type 0 where
  pub list_ascends : ascending xs ≡ true
  pub changes_ascend : ascending cs ≡ true
  pub inside : from ≤ length cs
  pub ahead : all (λ (k : ℕ). not (ltb k (v * entry_end))) (drop from cs) ≡ true
  pub fits : length (toggled xs (entries_of v (drop from cs))) ≤ room

-- ---- a side

-- How many keys are of vertices below v, and their entries.
abbrev pub below : ℕ → List ℕ → ℕ
below v ks = count_if (λ (k : ℕ). ltb k (v * entry_end)) ks

abbrev pub entries_below : ℕ → List ℕ → List ℕ
entries_below v ks = map (λ (k : ℕ). k % entry_end) (keep (λ (k : ℕ). ltb k (v * entry_end)) ks)

-- The offsets and the entries that keys make: those of n vertices.
unfoldable pub side_words : ℕ → List ℕ → List ℕ
side_words n ks = map (λ (v : ℕ). below v ks) (range (suc n)) ++ map (λ (k : ℕ). k % entry_end) ks

-- The keys that the lists of a side tell.
unfoldable pub keys_on : List ℕ → ℕ → ℕ → List ℕ
keys_on old n side = flat_map (λ (v : ℕ). map (λ (e : ℕ). v * entry_end + e) (list_on old n side v)) (range n)

-- A side whose lists are those of some ascending keys.
pub record SideOf (old : List ℕ) (n side : ℕ) (ks : List ℕ) : Type 0 where
  pub within : (v : ℕ) → v < n → Within old n side v
  pub lists : (v : ℕ) → v < n → list_on old n side v ≡ entries_of v ks
  pub starts : (v : ℕ) → v ≤ n → get_or old (side + v) 0 ≡ below v ks
  pub whole : side + n + 1 + length ks ≤ length old
  pub rising : ascending ks ≡ true
  pub bounded : all (λ (k : ℕ). ltb k (n * entry_end)) ks ≡ true

-- Changes of n vertices in ascending order, and room for what they make of a side's keys.
pub record Fitting (ks cs : List ℕ) (n room : ℕ) : Type 0 where
  pub few : n < 65536
  pub changes_ascend : ascending cs ≡ true
  pub changes_bounded : all (λ (k : ℕ). ltb k (n * entry_end)) cs ≡ true
  pub countable : length (toggled ks cs) < 4294967296
  pub fits : suc n + length (toggled ks cs) ≤ room

-- The new side is written for the vertices below v: their offsets and the one after them, and their entries,
-- which are `len`.
pub record Written (new : List ℕ) (n : ℕ) (side₀ : List ℕ) (v : ℕ) (side : List ℕ) (len : ℕ) : Type 0 where
  pub within : v ≤ n
  pub long : length side ≡ length side₀
  pub starts : (w : ℕ) → w ≤ v → get_or side w 0 ≡ below w new
  pub words : drop (suc n) side ≡ entries_below v new ++ drop (suc n + len) side₀
  pub its_len : len ≡ below v new

-- The vertices from v to before u have the same entries by old and by new keys.
abbrev pub Untouched : List ℕ → List ℕ → ℕ → ℕ → Type 0
Untouched ks new v u = (w : ℕ) → v ≤ w → w < u → entries_of w new ≡ entries_of w ks

-- There is room for their lists after `len` entries.
pub record Copyable (ks : List ℕ) (n v u len room : ℕ) : Type 0 where
  pub few : n < 65536
  pub upward : v ≤ u
  pub inside : u ≤ n
  pub countable : len + (below u ks - below v ks) < 4294967296
  pub fits : suc n + (len + (below u ks - below v ks)) ≤ room

-- They are written after the entries that were, of which there are then `many` more.
abbrev pub Copied : List ℕ → ℕ → ℕ → ℕ → ℕ → List ℕ → List ℕ → ℕ → Type 0
Copied ks n v u len side out many =
    (new side₀ : List ℕ) → ascending new ≡ true → Untouched ks new v u → Written new n side₀ v side len
    → Written new n side₀ u out (len + many)

-- The first words of one slice, less one number and more another, stand at the front of a second.
pub record Moved (from : List ℕ) (many less more : ℕ) (to₀ to : List ℕ) : Type 0 where
  pub long : length to ≡ length to₀
  pub moved : (i : ℕ) → i < many → get_or to i 0 ≡ get_or from i 0 - less + more
  pub rest : drop many to ≡ drop many to₀

-- No two changes of a file have one backward key.
abbrev pub Distinct : List ℕ → Type 0
Distinct s = (x : ℕ)
    → count_if (λ (y : ℕ). eqb y x) (map (λ (i : ℕ). key backward (changed_edge s i)) (range (change_count s)))
    ≤ 1
