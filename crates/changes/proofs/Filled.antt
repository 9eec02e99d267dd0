-- What is merged and transposed is the edited graph's store. Assumes nothing.
use mathlib.Core.Path.{◌≡◌, refl, sym, ◌∙◌, ap, ap₂}
use mathlib.Core.Bool.{Bool, true, false}
use mathlib.Core.List.{List, [], ◌∷◌, ◌++◌, map, append_assoc}
use Prim.Native.Nat.{ℕ, suc, ◌+◌, ◌-◌, ◌*◌, ◌≤◌, ◌<◌}
use native.Mathlib.Nat.{mul-le-mul_left}
use native.Mathlib.Omega.{arith}
use lib.Dec.{eqb, ltb}
use lib.ListN.{length, set, take, drop, length-append, length-map, length-drop, take-append-drop}
use borrow.Author.Tests.{eqb-true, ltb-true, ltb-false}
use lib.Seq.{take_at, drop_at, drop-drop, take-take, length-take-le}
use Rattle.lists.specs.Lists.{range, all, ascending}
use Rattle.lists.proofs.Tests.{not-false}
use Rattle.lists.proofs.Faults.{refuse-zero}
use Rattle.lists.proofs.Sort.{length-sort, sort-ascending}
use Rattle.lists.proofs.Maps.{length-image}
use Rattle.lists.proofs.Parts.{rest_at, drop-take, tail-back}
use Rattle.graph.specs.Graph.{Direction, forward, backward, key}
use Rattle.graph.specs.Store.{graph_in, store_fault, offsets, entries, store_of, used_words}
use Rattle.graph.proofs.WellFormed.{WellFormed, formed-well}
use Rattle.graph.proofs.Keys.{sorted_keys}
use Rattle.graph.proofs.Parts.{length-offsets, length-entries, store-shape}
use Rattle.adjacency.specs.Inner.Side.{side_in, vertices_in, edges_in}
use Rattle.adjacency.proofs.Accepted.{graph-formed, store-vertices, store-edges, store_length}
use Rattle.store_transpose.specs.Inner.Transpose.{ForwardSide, Transposable, Transposed}
use Rattle.change_file.specs.File.{change_count, changed_edge, changes_of, change_fault}
use Rattle.changes.specs.Edit.{change_key, apply_changes, edit_fault, edited_graph}
use Rattle.change_merge.specs.Inner.Toggle.{toggled}
use Rattle.change_merge.specs.Inner.Merge.{change_keys, side_keys, Keyed, side_words, keys_on, SideOf, Fitting, Distinct}
use Rattle.changes.specs.Inner.Fill.{Accepted, words_on, sides_of, HeadKept}
use Rattle.changes.proofs.EditedGraph.{Applied, applied-formed}
use Rattle.changes.proofs.Present.{file-sized, changes_fit, changes_ascend}
use Rattle.changes.proofs.Directions.{keys-listed, change-keys, back-once, applied-ascend, applied-bounded, applied-sorted}
use Rattle.changes.proofs.Sides.{side-of, side-keys, side-words, forward-changes}

-- Changes that are not refused can be applied.
pub applied-parts : (old : List ℕ) (n : ℕ) (s : List ℕ) → store_fault old ≡ 0 → n ≡ vertices_in old → change_fault n s ≡ 0
    → edit_fault (graph_in old) (changes_of s) ≡ 0 → Applied (graph_in old) (changes_of s)
unfolding edit_fault
applied-parts old n s a v b c =
    record {
      formed = graph-formed old a;
      changes_fit = rw (v ∙ store-vertices old a) at (changes_fit n s b);
      changes_ascend = changes_ascend n s b;
      all_apply = not-false _ (refuse-zero 27 _ c);
    }

module _ {old : List ℕ} {n : ℕ} {s : List ℕ} {k : ℕ} (h : Accepted old n s k) where
  n-is : n ≡ (graph_in old).vertices
  n-is = h.vertices ∙ store-vertices old h.store

  pub low-vertices : n < 65536
  low-vertices = rw n-is (graph-formed old h.store).few_vertices

  pub at_forward : 2 + 2 * n ≡ side_in forward old
  at_forward = omega (arith, h.vertices)

  pub old-counts : (2 ≤ length old) × (edges_in old < 1048576)
  old-counts =
      (omega (arith, store_length old h.store), omega (arith, store-edges old h.store, (graph-formed old h.store).few_edges))

  pub applied : Applied (graph_in old) (changes_of s)
  applied = applied-parts old n s h.store h.vertices h.file h.edits

  pub new-formed : WellFormed (edited_graph old s)
  new-formed = applied-formed (graph_in old) (changes_of s) applied h.few

  -- The merged keys are those of the edited graph.
  module _ (d : Direction) (keys : List ℕ) {at : ℕ} (b : at ≡ side_in d old) (c : side_keys s keys ≡ change_keys d s) where
    old-keys : keys_on old n at ≡ sorted_keys d (graph_in old)
    old-keys = ap₂ (λ (x y : ℕ). keys_on old x y) n-is b ∙ side-keys old h.store d

    new-keys : toggled (keys_on old n at) (side_keys s keys) ≡ sorted_keys d (edited_graph old s)
    new-keys = ap₂ toggled old-keys (c ∙ change-keys d s) ∙ applied-sorted (graph_in old) (changes_of s) applied h.few d

    new-size : length (toggled (keys_on old n at) (side_keys s keys)) ≡ length (edited_graph old s).edges
    new-size = ap length new-keys ∙ length-sort (map (key d) (edited_graph old s).edges) ∙ length-map (edited_graph old s).edges (key d)

    pub side-old : SideOf old n at (keys_on old n at)
    side-old = rw (old-keys, n-is, b) (side-of old h.store d)

    pub side-fits : {room : ℕ} → suc n + length (edited_graph old s).edges ≤ room → Fitting (keys_on old n at) (side_keys s keys) n room
    side-fits r =
        record {
          few = low-vertices;
          changes_ascend = ap ascending (c ∙ change-keys d s) ∙ applied-ascend (graph_in old) (changes_of s) applied d;
          changes_bounded = ap₂ (λ (x : ℕ) (l : List ℕ). all (λ (k : ℕ). ltb k (x * 16777216)) l) n-is (c ∙ change-keys d s) ∙ applied-bounded (graph_in old) (changes_of s) applied d;
          countable = omega (arith, new-size, h.few);
          fits = omega (arith, new-size, r);
        }

    pub side-made : (side : List ℕ) {out : List ℕ}
        → out ≡ side_words n (toggled (keys_on old n at) (side_keys s keys)) ++ drop (suc n + length (toggled (keys_on old n at) (side_keys s keys))) side
        → out ≡ words_on d (edited_graph old s) ++ drop (suc n + length (edited_graph old s).edges) side
    unfolding apply_changes
    side-made side e =
        e
        ∙ ap₂ (λ (l : List ℕ) (p : ℕ). l ++ drop (suc n + p) side)
        (ap₂ side_words n-is new-keys ∙ side-words (edited_graph old s) new-formed d) new-size

  -- The forward keys are in the file; the backward ones are sorted.
  pub no_keys : Keyed s []
  no_keys = record { sized = file-sized n s h.file; full = λ z. absurd (z refl) }

  pub filed : side_keys s [] ≡ change_keys forward s
  filed = forward-changes s ∙ sym (change-keys forward s ∙ sort-ascending (map change_key (changes_of s)) (changes_ascend n s h.file))

  pub distinct : Distinct s
  distinct x = rw (keys-listed backward s) (back-once (graph_in old) (changes_of s) applied x)

  module _ {keys : List ℕ} (e : keys ≡ change_keys backward s) where
    pub sorted-size : length keys ≡ change_count s
    unfolding change_keys
    sorted-size = ap length e ∙ length-sort _ ∙ length-image (λ (i : ℕ). key backward (changed_edge s i)) (change_count s)

    pub some-keys : Keyed s keys
    some-keys = record { sized = file-sized n s h.file; full = λ z. sorted-size }

    pub sorted : side_keys s keys ≡ change_keys backward s
    unfolding side_keys range
    sorted = go (eqb (length keys) 0) refl
      where
        nothing : (l : List ℕ) → length l ≡ 0 → l ≡ []
        nothing [] e = refl
        nothing (x ∷ l) e = absurd (omega arith)

        go : (b : Bool) → eqb (length keys) 0 ≡ b → side_keys s keys ≡ change_keys backward s
        go true t =
            let z : change_count s ≡ 0 = sym sorted-size ∙ eqb-true (length keys) 0 t in
            rw t (ap (λ (c : ℕ). map (λ (i : ℕ). key forward (changed_edge s i)) (range c)) z ∙ sym (nothing keys (eqb-true (length keys) 0 t)) ∙ e)
        go false t = rw t e

  -- ---- both sides

  extension-set : n ≡ (edited_graph old s).vertices
  unfolding apply_changes
  extension-set = n-is

  forward-size : length (words_on forward (edited_graph old s)) ≡ suc n + length (edited_graph old s).edges
  forward-size =
      length-append (offsets forward (edited_graph old s)) (entries forward (edited_graph old s))
      ∙ ap₂ (λ (x y : ℕ). x + y) (length-offsets forward (edited_graph old s) ∙ ap suc (sym extension-set)) (length-entries forward (edited_graph old s))

  module _ (side : List ℕ) {m : ℕ} (e : m ≡ length (edited_graph old s).edges) (room : n + 1 + m + (n + 1 + m) ≤ length side)
      {one : List ℕ} (a : one ≡ words_on forward (edited_graph old s) ++ drop (suc n + length (edited_graph old s).edges) side) where
    place : n + 1 + m ≡ suc n + length (edited_graph old s).edges
    place = omega arith

    pub one-long : length one ≡ length side
    one-long = ap length a ∙ rw (length-append, forward-size, length-drop) (omega arith)

    one-forward : ForwardSide (edited_graph old s) one n m
    one-forward =
        record {
          formed = formed-well (edited_graph old s) new-formed;
          vertices = extension-set;
          edges = e;
          words = ap (take (n + 1 + m)) a ∙ take_at (words_on forward (edited_graph old s)) (drop (suc n + length (edited_graph old s).edges) side) (n + 1 + m) (forward-size ∙ sym place);
        }

    pub one-transposable : Transposable one n m
    one-transposable = record { graph = edited_graph old s; its = one-forward; room = omega (arith, one-long) }

    one-rest : drop (n + 1 + m + (n + 1 + m)) one ≡ drop (n + 1 + m + (n + 1 + m)) side
    one-rest =
        sym (drop-drop (n + 1 + m) (n + 1 + m) one)
        ∙ ap (drop (n + 1 + m)) (ap (drop (n + 1 + m)) a ∙ drop_at (words_on forward (edited_graph old s)) (drop (suc n + length (edited_graph old s).edges) side) (n + 1 + m) (forward-size ∙ sym place) ∙ ap (λ (p : ℕ). drop p side) (sym place))
        ∙ drop-drop (n + 1 + m) (n + 1 + m) side

    pub sides-made : {two three : List ℕ} → Transposed one n m two → three ≡ words_on forward (edited_graph old s) ++ drop (suc n + length (edited_graph old s).edges) two
        → three ≡ sides_of (edited_graph old s) ++ drop (n + 1 + m + (n + 1 + m)) side
    sides-made {two} {three} b c =
        c ∙ ap (λ (l : List ℕ). words_on forward (edited_graph old s) ++ l) (ap (λ (p : ℕ). drop p two) (sym place) ∙ b.back (edited_graph old s) one-forward ∙ ap (λ (l : List ℕ). offsets backward (edited_graph old s) ++ (entries backward (edited_graph old s) ++ l)) one-rest)
        ∙ simp append_assoc

    -- Or the backward side is merged into the part after the forward one.
    pub sides-merged : {two : List ℕ}
        → two ≡ words_on backward (edited_graph old s) ++ drop (suc n + length (edited_graph old s).edges) (take (length one - (n + 1 + m)) (drop (n + 1 + m) one))
        → take (n + 1 + m) one ++ (two ++ drop (length one - (n + 1 + m)) (drop (n + 1 + m) one)) ≡ sides_of (edited_graph old s) ++ drop (n + 1 + m + (n + 1 + m)) side
    sides-merged {two} b =
        tail-back one two (n + 1 + m) (omega (arith, one-long))
        ∙ ap₂ (λ (x y : List ℕ). x ++ y) one-forward.words
        (b ∙ ap (λ (l : List ℕ). words_on backward (edited_graph old s) ++ l)
        (ap₂ drop (sym place) (rest_at one (n + 1 + m)) ∙ drop-drop (n + 1 + m) (n + 1 + m) one ∙ one-rest))
        ∙ simp append_assoc

-- Few changes are fewer than 1024.
pub square-fits : (k : ℕ) → k < 1048576 → k * k < 18446744073709551616
square-fits k h = let l : k * k ≤ k * 1048576 = mul-le-mul_left k (omega arith) in omega arith

pub few-changes : (k : ℕ) {m : ℕ} → k * k ≤ m → m < 1048576 → k < 1024
few-changes k {m} h l = go (ltb k 1024) refl
  where
    go : (b : Bool) → ltb k 1024 ≡ b → k < 1024
    go true t = ltb-true k 1024 t
    go false t = let w : k * 1024 ≤ k * k = mul-le-mul_left k (ltb-false k 1024 t) in absurd (omega (arith, ltb-false k 1024 t))

-- ---- the head

regroup : (a b c d e f r : List ℕ) → (a ++ b) ++ ((c ++ d ++ e ++ f) ++ r) ≡ a ++ (b ++ (c ++ (d ++ (e ++ (f ++ r)))))
regroup a b c d e f r = simp append_assoc

pub take_twice : (n : ℕ) (l : List ℕ) → take (2 * n) l ≡ take n l ++ take n (drop n l)
take_twice n l =
    sym (take-append-drop n (take (2 * n) l))
    ∙ ap₂ (λ (x y : List ℕ). x ++ y) (take-take n (2 * n) l (omega arith)) (drop-take n (2 * n) l ∙ ap (λ (k : ℕ). take k (drop n l)) (let e : 2 * n - n ≡ n = omega arith in e))

-- What is copied and then counted, as the code has it.
pub head-made : (old store : List ℕ) {n m : ℕ} → HeadKept old n m (length store) → {copied : List ℕ}
    → copied ≡ take (2 * n) (take (length old - 2) (drop 2 old)) ++ drop (2 * n) (take (length store - 2) (drop 2 store))
    → set (set (take 2 store ++ (copied ++ drop (length store - 2) (drop 2 store))) 0 n) 1 m ≡ (n ∷ m ∷ take (2 * n) (drop 2 old)) ++ drop (2 + 2 * n) store
head-made old [] h e = absurd (omega (arith, h.room_there))
head-made old (x ∷ []) h e = absurd (omega (arith, h.room_there))
head-made old (x ∷ y ∷ rest) {n} {m} h {copied} e =
    ap (λ (l : List ℕ). set (set l 0 n) 1 m) (tail-back (x ∷ y ∷ rest) copied 2 (omega arith))
    ∙ ap (λ (l : List ℕ). n ∷ m ∷ l)
    (e ∙ ap₂ (λ (a b : List ℕ). a ++ b) (ap (take (2 * n)) (rest_at old 2)) (ap (drop (2 * n)) (rest_at (x ∷ y ∷ rest) 2) ∙ drop-drop (2 * n) 2 (x ∷ y ∷ rest)))

module _ {old : List ℕ} {n : ℕ} {s : List ℕ} {k : ℕ} (h : Accepted old n s k) where
  old-long : 4 * n + 4 ≤ length old
  old-long = omega (arith, store_length old h.store, h.vertices, store-vertices old h.store)

  pub head-kept : {m room : ℕ} → m ≡ length (edited_graph old s).edges → used_words n m ≤ room → HeadKept old n m room
  head-kept e r = record { few = low-vertices h; edges = rw e h.few; there = omega (arith, old-long); room_there = omega arith }

  head-is : (m : ℕ) → m ≡ length (edited_graph old s).edges
      → (n ∷ m ∷ take (2 * n) (drop 2 old)) ≡ ((edited_graph old s).vertices ∷ length (edited_graph old s).edges ∷ (edited_graph old s).labels) ++ (edited_graph old s).days
  unfolding apply_changes graph_in
  head-is m e =
      ap₂ (λ (a : ℕ) (l : List ℕ). a ∷ l) h.vertices (ap₂ (λ (a : ℕ) (l : List ℕ). a ∷ l) e
      (take_twice n (drop 2 old) ∙ ap₂ (λ (a b : List ℕ). a ++ b) (ap (λ (j : ℕ). take j (drop 2 old)) h.vertices)
      (ap (take n) (drop-drop n 2 old) ∙ ap (λ (j : ℕ). take j (drop (2 + j) old)) h.vertices)))

  pub store-made : (store : List ℕ) {m : ℕ} → m ≡ length (edited_graph old s).edges → used_words n m ≤ length store
      → {one : List ℕ} → one ≡ (n ∷ m ∷ take (2 * n) (drop 2 old)) ++ drop (2 + 2 * n) store
      → {side : List ℕ} → side ≡ sides_of (edited_graph old s) ++ drop (n + 1 + m + (n + 1 + m)) (take (length one - (2 + 2 * n)) (drop (2 + 2 * n) one))
      → take (2 + 2 * n) one ++ (side ++ drop (length one - (2 + 2 * n)) (drop (2 + 2 * n) one)) ≡ store_of (edited_graph old s) ++ drop (used_words n m) store
  store-made store {m} e room {one} a {side} b =
      tail-back one side (2 + 2 * n) (omega (arith, one_size))
      ∙ ap₂ (λ (x y : List ℕ). x ++ y) (ap (take (2 + 2 * n)) a ∙ take_at head (drop (2 + 2 * n) store) (2 + 2 * n) head-size ∙ head-is m e)
      (b ∙ ap (λ (l : List ℕ). sides_of (edited_graph old s) ++ l) rest)
      ∙ regroup ((edited_graph old s).vertices ∷ length (edited_graph old s).edges ∷ (edited_graph old s).labels) (edited_graph old s).days
      (offsets forward (edited_graph old s)) (entries forward (edited_graph old s)) (offsets backward (edited_graph old s)) (entries backward (edited_graph old s)) (drop (used_words n m) store)
      ∙ sym (store-shape (edited_graph old s) (drop (used_words n m) store))
    where
      head : List ℕ
      head = n ∷ m ∷ take (2 * n) (drop 2 old)

      head-size : length head ≡ 2 + 2 * n
      head-size = let l : length (take (2 * n) (drop 2 old)) ≡ 2 * n = length-take-le (2 * n) (drop 2 old) (rw length-drop (omega (arith, old-long))) in omega arith

      one_size : length one ≡ length store
      one_size = ap length a ∙ rw (length-append, length-drop) (omega (arith, head-size))

      rest : drop (n + 1 + m + (n + 1 + m)) (take (length one - (2 + 2 * n)) (drop (2 + 2 * n) one)) ≡ drop (used_words n m) store
      rest =
          ap (drop (n + 1 + m + (n + 1 + m)))
          (rest_at one (2 + 2 * n) ∙ ap (drop (2 + 2 * n)) a ∙ drop_at head (drop (2 + 2 * n) store) (2 + 2 * n) head-size)
          ∙ drop-drop (n + 1 + m + (n + 1 + m)) (2 + 2 * n) store
          ∙ ap (λ (p : ℕ). drop p store) (let i : 2 + 2 * n + (n + 1 + m + (n + 1 + m)) ≡ used_words n m = omega arith in i)

  pub part_room : (store : List ℕ) {m : ℕ} → m ≡ length (edited_graph old s).edges → used_words n m ≤ length store
      → {one : List ℕ} → one ≡ (n ∷ m ∷ take (2 * n) (drop 2 old)) ++ drop (2 + 2 * n) store
      → (2 + 2 * n ≤ length one) × (n + 1 + m + (n + 1 + m) ≤ length (take (length one - (2 + 2 * n)) (drop (2 + 2 * n) one)))
  part_room store {m} e room {one} a =
      let l : length (take (2 * n) (drop 2 old)) ≡ 2 * n = length-take-le (2 * n) (drop 2 old) (rw length-drop (omega (arith, old-long))) in
      let size : length one ≡ length store = ap length a ∙ rw (length-append, length-drop) (omega arith) in
      (omega arith, rw (rest_at one (2 + 2 * n), length-drop) (omega arith))
