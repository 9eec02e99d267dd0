-- Which stores accepted graph files load to: '19 no accepted graph file loads to this store, words past the used ones ignored'.
-- A store is not refused exactly where some accepted file's words are its first ones. Assumes nothing.
use mathlib.Core.Path.{◌≡◌, refl, sym, ◌∙◌, ap, subst}
use mathlib.Core.Logic.{◌⊎◌, inl, inr, ⊎_elim}
use mathlib.Core.Bool.{Bool, true, false, not, ◌&&◌}
use mathlib.Core.List.{List, ◌++◌}
use Prim.Native.Nat.{ℕ, ◌≤◌}
use native.Mathlib.Omega.{arith}
use lib.Dec.{ltb}
use lib.ListN.{length, take, drop, take-append-drop, length-append}
use borrow.Author.Tests.{eq-eqb, le-ltb}
use Rattle.lists.specs.Lists.{all, same}
use Rattle.lists.specs.Refusal.{refuse, first}
use Rattle.lists.proofs.Tests.{and_l, and_r, not-false}
use Rattle.lists.proofs.Same.{same_true}
use Rattle.lists.proofs.Faults.{refuse-zero, first_head}
use Rattle.graph.specs.Graph.{Graph}
use Rattle.graph.specs.File.{graph_of, graph_fault}
use Rattle.graph.specs.Inner.Encode.{encode}
use Rattle.graph.specs.Store.{store_of, store_size, LoadsTo, load_fault, load_store, graph_in, well_formed, store_fault, Refuses19}
use Rattle.graph.proofs.WellFormed.{well-formed}
use Rattle.graph.proofs.Parts.{length-store}
use Rattle.graph.proofs.FileGraph.{file-well-formed}
use Rattle.graph.proofs.EncodeGraph.{encode-bytes, encode-accepted, encode-read}
use Rattle.graph.proofs.StoreGraph.{store_in, store-accepted}

-- What the definition asks of a store that is not refused.
pub store-formed : (store : List ℕ) → store_fault store ≡ 0
    → (well_formed (graph_in store) ≡ true) × (take (store_size (graph_in store)) store ≡ store_of (graph_in store))
unfolding store_fault
store-formed store e =
    let formed : Bool = well_formed (graph_in store) in
    let spelt : Bool = same (take (store_size (graph_in store)) store) (store_of (graph_in store)) in
    let both : (formed && spelt) ≡ true = not-false (formed && spelt) (refuse-zero 18 (not (formed && spelt)) e) in
    (and_l formed spelt both, same_true _ _ (and_r formed spelt both))

-- Every store that is not refused has a file that loads to it: an accepted file, of bytes, of the graph that the store spells,
-- whose words are the store's first ones.
pub accepted-loads : (store : List ℕ) → store_fault store ≡ 0
    → (file : List ℕ) × (graph_fault file ≡ 0) × (graph_of file ≡ graph_in store)
    × (store ≡ store_of (graph_of file) ++ drop (store_size (graph_of file)) store) × (all (λ (b : ℕ). ltb b 256) file ≡ true)
accepted-loads store e = (
  encode g,
  encode-accepted g formed,
  read,
  subst (λ (h : Graph). store ≡ store_of h ++ drop (store_size h) store) (sym read) whole,
  encode-bytes g,
)
  where
    g : Graph
    g = graph_in store

    formed : well_formed g ≡ true
    formed = (store-formed store e).0

    read : graph_of (encode g) ≡ g
    read = encode-read g formed

    whole : store ≡ store_of g ++ drop (store_size g) store
    whole = sym (take-append-drop (store_size g) store) ∙ ap (λ (l : List ℕ). l ++ drop (store_size g) store) (store-formed store e).1

-- And only those have one: what an accepted file loads to is not refused, whatever words stand past it, and spells that file's graph.
pub loads-accepted : (file : List ℕ) → graph_fault file ≡ 0 → (rest : List ℕ)
    → (store_fault (store_of (graph_of file) ++ rest) ≡ 0) × (graph_in (store_of (graph_of file) ++ rest) ≡ graph_of file)
loads-accepted file e rest =
    let formed : well_formed (graph_of file) ≡ true = file-well-formed file e in
    (store-accepted (graph_of file) formed rest, store_in (graph_of file) formed rest)

-- The store after an accepted Load.
pub load_store_lem : (file store : List ℕ) → load_fault file (length store) ≡ 0
    → load_store file store ≡ store_of (graph_of file) ++ drop (store_size (graph_of file)) store
unfolding load_store
load_store_lem file store e = rw (eq-eqb (load_fault file (length store)) 0 e)

-- It is not refused, and spells the file's graph.
pub load-accepted : (file store : List ℕ) → load_fault file (length store) ≡ 0
    → (store_fault (load_store file store) ≡ 0) × (graph_in (load_store file store) ≡ graph_of file)
unfolding load_fault
load-accepted file store e = rw (load_store_lem file store e) (loads-accepted file (first_head _ _ e) (drop (store_size (graph_of file)) store))

-- Load accepts an accepted file where its words fit.
pub load_fits : (file : List ℕ) (room : ℕ) → graph_fault file ≡ 0 → store_size (graph_of file) ≤ room → load_fault file room ≡ 0
unfolding load_fault first
load_fits file room e h = rw (e, le-ltb room (store_size (graph_of file)) h)

-- A store that is not refused is what Load leaves in it of some file.
pub load-exists : (store : List ℕ) → store_fault store ≡ 0
    → (file : List ℕ) × (load_fault file (length store) ≡ 0) × (load_store file store ≡ store) × (all (λ (b : ℕ). ltb b 256) file ≡ true)
load-exists store e = (file, fits, load_store_lem file store fits ∙ sym whole, (accepted-loads store e).4)
  where
    file : List ℕ
    file = (accepted-loads store e).0

    whole : store ≡ store_of (graph_of file) ++ drop (store_size (graph_of file)) store
    whole = (accepted-loads store e).3

    fits : load_fault file (length store) ≡ 0
    fits =
        let size : length (store_of (graph_of file)) ≡ store_size (graph_of file) =
        length-store (graph_of file) (well-formed (graph_of file) (file-well-formed file (accepted-loads store e).1)).described in
        load_fits file (length store) (accepted-loads store e).1 (omega (arith, simp length-append at (ap length whole)))

-- A store that an accepted file loads to is not refused.
pub loaded-accepted : (file store : List ℕ) → LoadsTo file store → store_fault store ≡ 0
loaded-accepted file store loads =
    ap store_fault (sym (ap (λ (l : List ℕ). l ++ drop (store_size (graph_of file)) store) (sym loads.words) ∙ take-append-drop (store_size (graph_of file)) store))
    ∙ (loads-accepted file loads.accepted (drop (store_size (graph_of file)) store)).0

-- The fault is 0 or 19.
either : (b : Bool) → (refuse 19 b ≡ 0) ⊎ (refuse 19 b ≡ 19)
either true = inr refl
either false = inl refl

zero-or-19 : (store : List ℕ) → (store_fault store ≡ 0) ⊎ (store_fault store ≡ 19)
unfolding store_fault
zero-or-19 store =
    let g = graph_in store in
    either (not (well_formed g && same (take (store_size g) store) (store_of g)))

-- A store that is not refused has a file.
file-of : (store : List ℕ) → store_fault store ≡ 0 → (file : List ℕ) × LoadsTo file store × (all (λ (b : ℕ). ltb b 256) file ≡ true)
file-of store e =
    let found = accepted-loads store e in (
      found.0,
      record {
        accepted = found.1;
        words = subst (λ (g : Graph). take (store_size g) store ≡ store_of g) (sym found.2) (store-formed store e).1;
      },
      found.4,
    )

-- '19 no accepted graph file loads to this store, words past the used ones ignored.'
pub refuses-19 : (store : List ℕ) → Refuses19 store
refuses-19 store =
    record {
      none = (
        λ e file loads. let z : ◌≡◌ {A = ℕ} 0 19 = sym (loaded-accepted file store loads) ∙ e in omega arith,
        λ lacks. ⊎_elim (λ e. absurd (lacks (file-of store e).0 (file-of store e).1)) (λ e. e) (zero-or-19 store),
      );
      one = (file-of store, λ some. loaded-accepted some.0 store some.1);
    }
