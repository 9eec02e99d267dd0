-- Laws of the loop that writes the entries, and that they are the definition's. Assumes nothing.
use mathlib.Core.Path.{◌≡◌, refl, sym, ◌∙◌, ap, ap₂}
use mathlib.Core.List.{List, [], ◌∷◌, ◌++◌, map, flat_map, flatten}
use Prim.Native.Nat.{ℕ, zero, suc, ◌+◌, ◌-◌, ◌*◌, ◌≤◌, ◌<◌}
use native.Mathlib.Nat.{zero-mul, mul-le-mul_right}
use native.Mathlib.Numerals.{add-one}
use native.Mathlib.Omega.{arith}
use lib.ListN.{length, get_or, take, drop, length-append, length-drop}
use lib.Seq.{length-take-le, get_or-take}
use Rattle.lists.specs.Lists.{range}
use Rattle.lists.proofs.Parts.{rest_at}
use Rattle.lists.proofs.Maps.{flat_map-suc, flat_map-range-ext, map-indices, get_d_map}
use Rattle.graph.specs.Graph.{Graph}
use Rattle.query.specs.Query.{Query}
use Rattle.plan_spectrum.specs.Orders.{orderings}
use Rattle.plan_spectrum.specs.Spectrum.{cost_of, cost_words, entry_of, entries}
use Rattle.plan_spectrum.specs.Inner.Parts.{Put, entries_in}
use Rattle.plan_spectrum.proofs.Laying.{put-none, put-part}

-- The entry of ordering k.
abbrev pub entry_in : ℕ → List ℕ → List ℕ → ℕ → List ℕ
entry_in width list costs k = take width (drop (k * width) list) ++ cost_words (get_or costs k 0)

-- The first k entries are written.
pub record Entered (width plans : ℕ) (list costs before after : List ℕ) (k : ℕ) : Type 0 where
  pub small : k ≤ plans
  pub kept : length after ≡ length before
  pub words : Put (entries_in width k list costs) before after

pub entries-suc : (width k : ℕ) (list costs : List ℕ) → entries_in width (suc k) list costs ≡ entries_in width k list costs ++ entry_in width list costs k
unfolding entries_in
entries-suc width k list costs = flat_map-suc (entry_in width list costs) k

module _ (width plans : ℕ) (list costs o₀ : List ℕ) (lists : plans * width ≤ length list) (few : plans ≤ length costs) (room : plans * (width + 2) ≤ length o₀) where
  pub list-fits : (k : ℕ) → k < plans → k * width + width ≤ length list
  list-fits k h = let up_to : suc k * width ≤ plans * width = mul-le-mul_right width h in omega (arith, up_to)

  pub room_fits : (k : ℕ) → k < plans → k * (width + 2) + (width + 2) ≤ length o₀
  room_fits k h = let up_to : suc k * (width + 2) ≤ plans * (width + 2) = mul-le-mul_right (width + 2) h in omega (arith, up_to)

  entry-long : (k : ℕ) → k < plans → length (entry_in width list costs k) ≡ width + 2
  entry-long k h =
      length-append (take width (drop (k * width) list)) (cost_words (get_or costs k 0))
      ∙ ap (λ (n : ℕ). n + 2) (length-take-le width (drop (k * width) list) (omega (arith, length-drop (k * width) list, list-fits k h)))

  entries-long : (k : ℕ) → k ≤ plans → length (entries_in width k list costs) ≡ k * (width + 2)
  unfolding entries_in flat_map range
  entries-long zero h = sym (zero-mul (width + 2))
  entries-long (suc k) h =
      ap length (entries-suc width k list costs) ∙ length-append (entries_in width k list costs) (entry_in width list costs k)
      ∙ omega (arith, entries-long k (omega arith), entry-long k h)

  pub enter-start : Entered width plans list costs o₀ o₀ 0
  unfolding entries_in flat_map range
  enter-start = record { small = omega arith; kept = refl; words = put-none o₀ }

  module _ (o : List ℕ) (k : ℕ) (t : Entered width plans list costs o₀ o k) where
    pub enter-done : (k < plans → ⊥) → Put (entries_in width plans list costs) o₀ o
    enter-done end =
        t.words ∙ ap (λ (n : ℕ). entries_in width n list costs ++ drop (length (entries_in width n list costs)) o₀) (let e : k ≡ plans = omega (arith, t.small, end) in e)

    -- What is lent for entry k.
    pub enter-asks : k < plans → (width ≤ length (take (length list - k * width) (drop (k * width) list))) × (width + 2 ≤ length (take (length o - k * (width + 2)) (drop (k * (width + 2)) o)))
    enter-asks h = (
      omega (arith, ap length (rest_at list (k * width)), length-drop (k * width) list, list-fits k h),
      omega (arith, ap length (rest_at o (k * (width + 2))), length-drop (k * (width + 2)) o, room_fits k h, t.kept),
    )

    pub entered : k < plans → (part : List ℕ)
        → Put (take width (take (length list - k * width) (drop (k * width) list)) ++ cost_words (get_or costs k 0)) (take (length o - k * (width + 2)) (drop (k * (width + 2)) o)) part
        → length (take (k * (width + 2)) o ++ (part ++ drop (length o - k * (width + 2)) (drop (k * (width + 2)) o))) ≡ length o
        → Entered width plans list costs o₀ (take (k * (width + 2)) o ++ (part ++ drop (length o - k * (width + 2)) (drop (k * (width + 2)) o))) (k + 1)
    entered h part p same =
        rw (add-one k)
        (record {
          small = omega arith;
          kept = same ∙ t.kept;
          words =
              put-part (entries_in width k list costs) (entry_in width list costs k) o₀ o part (k * (width + 2)) (entries-long k (omega arith)) (omega (arith, room_fits k h, t.kept)) t.words
              (p ∙ ap (λ (l : List ℕ). take width l ++ cost_words (get_or costs k 0) ++ drop (length (take width l ++ cost_words (get_or costs k 0))) (take (length o - k * (width + 2)) (drop (k * (width + 2)) o))) (rest_at list (k * width)))
              ∙ ap (λ (l : List ℕ). l ++ drop (length l) o₀) (sym (entries-suc width k list costs));
        })

-- ---- the definition's entries

flat_map-map : {A B C : Type 0} (f : B → List C) (h : A → B) (xs : List A) → flat_map f (map h xs) ≡ flat_map (λ x. f (h x)) xs
unfolding flat_map
flat_map-map f h [] = refl
flat_map-map f h (x ∷ xs) = ap (λ (l : List _). f (h x) ++ l) (flat_map-map f h xs)

flat_map-indices : (f : List ℕ → List ℕ) (xs : List (List ℕ)) → flat_map (λ (i : ℕ). f (get_or xs i [])) (range (length xs)) ≡ flat_map f xs
flat_map-indices f xs =
    sym (flat_map-map f (λ (i : ℕ). get_or xs i []) (range (length xs))) ∙ ap (flat_map f) (map-indices (λ (i : ℕ). get_or xs i []) xs [] (λ i h. refl))

pub entries-are : (g : Graph) (q : Query) (list costs : List ℕ) (width plans : ℕ) → plans ≡ length (orderings q)
    → ((k : ℕ) → k < plans → take width (drop (k * width) list) ≡ get_or (orderings q) k [])
    → take plans costs ≡ map (cost_of g q) (orderings q) → entries_in width plans list costs ≡ entries g q
unfolding entries_in entries
entries-are g q list costs width plans number rows paid =
    flat_map-range-ext (entry_in width list costs) (λ (i : ℕ). entry_of g q (get_or (orderings q) i [])) plans one
    ∙ ap (λ (n : ℕ). flat_map (λ (i : ℕ). entry_of g q (get_or (orderings q) i [])) (range n)) number
    ∙ flat_map-indices (entry_of g q) (orderings q)
  where
    one : (k : ℕ) → k < plans → entry_in width list costs k ≡ entry_of g q (get_or (orderings q) k [])
    one k h =
        ap₂ (λ (l : List ℕ) (c : ℕ). l ++ cost_words c) (rows k h)
        (sym (get_or-take plans costs k 0 h) ∙ ap (λ (l : List ℕ). get_or l k 0) paid ∙ get_d_map (cost_of g q) (orderings q) k [] 0 (omega (arith, number)))
