-- The keys of the backward side: what is toggled of the forward keys is toggled of the backward ones. Assumes nothing.
use mathlib.Core.Path.{◌≡◌, refl, sym, ◌∙◌, ap, ap₂}
use mathlib.Core.Bool.{Bool, true, false, cond}
use mathlib.Core.List.{List, map, map-map}
use Prim.Native.Nat.{ℕ, ◌+◌, ◌*◌, ◌/◌, ◌%◌, ◌≤◌, ◌<◌}
use native.Mathlib.Omega.{arith}
use lib.Dec.{eqb, ltb}
use borrow.Author.Tests.{eqb-true, eq-eqb, ne_eqb, ltb-true, lt-ltb, ltb-false}
use Rattle.lists.specs.Lists.{all, count_if, ascending, sort}
use Rattle.lists.proofs.Tests.{iff}
use Rattle.lists.proofs.All.{all-follows}
use Rattle.lists.proofs.Count.{count_map, count_under, count-passes, all_map}
use Rattle.lists.proofs.Sort.{count-sort, ascending-once, ascending-same, sort-ascends}
use Rattle.lists.proofs.Maps.{map-under}
use Rattle.graph.specs.Graph.{Edge, forward, backward, key}
use Rattle.graph.proofs.WellFormed.{Fitting, fitting, fitting-edge}
use Rattle.change_merge.specs.Inner.Toggle.{toggled}
use Rattle.change_merge.proofs.Toggles.{ascending-toggled, all-toggled}
use Rattle.changes.proofs.Flips.{turned_by, toggled-count}

-- From a forward key to the backward key of the same edge, and the other way round.
abbrev pub other_key : ℕ → ℕ
other_key k = k % 65536 * 16777216 + (k / 65536 % 256 * 65536 + k / 16777216)

-- Keys have 40 bits.
abbrev pub key_fits : ℕ → Bool
key_fits k = ltb k 1099511627776

low_part : (x t : ℕ) → t < 65536 → (x * 65536 + t) % 65536 ≡ t
low_part x t h = omega arith

high_part : (x t : ℕ) → t < 65536 → (x * 65536 + t) / 65536 ≡ x
high_part x t h = omega arith

other-parts : (s l t : ℕ) → l < 256 → t < 65536 → other_key (s * 16777216 + (l * 65536 + t)) ≡ t * 16777216 + (l * 65536 + s)
other-parts s l t h i =
    let e : s * 16777216 + (l * 65536 + t) ≡ (s * 256 + l) * 65536 + t = omega arith in
    let a : (s * 16777216 + (l * 65536 + t)) % 65536 ≡ t = ap (λ (k : ℕ). k % 65536) e ∙ low_part (s * 256 + l) t i in
    let b : (s * 16777216 + (l * 65536 + t)) / 65536 % 256 ≡ l = ap (λ (k : ℕ). k / 65536 % 256) e ∙ ap (λ (k : ℕ). k % 256) (high_part (s * 256 + l) t i) ∙ omega arith in
    let c : (s * 16777216 + (l * 65536 + t)) / 16777216 ≡ s = omega arith in
    rw (a, b, c)

key-parts : (k : ℕ) → k ≡ k / 16777216 * 16777216 + (k / 65536 % 256 * 65536 + k % 65536)
key-parts k = omega arith

pub other_fits : (k : ℕ) → key_fits k ≡ true → key_fits (other_key k) ≡ true
other_fits k t = lt-ltb (other_key k) 1099511627776 (let l : k < 1099511627776 = ltb-true k 1099511627776 t in omega arith)

pub other-back : (k : ℕ) → key_fits k ≡ true → other_key (other_key k) ≡ k
other-back k t =
    let l : k < 1099511627776 = ltb-true k 1099511627776 t in
    other-parts (k % 65536) (k / 65536 % 256) (k / 16777216) (omega arith) (omega arith) ∙ sym (key-parts k)

-- How often a number stands among the other keys.
other-count : (xs : List ℕ) → all key_fits xs ≡ true → (k : ℕ)
    → count_if (λ (x : ℕ). eqb x k) (map other_key xs) ≡ cond (key_fits k) (count_if (λ (x : ℕ). eqb x (other_key k)) xs) 0
other-count xs e k = count_map (λ (x : ℕ). eqb x k) other_key xs ∙ go (key_fits k) refl
  where
    go : (b : Bool) → key_fits k ≡ b → count_if (λ (x : ℕ). eqb (other_key x) k) xs ≡ cond b (count_if (λ (x : ℕ). eqb x (other_key k)) xs) 0
    go true t =
        count_under key_fits (λ (x : ℕ). eqb (other_key x) k) (λ (x : ℕ). eqb x (other_key k)) xs e
        (λ x u.
        iff (eqb (other_key x) k) (eqb x (other_key k))
        (λ i. eq-eqb x (other_key k) (sym (other-back x u) ∙ ap other_key (eqb-true (other_key x) k i)))
        (λ i. eq-eqb (other_key x) k (ap other_key (eqb-true x (other_key k) i) ∙ other-back k t)))
    go false t =
        count-passes (λ (x : ℕ). eqb (other_key x) k) key_fits xs e
        (λ x u.
        ne_eqb (other_key x) k
        (λ i. let l : other_key x < 1099511627776 = ltb-true (other_key x) 1099511627776 (other_fits x u) in let m : 1099511627776 ≤ k = ltb-false k 1099511627776 t in omega arith))

pub others-once : (xs : List ℕ) → all key_fits xs ≡ true → ascending xs ≡ true → (k : ℕ) → count_if (λ (x : ℕ). eqb x k) (map other_key xs) ≤ 1
others-once xs e up k = rw (other-count xs e k) (go (key_fits k))
  where
    go : (b : Bool) → cond b (count_if (λ (x : ℕ). eqb x (other_key k)) xs) 0 ≤ 1
    go true = ascending-once xs up (other_key k)
    go false = omega arith

pub others-ascend : (xs : List ℕ) → all key_fits xs ≡ true → ascending xs ≡ true → ascending (sort (map other_key xs)) ≡ true
others-ascend xs e up = sort-ascends (map other_key xs) (others-once xs e up)

module _ (ks cs : List ℕ) (e : all key_fits ks ≡ true) (f : all key_fits cs ≡ true) (up : ascending ks ≡ true) (rise : ascending cs ≡ true) where
  alike : (k : ℕ) → count_if (λ (x : ℕ). eqb x k) (toggled (sort (map other_key ks)) (sort (map other_key cs)))
      ≡ count_if (λ (x : ℕ). eqb x k) (sort (map other_key (toggled ks cs)))
  alike k =
      toggled-count (sort (map other_key ks)) (sort (map other_key cs)) (others-ascend ks e up) (others-ascend cs f rise) k
      ∙ ap₂ turned_by (count-sort _ (map other_key cs) ∙ other-count cs f k) (count-sort _ (map other_key ks) ∙ other-count ks e k)
      ∙ go (key_fits k)
      ∙ sym (count-sort _ (map other_key (toggled ks cs)) ∙ other-count (toggled ks cs) (all-toggled key_fits ks cs e f) k)
    where
      go : (b : Bool) → turned_by (cond b (count_if (λ (x : ℕ). eqb x (other_key k)) cs) 0) (cond b (count_if (λ (x : ℕ). eqb x (other_key k)) ks) 0)
          ≡ cond b (count_if (λ (x : ℕ). eqb x (other_key k)) (toggled ks cs)) 0
      go true = sym (toggled-count ks cs up rise (other_key k))
      go false = refl

  pub others-toggled : toggled (sort (map other_key ks)) (sort (map other_key cs)) ≡ sort (map other_key (toggled ks cs))
  others-toggled =
      ascending-same _ _ (ascending-toggled (sort (map other_key ks)) (sort (map other_key cs)) (others-ascend ks e up))
      (others-ascend (toggled ks cs) (all-toggled key_fits ks cs e f) (ascending-toggled ks cs up)) alike

-- ---- edges

module _ (n : ℕ) (few : n < 65536) where
  edge_other : (c : Edge) → fitting n c ≡ true → key backward c ≡ other_key (key forward c)
  edge_other c t =
      let f : Fitting n c = fitting-edge n c t in
      sym (other-parts c.source c.label c.target f.label_fits (omega (arith, f.target_in)))

  edge-fits : (c : Edge) → fitting n c ≡ true → key_fits (key forward c) ≡ true
  edge-fits c t =
      let f : Fitting n c = fitting-edge n c t in
      lt-ltb (key forward c) 1099511627776 (omega (arith, f.source_in, f.label_fits, f.target_in))

  pub edges-other : (es : List Edge) → all (fitting n) es ≡ true → map (key backward) es ≡ map other_key (map (key forward) es)
  edges-other es e = map-under (fitting n) (key backward) (λ (c : Edge). other_key (key forward c)) es e edge_other ∙ sym (map-map other_key (key forward) es)

  pub edges-fit-keys : (es : List Edge) → all (fitting n) es ≡ true → all key_fits (map (key forward) es) ≡ true
  edges-fit-keys es e = all_map key_fits (key forward) es ∙ all-follows (fitting n) (λ (c : Edge). key_fits (key forward c)) es e edge-fits
