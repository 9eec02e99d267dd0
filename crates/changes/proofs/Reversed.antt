-- What is toggled twice is as before. Assumes nothing.
use mathlib.Core.Path.{◌≡◌, refl, sym, ◌∙◌, ap}
use mathlib.Core.Bool.{Bool, true, false, cond, not}
use mathlib.Core.List.{List, map, map-map}
use Prim.Native.Nat.{ℕ, zero, suc, ◌-◌, ◌≤◌, ◌<◌}
use native.Mathlib.Omega.{arith}
use lib.Dec.{eqb, ltb}
use Rattle.lists.specs.Lists.{all, any, count_if, ascending}
use Rattle.lists.proofs.Tests.{eqb_refl}
use Rattle.lists.proofs.All.{all-mem, mem-all}
use Rattle.lists.proofs.Any.{any-count}
use Rattle.lists.proofs.Count.{count_map, mem-count, all_map}
use Rattle.lists.proofs.Sort.{ascending-once, ascending-same}
use Rattle.change_file.specs.File.{Change}
use Rattle.changes.specs.Edit.{change_key, edited_keys, applies}
use Rattle.changes.specs.Claims.{turned}
use Rattle.change_merge.specs.Inner.Toggle.{toggled}
use Rattle.change_merge.proofs.Toggles.{ascending-toggled}
use Rattle.changes.proofs.Flips.{turned_by, toggled-count}
use Rattle.changes.proofs.Edited.{edited-toggled}

module _ (ks cs : List ℕ) (up : ascending ks ≡ true) (rise : ascending cs ≡ true) where
  -- Toggled twice, every number counts as before.
  twice : (k : ℕ) → count_if (λ (z : ℕ). eqb z k) (toggled (toggled ks cs) cs) ≡ count_if (λ (z : ℕ). eqb z k) ks
  twice k =
      toggled-count (toggled ks cs) cs (ascending-toggled ks cs up) rise k ∙ ap (turned_by n) (toggled-count ks cs up rise k)
      ∙ back n (count_if (λ (z : ℕ). eqb z k) ks) (ascending-once ks up k)
    where
      n : ℕ
      n = count_if (λ (y : ℕ). eqb y k) cs

      back : (n c : ℕ) → c ≤ 1 → turned_by n (turned_by n c) ≡ c
      back zero c l = refl
      back (suc n) c l = omega arith

  pub toggled-twice : toggled (toggled ks cs) cs ≡ ks
  toggled-twice = ascending-same _ ks (ascending-toggled (toggled ks cs) cs (ascending-toggled ks cs up)) up twice

  -- A number of the list is present after it where it was absent before, and the other way round.
  pub presence-turns : (k : ℕ) → 0 < count_if (λ (y : ℕ). eqb y k) cs → any (λ (z : ℕ). eqb z k) (toggled ks cs) ≡ not (any (λ (z : ℕ). eqb z k) ks)
  presence-turns k h =
      let one : count_if (λ (y : ℕ). eqb y k) cs ≡ 1 = omega (arith, ascending-once cs rise k) in
      any-count (λ (z : ℕ). eqb z k) (toggled ks cs)
      ∙ rw (toggled-count ks cs up rise k, one) (turns (count_if (λ (z : ℕ). eqb z k) ks) (ascending-once ks up k))
      ∙ ap not (sym (any-count (λ (z : ℕ). eqb z k) ks))
    where
      turns : (n : ℕ) → n ≤ 1 → ltb 0 (1 - n) ≡ not (ltb 0 n)
      turns zero l = refl
      turns (suc zero) l = refl
      turns (suc (suc n)) l = absurd (omega arith)

-- ---- a change and its reverse

pub keys-turned : (cs : List Change) → map change_key (map turned cs) ≡ map change_key cs
keys-turned cs = map-map change_key turned cs

-- After changes that apply, their reverses do.
pub turned-apply : (ks : List ℕ) (cs : List Change) → ascending ks ≡ true → ascending (map change_key cs) ≡ true → all (applies ks) cs ≡ true
    → all (applies (toggled ks (map change_key cs))) (map turned cs) ≡ true
turned-apply ks cs up rise e =
    all_map (applies (toggled ks (map change_key cs))) turned cs
    ∙ all-mem (λ (c : Change). applies (toggled ks (map change_key cs)) (turned c)) cs
    (λ c m.
    turns c.adds (any (λ (k : ℕ). eqb k (change_key c)) ks) (any (λ (k : ℕ). eqb k (change_key c)) (toggled ks (map change_key cs)))
    (presence-turns ks (map change_key cs) up rise (change_key c)
    (rw (count_map (λ (k : ℕ). eqb k (change_key c)) change_key cs) (mem-count (λ (d : Change). eqb (change_key d) (change_key c)) m (eqb_refl (change_key c)))))
    (mem-all (applies ks) m e))
  where
    turns : (a p q : Bool) → q ≡ not p → cond a (not p) p ≡ true → cond (not a) (not q) q ≡ true
    turns true p q e t = e ∙ t
    turns false p q e t = ap not e ∙ back p ∙ t
      where
        back : (p : Bool) → not (not p) ≡ p
        back true = refl
        back false = refl

-- So the edited keys, edited by the reverse, are the old ones.
pub edited-back : (ks : List ℕ) (cs : List Change) → ascending ks ≡ true → ascending (map change_key cs) ≡ true → all (applies ks) cs ≡ true
    → edited_keys (edited_keys ks cs) (map turned cs) ≡ ks
edited-back ks cs up rise e =
    ap (λ (l : List ℕ). edited_keys l (map turned cs)) (edited-toggled ks up cs rise e)
    ∙ edited-toggled (toggled ks (map change_key cs)) (ascending-toggled ks (map change_key cs) up) (map turned cs) (ap ascending (keys-turned cs) ∙ rise) (turned-apply ks cs up rise e)
    ∙ ap (toggled (toggled ks (map change_key cs))) (keys-turned cs)
    ∙ toggled-twice ks (map change_key cs) up rise
