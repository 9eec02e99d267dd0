-- The answers of one step, and of several in turn. Assumes nothing.
use mathlib.Core.Path.{◌≡◌, refl, sym, ◌∙◌, ap, subst}
use mathlib.Core.Bool.{Bool, ◌&&◌}
use mathlib.Core.List.{List}
use Prim.Native.Nat.{ℕ, ◌+◌, ◌*◌, ◌/◌, ◌≤◌, ◌<◌}
use native.Mathlib.Omega.{arith}
use lib.ListN.{length, get_or, set, replicate, length-replicate, get_or-replicate}
use Rattle.adjacency.specs.Inner.Side.{list_on}
use Rattle.store_reverse.specs.Inner.Check.{list_fits, list_reversed}
use Rattle.store_step.specs.Inner.Walk.{sides_agree, Refutes, Outcome, Matched, WalkedIn, Sides, Blocks, Tables, Labelled, StepFrom}
use Rattle.store_step.proofs.Agreeing.{list-breaks}
use Rattle.store_step.proofs.Walking.{walked_on, walked_next}

-- ---- answers

pub undecided : {b : Bool} {H : Type 0} → Outcome 1 b H
undecided = record { passed = λ e. absurd (omega arith); refutes = λ h one. absurd (one refl) }

pub holds : {b : Bool} {H : Type 0} → H → Outcome 0 b H
holds h = record { passed = λ e. h; refutes = λ no one. absurd (no refl) }

pub passes_on : {r : ℕ} {b : Bool} {H : Type 0} → Outcome r b H → r ≡ 0 → Outcome 0 b H
passes_on o e = holds (o.passed e)

-- An answer that is not 0 is handed on.
pub handed : {r : ℕ} {b : Bool} {H G : Type 0} → Outcome r b H → (r ≡ 0 → ⊥) → Outcome r b G
handed o h = record { passed = λ e. absurd (h e); refutes = o.refutes }

-- ---- a step

module _ {store : List ℕ} {n side other : ℕ} {back : List ℕ} {base v : ℕ} {cursors done : List ℕ} (s : Sides store n side other back)
    (f : StepFrom store n side other back base v cursors done) {list : List ℕ} (q : list ≡ list_on store n side v) where
  pub begins-inside : {from : ℕ} → from ≡ get_or done v 0 → from ≤ length list
  begins-inside e = rw q (omega (arith, f.walked.inside v f.vertex_in))

  pub walked_step : {from i : ℕ} {new : List ℕ} → from ≡ get_or done v 0 → Matched n v base list back from i cursors new
      → WalkedIn store n side other back new (set done v i) (base + v + 1)
  walked_step {from} {i} {new} e m =
      walked_next f.walked f.vertex_in s.few f.labelled.begins f.labelled.given f.labelled.narrow
      (subst (λ (l : List ℕ). Matched n v base l back (get_or done v 0) i cursors new) q
      (subst (λ (k : ℕ). Matched n v base list back k i cursors new) e m))
      f.done_fit

  pub verdict-outcome : {H : Type 0} {r : ℕ} → H → Refutes r (list_fits n list && list_reversed store n other v list)
      → Outcome r (sides_agree store n side other) H
  verdict-outcome {H} {r} h g =
      record {
        passed = λ e. h;
        refutes =
            λ no one.
            ((g one).0, list-breaks store n side other v f.vertex_in (ap (λ (l : List ℕ). list_fits n l && list_reversed store n other v l) (sym q) ∙ (g one).1));
      }

-- ---- the tables

pub tables-kept : {n : ℕ} {cursors done sets cursors' done' sets' : List ℕ} → Tables n cursors done sets → length cursors' ≡ length cursors
    → length done' ≡ length done → length sets' ≡ length sets → Tables n cursors' done' sets'
tables-kept {n} t a b c =
    record {
      cursors_fit = omega (arith, t.cursors_fit);
      done_fit = omega (arith, t.done_fit);
      sets_fit = subst (λ (k : ℕ). Blocks n k) (sym c) t.sets_fit;
    }

-- Tables as they are made.
pub tables-made : {n : ℕ} (a b c : ℕ) → n ≤ a → n ≤ b → Blocks n c → Tables n (replicate a 0) (replicate b 0) (replicate c 0)
tables-made {n} a b c h k s =
    record {
      cursors_fit = omega (arith, length-replicate {A = ℕ} a 0);
      done_fit = omega (arith, length-replicate {A = ℕ} b 0);
      sets_fit = subst (λ (j : ℕ). Blocks n j) (sym (length-replicate {A = ℕ} c 0)) s;
    }

pub none_done : {n : ℕ} (a : ℕ) → n ≤ a → (v : ℕ) → v < n → get_or {A = ℕ} (replicate a 0) v 0 ≡ 0
none_done a h v l = get_or-replicate {A = ℕ} a v 0 0 (omega arith)

-- The word of a vertex in a set.
pub word_in : {n words v set : ℕ} → Blocks n words → v < n → set < 16 → v / 64 * 16 + set < words
word_in b h k = omega (arith, b.long, b.fit)

pub block_in : {n words set : ℕ} → Blocks n words → (i : ℕ) → i * 64 < n → set < 16 → i * 16 + set < words
block_in b i h k = omega (arith, b.long, b.fit)

-- A vertex that is not passed yet.
pub next-step : {store : List ℕ} {n side other : ℕ} {back : List ℕ} {base v next : ℕ} {cursors done sets : List ℕ} → Labelled base
    → Tables n cursors done sets → WalkedIn store n side other back cursors done next → v < n → next ≤ base + v
    → StepFrom store n side other back base v cursors done
next-step l t w h k =
    record { vertex_in = h; labelled = l; cursors_fit = t.cursors_fit; done_fit = t.done_fit; walked = walked_on w k }
