-- The limits of a query: '8 vertices or 24 edges read; 9 vertices, 1 vertex or 25 edges give 8'. Assumes nothing.
use mathlib.Core.Path.{◌≡◌, refl, sym, ◌∙◌, ap}
use mathlib.Core.Bool.{true, and-false}
use mathlib.Core.List.{List, [], ◌∷◌}
use Prim.Native.Nat.{ℕ, ◌≤◌}
use lib.ListN.{length}
use borrow.Author.Tests.{eqb-false}
use Rattle.lists.specs.Lists.{range, all, any, keep}
use Rattle.lists.specs.Refusal.{refuse, first}
use Rattle.packed.specs.Field.{bit_at, field_at, fill_set}
use Rattle.query.specs.Query.{reached, connected}
use Rattle.query.specs.File.{vertex_count, edge_count, query_of, outside_limits, query_fault}
use Rattle.query_file.specs.Inner.Parts.{query_file_fault}
use Rattle.query_file.proofs.FileLaws.{limits-first, query-first}

-- 8 vertices of any label and day, each with an edge of label 1 to the next three around: 24 edges; no pair.
pub largest : List ℕ
largest = 140 ∷ 0 ∷ 0 ∷ 0 ∷ 0 ∷ 127 ∷ 255 ∷ 128 ∷ 0 ∷ 0 ∷ 0 ∷ 127 ∷ 255 ∷ 128 ∷ 0 ∷ 0 ∷ 0 ∷ 127 ∷ 255 ∷ 128 ∷ 0 ∷ 0 ∷ 0 ∷ 127 ∷ 255 ∷ 128 ∷ 0 ∷ 0 ∷ 0 ∷ 127 ∷ 255 ∷ 128 ∷ 0 ∷ 0 ∷ 0 ∷ 127 ∷ 255 ∷ 128 ∷ 0 ∷ 0 ∷ 0 ∷ 127 ∷ 255 ∷ 128 ∷ 0 ∷ 0 ∷ 0 ∷ 127 ∷ 255 ∷ 130 ∷ 2 ∷ 16 ∷ 8 ∷ 96 ∷ 37 ∷ 0 ∷ 150 ∷ 2 ∷ 96 ∷ 10 ∷ 96 ∷ 42 ∷ 0 ∷ 170 ∷ 2 ∷ 224 ∷ 11 ∷ 160 ∷ 47 ∷ 0 ∷ 202 ∷ 3 ∷ 48 ∷ 12 ∷ 224 ∷ 52 ∷ 0 ∷ 220 ∷ 3 ∷ 120 ∷ 14 ∷ 0 ∷ 56 ∷ 128 ∷ 238 ∷ 3 ∷ 192 ∷ 15 ∷ 32 ∷ 61 ∷ 0 ∷ 128 ∷ []

pub largest-read : query_fault largest ≡ 0
unfolding largest query_fault first range all any keep reached connected query_of bit_at field_at fill_set
largest-read = refl

-- A count outside its limits gives 8, in every file of 2 bytes or more.
outside : (s : List ℕ) → 2 ≤ length s → outside_limits s ≡ true → query_fault s ≡ 8
outside s h e =
    let eight : refuse 8 (outside_limits s) ≡ 8 = ap (refuse 8) e in
    let file : query_file_fault s ≡ 8 = limits-first s h (λ z. eqb-false 8 0 refl (sym eight ∙ z)) ∙ eight in
    query-first s (λ z. eqb-false 8 0 refl (sym file ∙ z)) ∙ file

pub one-vertex : (s : List ℕ) → 2 ≤ length s → vertex_count s ≡ 1 → query_fault s ≡ 8
one-vertex s h e = outside s h (rw e refl)

pub nine-vertices : (s : List ℕ) → 2 ≤ length s → vertex_count s ≡ 9 → query_fault s ≡ 8
nine-vertices s h e = outside s h (rw e refl)

pub many-edges : (s : List ℕ) → 2 ≤ length s → edge_count s ≡ 25 → query_fault s ≡ 8
many-edges s h e = outside s h (rw (e, and-false) refl)
