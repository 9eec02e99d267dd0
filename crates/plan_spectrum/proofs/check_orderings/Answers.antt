-- `plan_spectrum::check_orderings` meets its contract: each refusal where those before it are not given. Assumes nothing.
use mathlib.Core.Path.{◌≡◌, sym, ◌∙◌, ap, subst}
use Prim.Native.Nat.{ℕ, ◌≤◌, ◌<◌}
use Rattle.std.proofs.lemmas.Result.{err_from_is_err_and}
use Rattle.refusals.proofs.Laws.{numbered}
use Rattle.query.specs.Answer.{struct_of}
use Rattle.query.specs.File.{query_of}
use Rattle.query.specs.declared.Query.{Query as QueryStruct}
use Rattle.query_file.proofs.FileLaws.{query_readable}
use Rattle.plan_spectrum.specs.Spectrum.{max_spectrum}
use Rattle.plan_spectrum.proofs.Answers.{early-query, early-large, early-store}
use Rattle.plan_spectrum.proofs.check_orderings.Goals as goal

pub returns-in_err-check_query : goal.returns-in_err-check_query
returns-in_err-check_query c =
    let p = err_from_is_err_and c.from_residual.result c.from_residual.ensures.1 in
    rw (p.1, p.2) (early-query c.args.store.now c.args.query.now _ c.in_err-check_query.ensures (numbered _))

pub query_of-requires : goal.query_of-requires
query_of-requires c = query_readable _ (sym c.in_ok-check_query.ensures)

pub returns-then-query_of-gt-MAX_VERTICES : goal.returns-then-query_of-gt-MAX_VERTICES
unfolding struct_of
returns-then-query_of-gt-MAX_VERTICES c =
    let vertices_are : c.query_of.result.vertices ≡ (query_of c.args.query.now).vertices = ap (λ (d : QueryStruct). d.vertices) c.query_of.ensures in
    early-large c.args.store.now c.args.query.now (sym c.in_ok-check_query.ensures)
    (subst (λ (n : ℕ). max_spectrum < n) vertices_are c.if-query_of-gt-MAX_VERTICES.true)

pub returns : goal.returns
unfolding struct_of
returns c =
    let vertices_are : c.query_of.result.vertices ≡ (query_of c.args.query.now).vertices = ap (λ (d : QueryStruct). d.vertices) c.query_of.ensures in
    c.check_store.ensures
    ∙ early-store c.args.store.now c.args.query.now (sym c.in_ok-check_query.ensures)
    (subst (λ (n : ℕ). n ≤ max_spectrum) vertices_are c.if-query_of-gt-MAX_VERTICES.false)
