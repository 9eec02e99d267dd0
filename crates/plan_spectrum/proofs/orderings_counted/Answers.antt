-- `plan_spectrum::orderings_counted` meets its contract. Assumes nothing.
use mathlib.Core.Path.{◌≡◌, sym, ◌∙◌, ap, subst}
use Prim.Native.Nat.{ℕ, ◌≤◌}
use lib.ListN.{length}
use Rattle.refusals.proofs.Laws.{numbered}
use Rattle.graph.specs.Store.{graph_in, store_fault}
use Rattle.query.specs.Query.{Query}
use Rattle.query.specs.File.{query_of, query_fault}
use Rattle.query.specs.Inner.Struct.{query_in}
use Rattle.query_file.proofs.FileLaws.{query_readable}
use Rattle.query_file.proofs.Structs.{file-struct}
use Rattle.plan_spectrum.specs.Spectrum.{max_spectrum}
use Rattle.plan_spectrum.specs.Inner.Parts.{Settled}
use Rattle.plan_spectrum.proofs.Finishing.{read_small}
use Rattle.plan_spectrum.proofs.Answers.{done-early, early_read, early_few, early_good, done-settled}
use Rattle.plan_spectrum.proofs.orderings_counted.Goals as goal

pub returns-in-Err : goal.returns-in-Err
returns-in-Err c = let a = c.args in
    rw c.refused.ensures
    (done-early a.store.now a.query.now (length a.work.now) a.words.now _ c.in-Err.ensures (numbered c.in-Err.refusal))

pub query_of-requires : goal.query_of-requires
query_of-requires c = query_readable _ (early_read c.args.store.now c.args.query.now (sym c.in-Ok.ensures))

pub write_orderings-requires : goal.write_orderings-requires
write_orderings-requires c = let a = c.args in
    let none = sym c.in-Ok.ensures in (
      rw c.query_of.ensures (read_small a.query.now (early_read a.store.now a.query.now none) (early_few a.store.now a.query.now none)),
      early_good a.store.now a.query.now none,
      c.requires,
    )

pub returns-in-Ok : goal.returns-in-Ok
returns-in-Ok c = let a = c.args in
    let none = sym c.in-Ok.ensures in
    done-settled a.store.now a.query.now (length a.work.now) a.words.now (early_read a.store.now a.query.now none) (early_few a.store.now a.query.now none)
    (early_good a.store.now a.query.now none) _ _
    (subst (λ (q : Query). Settled (graph_in a.store.now) q (length a.work.now) a.words.now c.write_orderings.new.words c.write_orderings.result)
    (ap query_in c.query_of.ensures ∙ file-struct a.query.now) c.write_orderings.ensures)
