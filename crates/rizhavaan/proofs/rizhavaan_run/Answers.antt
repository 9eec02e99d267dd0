-- `rizhavaan::rizhavaan_run` meets its contract: it hands on what Run answers. Assumes nothing.
use Rattle.std.proofs.Common.{sym, ◌∙◌, subst, length}
use Rattle.run_spec.specs.Complete.{ListsEveryMatch}
use Rattle.rizhavaan.proofs.rizhavaan_run.Goals as goal

pub returns : goal.returns
returns c =
    let e = c.run-answer.ensures in
    record {
      answer = sym e.answer ∙ c.give_numbers.ensures;
      matches = e.rows;
      recorded = e.recorded;
      cleared = e.cleared;
      complete =
          subst
          (ListsEveryMatch c.args.cache c.args.store.now c.args.query.now c.args.plan.now (length c.args.scratch.now) c.args.list.now c.run-answer.new.list
          c.args.records.now c.run-answer.new.records)
          c.give_numbers.ensures e.complete;
    }
