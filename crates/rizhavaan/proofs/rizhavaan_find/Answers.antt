-- `rizhavaan::rizhavaan_find` meets its contract: it hands on what Find answers. Assumes nothing.
use Rattle.std.proofs.Common.{sym, ◌∙◌, subst, length}
use Rattle.planner.specs.Complete.{DrawnListsEveryMatch}
use Rattle.rizhavaan.proofs.rizhavaan_find.Goals as goal

pub returns : goal.returns
returns c =
    let e = c.find-answer.ensures in
    record {
      answer = sym e.answer ∙ c.give_numbers.ensures;
      drawn = e.drawn;
      packed = e.packed;
      matches = e.rows;
      recorded = e.recorded;
      cleared = e.cleared;
      complete =
          subst
          (DrawnListsEveryMatch c.args.cache c.args.store.now c.args.query.now c.args.plan.now (length c.args.scratch.now) c.args.list.now c.find-answer.new.list
          c.args.records.now c.find-answer.new.records)
          c.give_numbers.ensures e.complete;
    }
