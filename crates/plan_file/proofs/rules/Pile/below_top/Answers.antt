-- `plan_file::rules::Pile::below_top` meets its contract (`get_or-stack`). Assumes nothing.
use mathlib.Core.Path.{sym}
use Rattle.plan.proofs.Stacks.{get_or-stack}
use Rattle.plan_file.proofs.rules.Pile.below_top.Goals as goal

pub returns : goal.returns
returns c = sym (get_or-stack c.args.under c.args.self.depth _ c.requires.0)
