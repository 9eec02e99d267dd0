-- `plan_spectrum::writing::put_entry` meets its contract. Assumes nothing.
use native.Mathlib.Omega.{arith}
use Rattle.plan_spectrum.specs.Spectrum.{cost_words}
use Rattle.plan_spectrum.proofs.Laying.{entry-put}
use Rattle.plan_spectrum.proofs.writing.put_entry.Goals as goal

pub returns : goal.returns
returns c = entry-put c.args.list.now c.args.out.now c.copy.new.to c.put_cost.new.out (cost_words c.args.cost) c.args.width c.requires.0
    (omega (arith, c.requires.1, c.copy.auto.to)) c.copy.ensures c.put_cost.ensures
