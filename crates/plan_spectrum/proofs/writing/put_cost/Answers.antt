-- `plan_spectrum::writing::put_cost` meets its contract. Assumes nothing.
use Rattle.plan_spectrum.proofs.Laying.{put_two}
use Prim.Native.Nat.{◌/◌, ◌%◌}
use Rattle.plan_spectrum.proofs.writing.put_cost.Goals as goal

pub returns : goal.returns
returns c = put_two (c.args.cost / 4294967296) (c.args.cost % 4294967296) c.args.out.now c.requires
