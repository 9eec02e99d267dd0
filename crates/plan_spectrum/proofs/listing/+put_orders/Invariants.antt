-- `plan_spectrum::listing::put_orders` meets its contract, by recursion on the number of vertices that are left. Assumes nothing.
use lib.ListN.{take}
use Rattle.plan_spectrum.proofs.Turning.{Turned}
use Prim.Native.Nat.{◌-◌}
use Rattle.plan_spectrum.proofs.listing.+put_orders.Given as goal

abbrev pub decreases-put_orders : goal.decreases-put_orders
decreases-put_orders l = l.left

abbrev pub invariant-loop-v : goal.invariant-loop-v
invariant-loop-v l = Turned l.q l.set (l.left - 1) (take l.at l.row) l.initial.out l.out l.found l.v
