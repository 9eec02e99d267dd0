-- `plan_spectrum::listing::put_orders` meets its contract, by recursion on the number of vertices that are left. Assumes nothing.
use mathlib.Core.Path.{sym, ◌∙◌, subst}
use mathlib.Core.List.{List}
use native.Mathlib.Omega.{arith}
use lib.ListN.{length, take}
use borrow.Rule.Slice.PartMut.{same_len_mid}
use Rattle.query.specs.Inner.Struct.{query_in}
use Rattle.query.specs.Inner.Mask.{in_mask}
use Rattle.plan_spectrum.specs.Orders.{orders_from}
use Rattle.plan_spectrum.specs.Inner.Parts.{Listed}
use Rattle.plan_spectrum.proofs.Turning.{leaf, copy-fits, start, found-fits, done, skipped, next-asks, turned, found-small}
use Prim.Native.Nat.{ℕ, ◌+◌, ◌-◌, ◌*◌}
use Rattle.plan_spectrum.proofs.listing.+put_orders.Goals as goal
use Rattle.plan_spectrum.proofs.listing.+put_orders.Goals.{then-may_extend, else-may_extend}

pub copy-requires : goal.copy-requires
copy-requires t c = copy-fits c.args.q c.args.set c.args.row c.args.at c.args.out.now c.args.left c.if-left-eq0.true c.requires

pub returns-then-left-eq0 : goal.returns-then-left-eq0
returns-then-left-eq0 t c = subst (λ (l : List ℕ). Listed (take c.args.at c.args.row) (orders_from (query_in c.args.q) (in_mask c.args.set) c.args.left) c.args.out.now l 1)
    (sym c.copy.ensures) (leaf c.args.q c.args.set c.args.row c.args.at c.args.out.now c.args.left c.if-left-eq0.true c.requires)

pub loop-v-init : goal.loop-v-init
loop-v-init t c = start c.args.q c.args.set c.args.left c.args.row c.args.at c.args.out.now c.requires c.if-left-eq0.false

pub may_extend-requires : goal.may_extend-requires
may_extend-requires t c = (c.requires.held, omega (arith, c.requires.held.vertices, c.loop-v-test.true))

pub overflow_mul-found : goal.overflow_mul-found
overflow_mul-found t c = let lp = c.loop-v in
    omega (arith, found-fits c.args.q c.args.set c.args.left c.args.row c.args.at c.args.out.now c.requires c.if-left-eq0.false lp.out lp.found lp.v lp.invariant)

pub offset_bounds-out-found : goal.offset_bounds-out-found
offset_bounds-out-found t c = let lp = c.loop-v in
    omega (arith, found-fits c.args.q c.args.set c.args.left c.args.row c.args.at c.args.out.now c.requires c.if-left-eq0.false lp.out lp.found lp.v lp.invariant)

pub slice_bounds-put_orders-count : goal.slice_bounds-put_orders-count
slice_bounds-put_orders-count t c = let lp = c.loop-v in
    omega (arith, found-fits c.args.q c.args.set c.args.left c.args.row c.args.at c.args.out.now c.requires c.if-left-eq0.false lp.out lp.found lp.v lp.invariant)

pub slice_bounds-put_orders-start : goal.slice_bounds-put_orders-start
slice_bounds-put_orders-start t c = let lp = c.loop-v in
    omega (arith, found-fits c.args.q c.args.set c.args.left c.args.row c.args.at c.args.out.now c.requires c.if-left-eq0.false lp.out lp.found lp.v lp.invariant)

pub slice_bounds-put_orders-end : goal.slice_bounds-put_orders-end
slice_bounds-put_orders-end t c = let lp = c.loop-v in
    omega (arith, found-fits c.args.q c.args.set c.args.left c.args.row c.args.at c.args.out.now c.requires c.if-left-eq0.false lp.out lp.found lp.v lp.invariant)

pub put_orders-found-requires : goal.put_orders-found-requires
put_orders-found-requires t c = let lp = c.loop-v in
    (omega (arith, c.if-left-eq0.false), next-asks c.args.q c.args.set c.args.left c.args.row c.args.at c.args.out.now c.requires c.if-left-eq0.false lp.out lp.found lp.v lp.invariant c.loop-v-test.true (sym c.may_extend.ensures ∙ c.if-may_extend.true) c.only.result c.only.ensures)

pub overflow_add-found : goal.overflow_add-found
overflow_add-found t c = let lp = c.loop-v in
    omega (arith, found-small c.args.q c.args.set c.args.left c.args.row c.args.at c.args.out.now c.requires c.if-left-eq0.false lp.out lp.found lp.v lp.invariant c.loop-v-test.true (sym c.may_extend.ensures ∙ c.if-may_extend.true) c.only.result c.only.ensures c.put_orders-found.new.out c.put_orders-found.result c.put_orders-found.ensures)

pub loop-v-preserved : goal.loop-v-preserved
loop-v-preserved t c = let lp = c.loop-v in
    elim c.if-may_extend.branch [
      | then-may_extend w ↦
          rw (w.found-is, w.out-is)
          (turned c.args.q c.args.set c.args.left c.args.row c.args.at c.args.out.now c.requires c.if-left-eq0.false lp.out lp.found lp.v lp.invariant c.loop-v-test.true (sym c.may_extend.ensures ∙ w.if-may_extend.true) w.only.result w.only.ensures w.put_orders-found.new.out w.put_orders-found.result w.put_orders-found.ensures
          (same_len_mid (lp.found * (c.args.at + c.args.left)) (length lp.out - lp.found * (c.args.at + c.args.left)) lp.out w.put_orders-found.new.out w.put_orders-found.auto.out))
      | else-may_extend w ↦ rw (w.found-is, w.out-is) (skipped c.args.q c.args.set c.args.left c.args.row c.args.at c.args.out.now c.requires c.if-left-eq0.false lp.out lp.found lp.v lp.invariant c.loop-v-test.true (sym c.may_extend.ensures ∙ w.if-may_extend.false))
    ]

pub returns : goal.returns
returns t c = let lp = c.loop-v in
    done c.args.q c.args.set c.args.left c.args.row c.args.at c.args.out.now c.requires c.if-left-eq0.false lp.out lp.found lp.v lp.invariant (λ h. absurd (omega (arith, h)))
