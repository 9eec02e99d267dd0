-- `planner::pack::put_extends` meets its contract. The loop's invariant: the bits of the first i extends are written. Assumes nothing.
use mathlib.Core.Path.{◌≡◌, sym, ◌∙◌, ap}
use mathlib.Core.List.{List, ◌++◌}
use mathlib.Core.Path.{refl}
use Prim.Native.Nat.{ℕ, ◌-◌, ◌<◌}
use native.Mathlib.Omega.{arith}
use lib.ListN.{length-append}
use borrow.Author.Rules.{rules}
use Rattle.packed.specs.Inner.Put.{written}
use Rattle.query.specs.Inner.Mask.{in_mask}
use Rattle.query.specs.Inner.Struct.{query_in}
use Rattle.plan_order.specs.Order.{next_vertex, extends_from}
use Rattle.planner.proofs.Ordering.{length-extends}
use Rattle.planner.proofs.Turns.{turned_none, turned-next, turned_more, bits_to, length-bits_to, bits_to-none, bits_to-more, bits_to-all}
use Rattle.planner.proofs.pack.put_extends.Goals as goal

pub overflow_sub-extends : goal.overflow_sub-extends
overflow_sub-extends c = c.requires.0.vertices

pub loop-i-init : goal.loop-i-init
loop-i-init c = let a = c.args in (
  refl,
  search rules,
  refl,
  turned_none (query_in a.q) (a.q.vertices - 2) a.set,
  λ old bits e l. e ∙ ap (written old) (sym (bits_to-none bits (extends_from (query_in a.q) (in_mask a.set) (a.q.vertices - 2)))),
)

pub next_vertex-v-requires : goal.next_vertex-v-requires
next_vertex-v-requires c = c.requires.0

pub put_extend-requires : goal.put_extend-requires
put_extend-requires c = let l = c.loop-i in (
  omega (arith, c.requires.0.held.vertices),
  omega (arith, l.invariant.2),
  omega (arith, c.next_vertex-v.ensures.1, c.requires.0.held.vertices),
)

pub only-covered-requires : goal.only-covered-requires
only-covered-requires c = omega (arith, c.next_vertex-v.ensures.1, c.requires.0.held.vertices)

pub loop-i-preserved : goal.loop-i-preserved
loop-i-preserved c = let l = c.loop-i in
    let q = query_in c.args.q in
    let S = in_mask c.args.set in
    let n = c.args.q.vertices - 2 in
    let v = c.next_vertex-v.result in
    let vs = extends_from q S n in
    let below : l._i < n = search rules in
    let next : v ≡ next_vertex q (in_mask l.covered) = c.next_vertex-v.ensures.0 in (
      omega arith,
      search rules,
      c.put_extend.auto.plan ∙ l.invariant.2,
      turned_more q n S l._i l.covered v l.invariant.3 below next c.only-covered.result c.only-covered.ensures,
      λ old bits e k.
          c.put_extend.ensures old (bits ++ bits_to vs l._i) (l.invariant.4 old bits e k)
          (length-append bits (bits_to vs l._i) ∙ omega (arith, length-bits_to vs l._i (rw length-extends (omega arith))))
          ∙ ap (written old) (bits_to-more bits vs l._i v (rw length-extends below) (turned-next q n S l._i l.covered v l.invariant.3 below next)),
    )

pub returns : goal.returns
returns c old bits e k = c.loop-i.invariant.4 old bits e k
    ∙ ap (λ (l : List ℕ). written old (bits ++ l))
    (bits_to-all (extends_from (query_in c.args.q) (in_mask c.args.set) (c.args.q.vertices - 2)) c.loop-i._i (rw length-extends (omega arith)))
