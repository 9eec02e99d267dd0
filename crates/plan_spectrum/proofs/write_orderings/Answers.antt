-- `plan_spectrum::write_orderings` meets its contract. Assumes nothing.
-- The orderings lie in the list, and there is room for their costs.
use mathlib.Core.Path.{refl, sym, ◌∙◌, ap, subst}
use mathlib.Core.List.{List, ◌++◌}
use Prim.Native.Nat.{ℕ, ◌+◌, ◌-◌, ◌*◌, ◌≤◌, ◌<◌}
use native.Mathlib.Omega.{arith}
use lib.ListN.{length, drop, replicate, length-replicate}
use Rattle.refusals.proofs.Laws.{numbered}
use Rattle.graph.specs.Store.{graph_in}
use Rattle.query.specs.Inner.Struct.{query_in}
use Rattle.plan_spectrum.specs.Orders.{orderings}
use Rattle.plan_spectrum.specs.Inner.Parts.{Lie}
use Rattle.plan_spectrum.proofs.Pricing.{list_long}
use Rattle.plan_spectrum.proofs.Finishing.{entries-room, room_small, entries-written}
use Rattle.plan_spectrum.proofs.Answers.{settled-short, settled-refused, settled-written, listed-flat}
use Rattle.plan_spectrum.proofs.write_orderings.Goals as goal

pub overflow_mul-plans : goal.overflow_mul-plans
overflow_mul-plans c = omega (arith, room_small c.args.q c.list_orderings-plans.result c.list_orderings-plans.ensures.1 c.requires.0.at_most)

pub returns-then-words-plans : goal.returns-then-words-plans
returns-then-words-plans c = let l = c.list_orderings-plans in
    rw c.refused.ensures
    (settled-short (graph_in c.args.store.now) (query_in c.args.q) (length c.args.work.now) c.args.words.now
    (subst (λ (n : ℕ). length c.args.words.now < n) (entries-room c.args.q l.result l.ensures.0.number) c.if-words-plans.true))

pub run_orderings-requires : goal.run_orderings-requires
run_orderings-requires c = let lied : let a = c.args in Lie a.store.now a.q c.list_orderings-plans.new.out c.list_orderings-plans.result a.work.now (replicate 144 0) = record {
  accepted = c.requires.1;
  small = c.requires.0;
  number = c.list_orderings-plans.ensures.0.number;
  rest = _;
  lie = listed-flat (orderings (query_in c.args.q)) _ c.list_orderings-plans.new.out c.list_orderings-plans.result c.list_orderings-plans.ensures.0;
  room = subst (λ (n : ℕ). c.list_orderings-plans.result ≤ n) (sym (length-replicate {A = ℕ} 144 0)) c.list_orderings-plans.ensures.1;
  short = c.requires.2;
} in
    lied

pub returns-in-Err : goal.returns-in-Err
returns-in-Err c = let l = c.list_orderings-plans in
    let r = c.run_orderings in
    rw c.refused-in-Err.ensures
    (settled-refused (graph_in c.args.store.now) (query_in c.args.q) (length c.args.work.now) c.args.words.now
    (subst (λ (n : ℕ). n ≤ length c.args.words.now) (entries-room c.args.q l.result l.ensures.0.number) c.if-words-plans.false)
    r.new.costs _ c.in-Err.ensures (numbered _))

pub write_entries-requires : goal.write_entries-requires
write_entries-requires c = let lied : let a = c.args in Lie a.store.now a.q c.list_orderings-plans.new.out c.list_orderings-plans.result a.work.now (replicate 144 0) = record {
  accepted = c.requires.1;
  small = c.requires.0;
  number = c.list_orderings-plans.ensures.0.number;
  rest = _;
  lie = listed-flat (orderings (query_in c.args.q)) _ c.list_orderings-plans.new.out c.list_orderings-plans.result c.list_orderings-plans.ensures.0;
  room = subst (λ (n : ℕ). c.list_orderings-plans.result ≤ n) (sym (length-replicate {A = ℕ} 144 0)) c.list_orderings-plans.ensures.1;
  short = c.requires.2;
} in
    let l = c.list_orderings-plans in
    let r = c.run_orderings in (
      list_long c.args.store.now c.args.q l.new.out l.result c.args.work.now (replicate 144 0) (lied),
      subst (λ (n : ℕ). l.result ≤ n) (sym (r.auto.costs ∙ length-replicate {A = ℕ} 144 0)) l.ensures.1,
      subst (λ (n : ℕ). l.result * n ≤ length c.args.words.now) (omega (arith, c.requires.0.at-least)) c.if-words-plans.false,
      omega (arith, c.requires.0.at_most),
    )

pub returns-in-Ok : goal.returns-in-Ok
returns-in-Ok c = let lied : let a = c.args in Lie a.store.now a.q c.list_orderings-plans.new.out c.list_orderings-plans.result a.work.now (replicate 144 0) = record {
  accepted = c.requires.1;
  small = c.requires.0;
  number = c.list_orderings-plans.ensures.0.number;
  rest = _;
  lie = listed-flat (orderings (query_in c.args.q)) _ c.list_orderings-plans.new.out c.list_orderings-plans.result c.list_orderings-plans.ensures.0;
  room = subst (λ (n : ℕ). c.list_orderings-plans.result ≤ n) (sym (length-replicate {A = ℕ} 144 0)) c.list_orderings-plans.ensures.1;
  short = c.requires.2;
} in
    let l = c.list_orderings-plans in
    let r = c.run_orderings in
    let w = c.write_entries in
    settled-written (graph_in c.args.store.now) (query_in c.args.q) (length c.args.work.now) c.args.words.now
    (subst (λ (n : ℕ). n ≤ length c.args.words.now) (entries-room c.args.q l.result l.ensures.0.number) c.if-words-plans.false)
    r.new.costs _ c.in-Ok.ensures refl l.result w.new.out l.ensures.0.number
    (w.ensures
    ∙ ap (λ (e : List ℕ). e ++ drop (length e) c.args.words.now)
    (entries-written c.args.store.now c.args.q l.new.out l.result c.args.work.now (replicate 144 0) (lied) r.new.costs _ c.in-Ok.ensures refl))
