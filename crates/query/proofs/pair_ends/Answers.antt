-- `query::pair_ends` meets its contract: after i pairs, the ends that these have with v. Assumes nothing.
use mathlib.Core.Path.{◌≡◌, ◌∙◌, ap}
use Prim.Native.Nat.{ℕ}
use native.Mathlib.Omega.{arith}
use borrow.Author.Rules.{rules}
use Rattle.query.proofs.Pairs.{by_pairs, pairs-none, pairs-more}
use Rattle.query.proofs.pair_ends.Goals as goal

pub loop-i-init : goal.loop-i-init
loop-i-init c = pairs-none c.args.v c.args.ones.now c.args.others.now

pub pair_end-found-requires : goal.pair_end-found-requires
pair_end-found-requires c = c.requires.1 c.loop-i.i (search rules)

pub loop-i-preserved : goal.loop-i-preserved
loop-i-preserved c = pairs-more c.args.v c.args.ones.now c.args.others.now c.loop-i.i _ _ c.loop-i.invariant c.pair_end-found.ensures

pub returns : goal.returns
returns c w = let a = c.args in
    let all : c.loop-i.i ≡ a.pairs = omega arith in
    c.loop-i.invariant w ∙ ap (λ (i : ℕ). by_pairs a.v a.ones.now a.others.now i w) all
