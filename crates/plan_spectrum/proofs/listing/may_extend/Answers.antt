-- `plan_spectrum::listing::may_extend` meets its contract, by its two tests as masks. Assumes nothing.
-- Past the first test, v is not in the set; and an edge joins it to the set where its neighbours meet the set.
use mathlib.Core.Path.{◌≡◌, refl, sym, ◌∙◌, ap}
use mathlib.Core.Bool.{false, not, not-not}
use lib.Dec.{eqb}
use lib.Bits.{bit_and}
use Rattle.query.specs.Query.{touches}
use Rattle.query.specs.Inner.Struct.{query_in}
use Rattle.query.specs.Inner.Mask.{in_mask}
use Rattle.query.proofs.Touch.{touches-mask}
use Rattle.plan_spectrum.proofs.Steps.{extends-is}
use borrow.Author.Rules.{rules}
use Rattle.plan_spectrum.proofs.listing.may_extend.Goals as goal

pub returns-else-not-member : goal.returns-else-not-member
returns-else-not-member c = let a = c.args in rw (extends-is (query_in a.q) (in_mask a.set) a.v, sym c.member.ensures ∙ c.if-not-member.false) (ap not c.if-not-member.false)

pub returns-then-not-member : goal.returns-then-not-member
returns-then-not-member c = let outside : in_mask c.args.set c.args.v ≡ false = sym c.member.ensures ∙ c.if-not-member.true in
    let settled : let a = c.args in touches (query_in a.q) a.v (in_mask a.set) ≡ not (eqb (bit_and c.adjacent.result a.set) 0) = let a = c.args in
    touches-mask 32 c.adjacent.result a.set (query_in a.q) a.v (in_mask a.set) (search rules) c.adjacent.ensures (λ w. refl) in
    let a = c.args in
    rw (extends-is (query_in a.q) (in_mask a.set) a.v, outside, settled, not-not)
