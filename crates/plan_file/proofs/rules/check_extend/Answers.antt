-- `plan_file::rules::check_extend` meets its contract, by its two tests as masks. Assumes nothing.
-- Past the first test, v is not in the set; and an edge joins it to the set where its neighbours meet the set.
use mathlib.Core.Path.{◌≡◌, refl, sym, ◌∙◌}
use mathlib.Core.Bool.{false, not}
use lib.Dec.{eqb}
use lib.Bits.{bit_and}
use borrow.Author.Tests.{ne_eqb}
use Rattle.query.specs.Query.{touches}
use Rattle.query.specs.Inner.Struct.{query_in}
use Rattle.query.specs.Inner.Mask.{in_mask}
use Rattle.query.proofs.Touch.{touches-mask}
use borrow.Author.Rules.{rules}
use Rattle.plan_file.proofs.rules.check_extend.Goals as goal
use Rattle.plan_file.proofs.rules.check_extend.Goals.{then-member-via-then-member, then-member-via-else-member+then-adjacent-s-eq0}

pub returns-then-member : goal.returns-then-member
returns-then-member c = let a = c.args in
    elim c.then-member.branch [
      | then-member-via-then-member w ↦ rw (sym c.member.ensures ∙ w.if-member.true)
      | then-member-via-else-member+then-adjacent-s-eq0 w ↦
          let settled = touches-mask 32 w.adjacent.result a.s (query_in a.q) a.v (in_mask a.s) (search rules) w.adjacent.ensures (λ w. refl) in
          rw (sym c.member.ensures ∙ w.if-member.false, settled, w.if-adjacent-s-eq0.true)
    ]

pub returns : goal.returns
returns c = let a = c.args in
    let settled = touches-mask 32 c.adjacent.result a.s (query_in a.q) a.v (in_mask a.s) (search rules) c.adjacent.ensures (λ w. refl) in
    rw (sym c.member.ensures ∙ c.if-member.false, settled, ne_eqb _ 0 c.if-adjacent-s-eq0.false)
