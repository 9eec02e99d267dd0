-- `query::pair_end` meets its contract. Assumes nothing.
use mathlib.Core.Path.{◌≡◌, sym, ◌∙◌, ap}
use mathlib.Core.Bool.{Bool, true, false, ◌&&◌, and-true, and-false}
use lib.Dec.{eqb}
use borrow.Author.Rules.{rules}
use borrow.Author.Tests.{eq-eqb, ne_eqb}
use Rattle.lists.proofs.Tests.{eqb-sym}
use Rattle.query.proofs.Masks.{in-none}
use Rattle.query.proofs.pair_end.Goals as goal

pub returns-then-other-v : goal.returns-then-other-v
returns-then-other-v c w = let a = c.args in
    let met : eqb a.other a.v ≡ true = eq-eqb a.other a.v (search rules) in
    c.only.ensures w ∙ eqb-sym w a.one ∙ sym (ap (λ (b : Bool). eqb a.one w && b) met ∙ and-true (eqb a.one w))

pub returns-else-other-v : goal.returns-else-other-v
returns-else-other-v c w = let a = c.args in
    let missed : eqb a.other a.v ≡ false = ne_eqb a.other a.v (search rules) in
    in-none w ∙ sym (ap (λ (b : Bool). eqb a.one w && b) missed ∙ and-false (eqb a.one w))
