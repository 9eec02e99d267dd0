-- `query::Query::check_connected` meets its contract: none of its vertices is missing in those reached. Assumes nothing.
use mathlib.Core.Path.{◌≡◌, ◌∙◌, sym, ap}
use mathlib.Core.Bool.{Bool, not}
use lib.Dec.{eqb}
use borrow.Author.Rules.{rules}
use borrow.Author.Tests.{eq-eqb, ne_eqb}
use Rattle.lists.specs.Refusal.{refuse}
use Rattle.query.specs.Query.{connected}
use Rattle.query.specs.Inner.Struct.{query_in}
use Rattle.query.proofs.Steps.{connected-mask}
use Rattle.query.proofs.Query.check_connected.Goals as goal

pub returns-then-minus-ne0 : goal.returns-then-minus-ne0
unfolding query_in
returns-then-minus-ne0 c = let settled : connected (query_in c.args.self) ≡ eqb c.minus.result 0 = connected-mask (query_in c.args.self) _ _ c.minus.result (search rules) c.below.ensures
    c.reached.ensures c.minus.ensures in
    sym (ap (λ (b : Bool). refuse 11 (not b)) (settled ∙ ne_eqb _ 0 c.if-minus-ne0.true))

pub returns : goal.returns
unfolding query_in
returns c = let settled : connected (query_in c.args.self) ≡ eqb c.minus.result 0 = connected-mask (query_in c.args.self) _ _ c.minus.result (search rules) c.below.ensures
    c.reached.ensures c.minus.ensures in
    sym (ap (λ (b : Bool). refuse 11 (not b)) (settled ∙ eq-eqb _ 0 c.if-minus-ne0.false))
