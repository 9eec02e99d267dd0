-- `store_check::searched` meets its contract: lists that do not fit refuse the store, and then the reverses decide. Assumes nothing.
use mathlib.Core.Path.{◌≡◌, sym, ◌∙◌}
use mathlib.Core.Bool.{true}
use native.Mathlib.Omega.{arith}
use Rattle.store_reverse.specs.Inner.Check.{side_fits}
use Rattle.store_check.proofs.Counting.{counted-few, counted-edges, forward-room, backward-room}
use Rattle.store_check.proofs.Decided.{lists-refuse, lists-within, back-good, reverses-decide}
use Rattle.store_check.proofs.searched.Goals as goal

pub lists_fit-requires : goal.lists_fit-requires
lists_fit-requires c = record { m_in_bounds = (backward-room c.requires.counted, c.requires.forward_value.1); n_bound = (counted-few c.requires.counted, counted-edges c.requires.counted) }

pub returns-then-not-lists_fit : goal.returns-then-not-lists_fit
returns-then-not-lists_fit c = lists-refuse c.requires.counted c.lists_fit.ensures c.if-not-lists_fit.true

pub overflow_mul-n : goal.overflow_mul-n
overflow_mul-n c = omega (arith, counted-few c.requires.counted)

pub short_side_reverses-requires : goal.short_side_reverses-requires
short_side_reverses-requires c = let fit : let a = c.args in side_fits a.store.now a.n a.backward ≡ true = let a = c.args in
    sym c.lists_fit.ensures ∙ c.if-not-lists_fit.false in
    let k = c.requires.counted in
    record { m_in_bounds = (forward-room k, c.requires.forward_value.0); good_side = back-good k c.requires.store_value c.requires.forward_value.0 c.requires.forward_value.1 (fit); n_bound = (counted-few k, counted-edges k) }

pub returns-then-m-n : goal.returns-then-m-n
returns-then-m-n c = let fit : let a = c.args in side_fits a.store.now a.n a.backward ≡ true = let a = c.args in
    sym c.lists_fit.ensures ∙ c.if-not-lists_fit.false in
    reverses-decide c.requires.counted c.requires.store_value c.requires.forward_value.0 c.requires.forward_value.1 c.short_side_reverses.ensures (fit)

pub side_reverses-requires : goal.side_reverses-requires
side_reverses-requires c = let fit : let a = c.args in side_fits a.store.now a.n a.backward ≡ true = let a = c.args in
    sym c.lists_fit.ensures ∙ c.if-not-lists_fit.false in
    let k = c.requires.counted in
    record { by_index = lists-within k c.requires.store_value c.requires.forward_value.0 c.requires.forward_value.1; good_side = back-good k c.requires.store_value c.requires.forward_value.0 c.requires.forward_value.1 (fit); n_bound = counted-few k }

pub returns : goal.returns
returns c = let fit : let a = c.args in side_fits a.store.now a.n a.backward ≡ true = let a = c.args in
    sym c.lists_fit.ensures ∙ c.if-not-lists_fit.false in
    reverses-decide c.requires.counted c.requires.store_value c.requires.forward_value.0 c.requires.forward_value.1 c.side_reverses.ensures (fit)
