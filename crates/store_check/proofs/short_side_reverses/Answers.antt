-- `store_check::short_side_reverses` meets its contract: where the lists fit, the reverses decide. Assumes nothing.
use mathlib.Core.Path.{sym, ◌∙◌}
use native.Mathlib.Omega.{arith}
use Rattle.store_reverse.specs.Inner.Check.{side_fits, side_reversed}
use Rattle.store_check.proofs.Decided.{goes-on, stops-at}
use Rattle.store_check.proofs.short_side_reverses.Goals as goal

pub short_lists_reversed-requires : goal.short_lists_reversed-requires
short_lists_reversed-requires c = record { room = c.requires.m_in_bounds.0; rises = c.requires.m_in_bounds.1; fits = sym c.lists_fit.ensures ∙ c.if-lists_fit.true; good = c.requires.good_side; few = omega (arith, c.requires.n_bound.0); countable = omega (arith, c.requires.n_bound.1) }

pub returns-then-lists_fit : goal.returns-then-lists_fit
returns-then-lists_fit c = let a = c.args in
    goes-on (side_fits a.store.now a.n a.side) (side_reversed a.store.now a.n a.side a.other) c.lists_fit.ensures c.if-lists_fit.true c.short_lists_reversed.ensures

pub returns-else-lists_fit : goal.returns-else-lists_fit
returns-else-lists_fit c = let a = c.args in
    c.if-lists_fit.false ∙ stops-at (side_fits a.store.now a.n a.side) (side_reversed a.store.now a.n a.side a.other) c.lists_fit.ensures c.if-lists_fit.false
