-- `store_check::lists_fit` meets its contract: the ranges of all entries, and then the order within lists. Assumes nothing.
use Rattle.store_reverse.proofs.Offsets.{offsets-rising, offsets-within}
use Rattle.store_check.proofs.Order.{ranges-refuse, order-decides}
use Rattle.store_check.proofs.lists_fit.Goals as goal

pub returns-then-entries_faults-ne0 : goal.returns-then-entries_faults-ne0
returns-then-entries_faults-ne0 c = ranges-refuse c.args.store.now c.args.n c.args.m c.args.side c.requires.m_in_bounds.0 c.requires.m_in_bounds.1 c.entries_faults.ensures c.if-entries_faults-ne0.true

pub starts_fall-requires : goal.starts_fall-requires
starts_fall-requires c = let room = c.requires.m_in_bounds.0 in (
  offsets-within c.args.store.now c.args.n c.args.m c.args.side room
      (offsets-rising c.args.store.now c.args.n c.args.m c.args.side room c.requires.m_in_bounds.1),
  c.requires.n_bound.0,
)

pub returns : goal.returns
returns c = order-decides c.args.store.now c.args.n c.args.m c.args.side c.requires.m_in_bounds.0 c.requires.m_in_bounds.1 c.entries_faults.ensures
    c.falls.ensures c.starts_fall.ensures c.if-entries_faults-ne0.false
