-- `store_check::start_falls` meets its contract: a list with no word has no first. Assumes nothing.
use Rattle.store_check.proofs.Order.{start_none, start-some}
use Rattle.store_check.proofs.start_falls.Goals as goal

pub returns-then-store-side : goal.returns-then-store-side
returns-then-store-side c = let a = c.args in start_none a.store.now a.n a.side a.v c.if-store-side.true

pub returns : goal.returns
returns c = let a = c.args in start-some a.store.now a.n a.side a.v c.if-store-side.false
