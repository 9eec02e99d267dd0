-- `sheet::page_count` meets its contract. Assumes nothing.
use native.Mathlib.Omega.{arith}
use Rattle.sheet.specs.Page.{page_count}
use Rattle.sheet.proofs.page_count.Goals as goal

pub returns : goal.returns
unfolding page_count
returns c = omega arith
