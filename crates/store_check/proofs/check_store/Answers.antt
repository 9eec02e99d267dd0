-- `store_check::check_store` meets its contract: a damage other than 0 is the one refusal. Assumes nothing.
use mathlib.Core.Path.{sym, ◌∙◌, ap}
use Rattle.store_reverse.specs.Inner.Check.{unless}
use Rattle.store_check.proofs.check_store.Goals as goal

pub returns-then-not-is_loaded : goal.returns-then-not-is_loaded
returns-then-not-is_loaded c = sym (ap unless c.if-not-is_loaded.true) ∙ c.is_loaded.ensures

pub returns : goal.returns
returns c = sym (ap unless c.if-not-is_loaded.false) ∙ c.is_loaded.ensures
