-- `store_check::vertices_fit` meets its contract: where the labels fit, the days decide. Assumes nothing.
use mathlib.Core.Path.{◌∙◌}
use Rattle.store_reverse.specs.Inner.Check.{labels_fit, days_fit}
use Rattle.store_check.proofs.Decided.{labels-part, days-part, goes-on, stops-at}
use Rattle.store_check.proofs.vertices_fit.Goals as goal

pub returns-then-words_fit : goal.returns-then-words_fit
returns-then-words_fit c = let s = c.args.store.now in
    goes-on (labels_fit s) (days_fit s) (c.words_fit.ensures ∙ labels-part s c.requires.0 c.requires.1) c.if-words_fit.true
    (c.words_fit-then-words_fit.ensures ∙ days-part s c.requires.0 c.requires.1)

pub returns-else-words_fit : goal.returns-else-words_fit
returns-else-words_fit c = let s = c.args.store.now in
    c.if-words_fit.false ∙ stops-at (labels_fit s) (days_fit s) (c.words_fit.ensures ∙ labels-part s c.requires.0 c.requires.1) c.if-words_fit.false
