-- `query::other_end` meets its contract. Assumes nothing.
use mathlib.Core.Path.{sym, ◌∙◌}
use Rattle.query.specs.Inner.Struct.{as_edge}
use Rattle.query.proofs.Masks.{in-none}
use Rattle.query.proofs.Touch.{from-source, from-target, from-neither}
use Rattle.query.proofs.other_end.Goals as goal

pub returns-then-e-v : goal.returns-then-e-v
returns-then-e-v c w = c.only.ensures w ∙ sym (from-source (as_edge c.args.e) c.args.v w (search))

pub returns-then-e-v-2 : goal.returns-then-e-v-2
returns-then-e-v-2 c w = c.only-then-e-v-2.ensures w
    ∙ sym (from-target (as_edge c.args.e) c.args.v w (search) (search))

pub returns-else-e-v-2 : goal.returns-else-e-v-2
returns-else-e-v-2 c w = in-none w ∙ sym (from-neither (as_edge c.args.e) c.args.v w (search) (search))
