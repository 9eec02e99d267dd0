-- The pile of the sets that results cover, as the code has it. Assumes nothing.
use Rattle.std.specs.Prelude.{List, map, ℕ}
use Rattle.query.specs.Query.{VertexSet}
use Rattle.query.specs.Inner.Mask.{in_mask}
use Rattle.plan.specs.Inner.Pile.{stack}
use Rattle.plan_file.specs.declared.rules.Pile.{Pile}

-- The masks of a pile's sets, the top one first.
abbrev pub masks_in : Pile → List ℕ
masks_in p = stack p.depth p.sets

-- The sets that the results in a pile cover, the top one first.
abbrev pub sets_in : Pile → List VertexSet
sets_in p = map in_mask (masks_in p)
