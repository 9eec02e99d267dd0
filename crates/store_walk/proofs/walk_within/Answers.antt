-- `store_walk::walk_within` meets its contract: its tables are large enough. Assumes nothing.
use Rattle.store_step.proofs.Stepping.{tables-made, none_done}
use Rattle.store_walk.proofs.walk_within.Goals as goal

pub walk-requires : goal.walk-requires
walk-requires g c = record { both_rise = (c.requires.0, tables-made g.row.VERTICES g.row.VERTICES g.row.SETS c.requires.1 c.requires.1 c.requires.2); by_index = none_done g.row.VERTICES c.requires.1 }
