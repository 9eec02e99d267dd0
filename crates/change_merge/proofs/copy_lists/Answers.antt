-- `change_merge::copy_lists` meets its contract. Assumes nothing.
use native.Mathlib.Omega.{arith}
use lib.ListN.{length-drop}
use Rattle.lists.proofs.Parts.{rest_at}
use Rattle.change_merge.proofs.Copying.{copy-rises, copy-there, copy-fits, olds-long, rest-long, olds-fit, copied}
use Rattle.change_merge.proofs.copy_lists.Goals as goal

pub overflow_sub-count : goal.overflow_sub-count
overflow_sub-count c = copy-rises c.requires.0 c.args.side.now c.requires.1

pub slice_bounds-copy-count : goal.slice_bounds-copy-count
slice_bounds-copy-count c = omega (arith, copy-there c.requires.0 c.args.side.now c.requires.1)

pub slice_bounds-copy-start : goal.slice_bounds-copy-start
slice_bounds-copy-start c = omega (arith, copy-there c.requires.0 c.args.side.now c.requires.1)

pub copy-requires : goal.copy-requires
copy-requires c = (
  rw (rest_at _ _, length-drop) (omega (arith, copy-there c.requires.0 c.args.side.now c.requires.1)),
  rw (rest_at _ _, length-drop) (omega (arith, copy-fits c.requires.0 c.args.side.now c.requires.1)),
)

pub move_offsets-requires : goal.move_offsets-requires
move_offsets-requires c = (
  olds-long c.requires.0 c.args.side.now c.requires.1 c.copy.ensures,
  rest-long c.requires.0 c.args.side.now c.requires.1 c.copy.ensures,
  olds-fit c.requires.0 c.args.side.now c.requires.1 c.copy.ensures,
)

pub returns : goal.returns
returns c = copied c.requires.0 c.args.side.now c.requires.1 c.copy.ensures c.move_offsets.ensures
