-- `changes::fill::fill` meets its contract. Assumes nothing.
use native.Mathlib.Omega.{arith}
use Rattle.changes.proofs.Filled.{low-vertices, head-kept, part_room, store-made}
use Rattle.changes.proofs.fill.fill.Goals as goal

pub fill_head-requires : goal.fill_head-requires
fill_head-requires c = head-kept c.requires.0 c.requires.1 c.requires.2

pub overflow_mul-n : goal.overflow_mul-n
overflow_mul-n c = omega (arith, low-vertices c.requires.0)

pub overflow_add-n : goal.overflow_add-n
overflow_add-n c = omega (arith, low-vertices c.requires.0)

pub offset_bounds-store-n : goal.offset_bounds-store-n
offset_bounds-store-n c = omega (arith, low-vertices c.requires.0)

pub slice_bounds-sides-count : goal.slice_bounds-sides-count
slice_bounds-sides-count c = (part_room c.requires.0 c.args.store.now c.requires.1 c.requires.2 c.fill_head.ensures).0

pub slice_bounds-sides-start : goal.slice_bounds-sides-start
slice_bounds-sides-start c = (part_room c.requires.0 c.args.store.now c.requires.1 c.requires.2 c.fill_head.ensures).0

pub sides-requires : goal.sides-requires
sides-requires c = (c.requires.0, c.requires.1, (part_room c.requires.0 c.args.store.now c.requires.1 c.requires.2 c.fill_head.ensures).1)

pub returns : goal.returns
returns c = store-made c.requires.0 c.args.store.now c.requires.1 c.requires.2 c.fill_head.ensures c.sides.ensures
