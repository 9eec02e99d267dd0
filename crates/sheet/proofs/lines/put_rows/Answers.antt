-- `sheet::lines::put_rows` meets its contract: the first i rows are written, the other lines are blank. Assumes nothing.
use Prim.Native.Nat.{◌+◌, ◌-◌, ◌*◌}
use native.Mathlib.Omega.{arith}
use Rattle.sheet.proofs.Rowed.{row_inside, rowed-none, rowed-kept, rowed-asks, rowed-next, rowed-all}
use Rattle.sheet.proofs.lines.put_rows.Goals as goal

pub loop-i-init : goal.loop-i-init
loop-i-init c = rowed-none _ _ _ _ c.requires.4

pub overflow_mul-from : goal.overflow_mul-from
overflow_mul-from c = omega (arith, c.requires.2, row_inside c.args.n c.loop-i.i c.args.rows (omega arith))

pub overflow_add-from : goal.overflow_add-from
overflow_add-from c = omega (arith, c.requires.2, row_inside c.args.n c.loop-i.i c.args.rows (omega arith))

pub offset_bounds-words-from : goal.offset_bounds-words-from
offset_bounds-words-from c = omega (arith, c.requires.2, row_inside c.args.n c.loop-i.i c.args.rows (omega arith))

pub slice_bounds-put_numbers-end : goal.slice_bounds-put_numbers-end
slice_bounds-put_numbers-end c = omega (arith, c.requires.2, row_inside c.args.n c.loop-i.i c.args.rows (omega arith))

pub slice_bounds-put_numbers-end-in-loop-i : goal.slice_bounds-put_numbers-end-in-loop-i
slice_bounds-put_numbers-end-in-loop-i c = omega (arith, rowed-kept _ _ _ c.loop-i.lines c.loop-i.i c.requires.0 c.requires.1 c.requires.2 c.requires.3 c.loop-i.invariant)

pub put_numbers-requires : goal.put_numbers-requires
put_numbers-requires c = rowed-asks _ _ _ c.loop-i.lines c.loop-i.i c.requires.0 c.requires.1 c.requires.2 c.requires.3 c.loop-i.invariant
    (81 * c.loop-i.i + 80 - 81 * c.loop-i.i) (c.args.n * c.loop-i.i + c.args.n - c.args.n * c.loop-i.i) (omega arith) (omega arith) (omega arith)

pub loop-i-preserved : goal.loop-i-preserved
loop-i-preserved c = rowed-next _ _ _ c.loop-i.lines c.loop-i.i c.requires.0 c.requires.1 c.requires.2 c.requires.3 c.loop-i.invariant
    (81 * c.loop-i.i + 80 - 81 * c.loop-i.i) (c.args.n * c.loop-i.i + c.args.n - c.args.n * c.loop-i.i) (omega arith) (omega arith) (omega arith)
    c.put_numbers.new.text c.put_numbers.ensures

pub returns : goal.returns
returns c = rowed-all _ _ _ c.loop-i.lines c.loop-i.i c.requires.0 c.requires.1 c.requires.2 c.requires.3 c.loop-i.invariant (omega arith)
