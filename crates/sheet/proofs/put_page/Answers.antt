-- `sheet::put_page` meets its contract. Assumes nothing.
use native.Mathlib.Omega.{arith}
use Rattle.sheet.proofs.Written.{begins, begins-small, heading-asked, rows_end, rows-small, rows-asked, page-whole}
use Rattle.sheet.proofs.put_page.Goals as goal

pub put_heading-requires : goal.put_heading-requires
put_heading-requires c = heading-asked c.args.bytes.now c.requires _ c.put_blank_lines.ensures

pub overflow_mul-first : goal.overflow_mul-first
overflow_mul-first c = omega (arith, begins-small c.args.bytes.now c.requires)

pub overflow_sub-rows : goal.overflow_sub-rows
overflow_sub-rows c = begins c.args.bytes.now c.requires

pub overflow_mul-from : goal.overflow_mul-from
overflow_mul-from c = omega (arith, rows-small c.args.bytes.now c.requires c.min-count.result c.min-count.ensures)

pub overflow_mul-n : goal.overflow_mul-n
overflow_mul-n c = omega (arith, rows-small c.args.bytes.now c.requires c.min-count.result c.min-count.ensures)

pub overflow_add-from : goal.overflow_add-from
overflow_add-from c = omega (arith, rows-small c.args.bytes.now c.requires c.min-count.result c.min-count.ensures)

pub offset_bounds-list-from : goal.offset_bounds-list-from
offset_bounds-list-from c = omega (arith, rows-small c.args.bytes.now c.requires c.min-count.result c.min-count.ensures)

pub slice_bounds-put_rows-end : goal.slice_bounds-put_rows-end
slice_bounds-put_rows-end c = omega (arith, rows_end c.args.bytes.now c.requires c.min-count.result c.min-count.ensures)

pub put_rows-requires : goal.put_rows-requires
put_rows-requires c = let b = c.put_blank_lines in
    let h = c.put_heading in
    let r = c.min-count in
    rows-asked c.args.bytes.now c.requires _ b.ensures _ h.ensures r.result r.ensures

pub returns : goal.returns
returns c = let b = c.put_blank_lines in
    let h = c.put_heading in
    let r = c.min-count in
    page-whole c.args.bytes.now c.requires _ b.ensures _ h.ensures r.result r.ensures _ c.put_rows.ensures
