-- `sheet::lines::put_heading` meets its contract. Assumes nothing.
use mathlib.Core.Path.{sym}
use lib.Seq.{length-take-le}
use native.Mathlib.Omega.{arith}
use Rattle.sheet.proofs.Heading.{long, heading-asks, heading-put}
use Rattle.sheet.proofs.lines.put_heading.Goals as goal

pub slice_bounds-put_numbers-end-2 : goal.slice_bounds-put_numbers-end-2
slice_bounds-put_numbers-end-2 c = omega (arith, long c.args.page c.args.pages c.args.bytes.now c.requires.0 c.requires.1 c.requires.2)

pub slice_bounds-put_numbers-end-3 : goal.slice_bounds-put_numbers-end-3
slice_bounds-put_numbers-end-3 c = sym (length-take-le 80 c.args.bytes.now (omega (arith, long c.args.page c.args.pages c.args.bytes.now c.requires.0 c.requires.1 c.requires.2)))

pub put_numbers-requires : goal.put_numbers-requires
put_numbers-requires c = heading-asks c.args.page c.args.pages c.args.bytes.now c.requires.0 c.requires.1 c.requires.2

pub returns : goal.returns
returns c = heading-put c.args.page c.args.pages c.args.bytes.now c.requires.0 c.requires.1 c.requires.2 _ c.put_numbers.ensures
