-- `sheet::lines::put_numbers` meets its contract: the first i numbers are written, blanks follow. Assumes nothing.
use Prim.Native.Nat.{◌+◌, ◌-◌, ◌*◌}
use native.Mathlib.Omega.{arith}
use Rattle.sheet.proofs.Numbered.{numbered-none, numbered-kept, numbered-part, numbered_next, numbered-all, asked, fitting-at}
use Rattle.sheet.proofs.lines.put_numbers.Goals as goal

pub loop-i-init : goal.loop-i-init
loop-i-init c = numbered-none _ _ c.requires.1

pub slice_bounds-put_number-end : goal.slice_bounds-put_number-end
slice_bounds-put_number-end c = omega (arith, numbered-kept _ _ c.loop-i.text c.loop-i.i c.requires.0 c.requires.2 c.loop-i.invariant)

pub put_number-requires : goal.put_number-requires
put_number-requires c = asked _ _ (numbered-part _ _ c.loop-i.text c.loop-i.i c.requires.0 c.requires.2 c.loop-i.invariant (8 * c.loop-i.i + 8 - 8 * c.loop-i.i) (omega arith) (omega arith))
    (fitting-at _ c.loop-i.i (omega arith) c.requires.2)

pub loop-i-preserved : goal.loop-i-preserved
loop-i-preserved c = numbered_next _ _ c.loop-i.text c.loop-i.i c.requires.0 c.requires.2 c.loop-i.invariant c.put_number.new.columns
    (8 * c.loop-i.i + 8 - 8 * c.loop-i.i) (omega arith) (omega arith) c.put_number.ensures

pub returns : goal.returns
returns c = numbered-all _ _ c.loop-i.text c.loop-i.i c.requires.0 c.requires.2 c.loop-i.invariant (omega arith)
