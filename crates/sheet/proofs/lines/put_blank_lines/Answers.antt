-- `sheet::lines::put_blank_lines` meets its contract: the first i lines are blank. Assumes nothing.
use Prim.Native.Nat.{◌+◌, ◌-◌, ◌*◌}
use native.Mathlib.Omega.{arith}
use Rattle.sheet.proofs.Blanked.{blanked-none, blanked-kept, blanked-line, blanked-next, blanked-page}
use Rattle.sheet.proofs.lines.put_blank_lines.Goals as goal

pub loop-i-init : goal.loop-i-init
loop-i-init c = blanked-none _

pub slice_bounds-put_blank_line-end : goal.slice_bounds-put_blank_line-end
slice_bounds-put_blank_line-end c = omega (arith, blanked-kept _ c.loop-i.bytes c.loop-i.i c.requires c.loop-i.invariant)

pub put_blank_line-requires : goal.put_blank_line-requires
put_blank_line-requires c = let l = c.loop-i in
    blanked-line _ l.bytes l.i c.requires l.invariant (81 * l.i + 81 - 81 * l.i) (omega arith) (omega arith)

pub loop-i-preserved : goal.loop-i-preserved
loop-i-preserved c = blanked-next _ c.loop-i.bytes c.loop-i.i c.requires c.loop-i.invariant c.put_blank_line.new.text
    (81 * c.loop-i.i + 81 - 81 * c.loop-i.i) (omega arith) (omega arith) c.put_blank_line.ensures

pub returns : goal.returns
returns c = blanked-page _ c.loop-i.bytes c.loop-i.i c.requires c.loop-i.invariant (omega arith)
