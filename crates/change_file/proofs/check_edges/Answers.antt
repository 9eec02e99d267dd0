-- `change_file::check_edges` meets its contract. The loop's invariant: the changes before i fit, and `least` is one more than the key
-- of the one before i. Assumes nothing.
use mathlib.Core.Path.{◌≡◌}
use mathlib.Core.Bool.{false}
use native.Mathlib.Omega.{arith}
use Rattle.change_file.specs.File.{change_fits}
use Rattle.change_file.proofs.Reading.{Read, fit_none, stops, bad-source, bad-target, bad-label, bad-order, fits_next, all_fit}
use Rattle.change_file.proofs.check_edges.Goals as goal
use Rattle.change_file.proofs.check_edges.Goals.{then-n-s-via-then-n-s, then-n-s-via-else-n-s+then-n-e, then-n-s-via-else-n-s+else-n-e+then-e-lt-SPAN}

pub loop-i-init : goal.loop-i-init
loop-i-init c = fit_none _ _

pub returns-then-n-s : goal.returns-then-n-s
returns-then-n-s c = let read : let a = c.args in
    Read a.n a.file.now c.loop-i.least c.loop-i.i c.source-s.result c.forward_entry-e.result = record { before = c.loop-i.invariant; source = c.source-s.ensures.0; its_entry = c.forward_entry-e.ensures.0 } in
    let bad : change_fits c.args.n c.args.file.now c.loop-i.i ≡ false =
    elim c.then-n-s.branch [
      | then-n-s-via-then-n-s w ↦ bad-source read w.if-n-s.true
      | then-n-s-via-else-n-s+then-n-e w ↦ bad-target read (omega arith) w.if-n-e.true
      | then-n-s-via-else-n-s+else-n-e+then-e-lt-SPAN w ↦ bad-label read (omega arith) (omega arith) w.if-e-lt-SPAN.true
    ] in
    stops read (omega arith) bad

pub returns-then-key-least : goal.returns-then-key-least
returns-then-key-least c = let read : let a = c.args in
    Read a.n a.file.now c.loop-i.least c.loop-i.i c.source-s.result c.forward_entry-e.result = record { before = c.loop-i.invariant; source = c.source-s.ensures.0; its_entry = c.forward_entry-e.ensures.0 } in
    stops read (omega arith) (bad-order read (omega arith) (omega arith) (omega arith) c.change_key-key.ensures c.if-key-least.true)

pub loop-i-preserved : goal.loop-i-preserved
loop-i-preserved c = let read : let a = c.args in
    Read a.n a.file.now c.loop-i.least c.loop-i.i c.source-s.result c.forward_entry-e.result = record { before = c.loop-i.invariant; source = c.source-s.ensures.0; its_entry = c.forward_entry-e.ensures.0 } in
    fits_next read (omega arith) (omega arith) (omega arith) c.change_key-key.ensures (omega arith)

pub returns : goal.returns
returns c = all_fit _ c.loop-i.invariant (omega arith)
