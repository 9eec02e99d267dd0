-- `changes::edits::additions` meets its contract. Assumes nothing.
use mathlib.Core.Path.{◌≡◌}
use Prim.Native.Nat.{◌≤◌}
use Rattle.lists.specs.Lists.{range, count_if}
use Rattle.change_file.specs.File.{adds_in}
use Rattle.changes.proofs.edits.additions.Given as goal

abbrev pub invariant-loop-i : goal.invariant-loop-i
invariant-loop-i l = (l.sum ≤ l.i) × (l.sum ≡ count_if (adds_in l.file) (range l.i))
