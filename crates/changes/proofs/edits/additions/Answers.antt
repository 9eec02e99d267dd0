-- `changes::edits::additions` meets its contract. Assumes nothing.
use native.Mathlib.Omega.{arith}
use mathlib.Core.Path.{◌≡◌, ap}
use native.Mathlib.Numerals.{add-one}
use borrow.Author.Rules.{rules}
use Rattle.lists.specs.Lists.{bit}
use Rattle.lists.proofs.Bits.{bit_le}
use Rattle.change_file.specs.File.{adds_in}
use Rattle.changes.proofs.Present.{count-zero, count_next}
use Rattle.changes.proofs.edits.additions.Goals as goal

pub loop-i-init : goal.loop-i-init
loop-i-init c = (search rules, count-zero _)

pub loop-i-preserved : goal.loop-i-preserved
loop-i-preserved c = let one : c.from-sum.result ≡ bit c.adds.result = search rules in
    let same : bit c.adds.result ≡ bit (adds_in c.args.file.now c.loop-i.i) = ap bit c.adds.ensures in
    (omega (arith, bit_le c.adds.result), rw add-one (omega (arith, count_next (adds_in c.args.file.now) c.loop-i.i)))

pub returns : goal.returns
returns c = let all : c.loop-i.i ≡ c.args.k = omega arith in
    (rw (← all) c.loop-i.invariant.1, omega arith)
