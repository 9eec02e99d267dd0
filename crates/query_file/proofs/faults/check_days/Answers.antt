-- `query_file::faults::check_days` meets its contract: no vertex before w has a fault. Assumes nothing.
use mathlib.Core.Path.{◌≡◌, refl, sym}
use native.Mathlib.Omega.{arith}
use borrow.Author.Rules.{rules}
use Rattle.lists.specs.Lists.{range}
use Rattle.lists.specs.Refusal.{first}
use Rattle.query_file.specs.Inner.Parts.{query_days_fault}
use Rattle.query_file.proofs.FileLaws.{days-next, days-stop}
use Rattle.query_file.proofs.faults.check_days.Goals as goal

pub loop-w-init : goal.loop-w-init
unfolding query_days_fault range first
loop-w-init c = (omega arith, refl)

pub returns-then-last-first : goal.returns-then-last-first
returns-then-last-first c = let a = c.args in
    let l = c.loop-w in
    sym (days-stop a.file.bytes.now l.w l.invariant.1 a.file.vertices (search rules) (omega arith))

pub loop-w-preserved : goal.loop-w-preserved
loop-w-preserved c = let a = c.args in
    let l = c.loop-w in
    (omega arith, days-next a.file.bytes.now l.w l.invariant.1 (omega arith))

pub returns : goal.returns
returns c = let all : c.loop-w.w ≡ c.args.file.vertices = omega arith in
    sym (rw all at c.loop-w.invariant.1)
