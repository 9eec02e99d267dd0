-- `plan_file::plan_of` meets its contract: the loop has copied i operators. Assumes nothing.
use mathlib.Core.Path.{◌≡◌, ◌∙◌}
use Prim.Native.Nat.{◌+◌, ◌≤◌, ◌<◌}
use native.Mathlib.Omega.{arith}
use lib.Dec.{lit≤}
use Rattle.packed.specs.Field.{bits_in}
use Rattle.packed.proofs.Laws.{field_lt}
use Rattle.plan.specs.File.{kind_at, operand_bits}
use Rattle.plan.specs.Plan.{max_operators}
use Rattle.plan_file.proofs.Places.{place-long}
use Rattle.plan_file.proofs.Structs.{copied_none, copied-there, copied_more, copied_all}
use Rattle.plan_file.proofs.plan_of.Goals as goal

pub operator_count-count-requires : goal.operator_count-count-requires
operator_count-count-requires c = place-long _ _ c.requires

pub loop-i-init : goal.loop-i-init
loop-i-init c = (omega arith, copied_none _)

pub field-requires : goal.field-requires
field-requires c = let bits : let s = c.args.file.now in c.loop-i.at + 2 + operand_bits (kind_at s c.loop-i.at) ≤ bits_in s = copied-there _ c.loop-i.invariant.1 (rw c.operator_count-count.ensures at c.loop-i-test.true) c.requires in
    (lit≤ tt, omega (arith, bits))

pub offset_bounds-kinds-i : goal.offset_bounds-kinds-i
offset_bounds-kinds-i c = let index : c.loop-i.i < max_operators = omega (arith, c.operator_count-count.ensures, field_lt c.args.file.now 0 5) in
    omega (arith, index)

pub bounds-kinds-i : goal.bounds-kinds-i
bounds-kinds-i c = let index : c.loop-i.i < max_operators = omega (arith, c.operator_count-count.ensures, field_lt c.args.file.now 0 5) in
    index

pub operand-requires : goal.operand-requires
operand-requires c = let index : c.loop-i.i < max_operators = omega (arith, c.operator_count-count.ensures, field_lt c.args.file.now 0 5) in
    let bits : let s = c.args.file.now in c.loop-i.at + 2 + operand_bits (kind_at s c.loop-i.at) ≤ bits_in s = copied-there _ c.loop-i.invariant.1 (rw c.operator_count-count.ensures at c.loop-i-test.true) c.requires in
    (omega (arith, index, c.loop-i.invariant.1.near), bits)

pub offset_bounds-operands-i : goal.offset_bounds-operands-i
offset_bounds-operands-i c = let index : c.loop-i.i < max_operators = omega (arith, c.operator_count-count.ensures, field_lt c.args.file.now 0 5) in
    omega (arith, index)

pub bounds-operands-i : goal.bounds-operands-i
bounds-operands-i c = let index : c.loop-i.i < max_operators = omega (arith, c.operator_count-count.ensures, field_lt c.args.file.now 0 5) in
    index

pub next_place-at-requires : goal.next_place-at-requires
next_place-at-requires c = let index : c.loop-i.i < max_operators = omega (arith, c.operator_count-count.ensures, field_lt c.args.file.now 0 5) in
    let bits : let s = c.args.file.now in c.loop-i.at + 2 + operand_bits (kind_at s c.loop-i.at) ≤ bits_in s = copied-there _ c.loop-i.invariant.1 (rw c.operator_count-count.ensures at c.loop-i-test.true) c.requires in
    (omega (arith, index, c.loop-i.invariant.1.near), omega (arith, bits))

pub loop-i-preserved : goal.loop-i-preserved
loop-i-preserved c = let index : c.loop-i.i < max_operators = omega (arith, c.operator_count-count.ensures, field_lt c.args.file.now 0 5) in
    (omega arith, copied_more _ c.loop-i.invariant.1 (index) c.field.ensures c.operand.ensures c.next_place-at.ensures.is c.next_place-at.ensures.near)

pub returns : goal.returns
returns c = let all : c.loop-i.i ≡ c.operator_count-count.result = omega arith in
    c.new.ensures ∙ copied_all _ c.operator_count-count.ensures (rw all at c.loop-i.invariant.1)
