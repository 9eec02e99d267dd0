-- `planner::pack::put_extend` meets its contract: two fields more. Assumes nothing.
use mathlib.Core.Path.{◌≡◌, sym, ◌∙◌, ap}
use mathlib.Core.List.{◌++◌, append_assoc}
use Prim.Native.Nat.{◌+◌}
use native.Mathlib.Omega.{arith}
use lib.ListN.{length, length-append}
use Rattle.packed.proofs.Written.{written-more}
use Rattle.packed.specs.Encode.{bits_of}
use Rattle.packed.specs.Inner.Put.{written}
use Rattle.packed.proofs.RoundTrip.{length-bitsOf}
use Rattle.packed.proofs.Written.{length-written}
use Rattle.planner.proofs.pack.put_extend.Goals as goal

pub returns : goal.returns
returns c old bits e l = let long : length c.args.plan.now ≡ length old = ap length e ∙ length-written old bits in
    let two : length (bits ++ bits_of 2 1) ≡ c.args.at + 2 = length-append bits (bits_of 2 1) ∙ omega (arith, length-bitsOf 2 1) in
    let kind : c.put_field.new.s ≡ written old (bits ++ bits_of 2 1) =
    c.put_field.ensures ∙ written-more old bits 2 1 (omega arith) _ c.args.at e (sym l) in
    c.put_field-2.ensures ∙ written-more old (bits ++ bits_of 2 1) 3 c.args.v (omega arith) _ (c.args.at + 2) kind (sym two)
    ∙ ap (written old) (append_assoc bits (bits_of 2 1) (bits_of 3 c.args.v))
