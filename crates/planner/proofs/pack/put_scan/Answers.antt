-- `planner::pack::put_scan` meets its contract: three fields from the first bit on. Assumes nothing.
use mathlib.Core.Path.{◌≡◌, refl, sym, ◌∙◌}
use mathlib.Core.List.{[], ◌++◌}
use native.Mathlib.Omega.{arith}
use lib.ListN.{length-append}
use Rattle.packed.proofs.Written.{written_none, written-more}
use Rattle.packed.specs.Encode.{bits_of}
use Rattle.packed.specs.Inner.Put.{written}
use Rattle.packed.proofs.RoundTrip.{length-bitsOf}
use Rattle.planner.proofs.pack.put_scan.Goals as goal

pub returns : goal.returns
returns c = let old = c.args.plan.now in
    let operators = c.args.operators in
    let one : c.put_field.new.s ≡ written old (bits_of 5 operators) =
    c.put_field.ensures
    ∙ written-more old [] 5 operators (omega arith) old 0 (sym (written_none old (λ j. (c.slice_known-1.given j).fits))) refl in
    let two : c.put_field-2.new.s ≡ written old (bits_of 5 operators ++ bits_of 2 0) =
    c.put_field-2.ensures ∙ written-more old (bits_of 5 operators) 2 0 (rw length-bitsOf (omega arith)) _ 5 one (sym (length-bitsOf 5 operators)) in
    c.put_field-3.ensures
    ∙ written-more old (bits_of 5 operators ++ bits_of 2 0) 5 c.args.edge (simp (length-append, length-bitsOf) (omega arith)) _ 7 two
    (sym (simp (length-append, length-bitsOf)))
