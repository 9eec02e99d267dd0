-- `query_file::faults::check_sizes` meets its contract: the bits up to the pair count, then those of the whole. Assumes nothing.
use mathlib.Core.Path.{◌≡◌, sym, ◌∙◌, ap}
use Prim.Native.Nat.{◌≤◌, ◌<◌}
use native.Mathlib.Omega.{arith}
use lib.ListN.{length}
use Rattle.query.specs.File.{pair_count, pair_start, counted_size}
use Rattle.query_file.specs.Inner.Parts.{size_fault}
use Rattle.query_file.proofs.Structs.{at-most-pairs}
use Rattle.query_file.proofs.FileLaws.{counted-first, sizes-last}
use Rattle.query_file.proofs.faults.check_sizes.Goals as goal

pub returns-then-file-bytes_for : goal.returns-then-file-bytes_for
returns-then-file-bytes_for c = let s = c.args.file.bytes.now in
    let short : length s < counted_size s = omega arith in
    sym (counted-first s short)

pub check_size-requires : goal.check_size-requires
check_size-requires c = let s = c.args.file.bytes.now in
    omega (arith, at-most-pairs s)

pub returns : goal.returns
returns c = let s = c.args.file.bytes.now in
    let long : counted_size s ≤ length s = omega arith in
    let place : c.pair_start-2.result ≡ pair_start s (pair_count s) = omega arith in
    c.check_size.ensures ∙ ap (size_fault s) place ∙ sym (sizes-last s long)
