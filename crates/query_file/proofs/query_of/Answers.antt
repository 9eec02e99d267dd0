-- `query_file::query_of` meets its contract: each array has one field of the file's query. Assumes nothing.
use mathlib.Core.Path.{◌∙◌, ap}
use mathlib.Core.List.{List}
use Prim.Native.Nat.{ℕ}
use native.Mathlib.Omega.{arith}
use Rattle.query.specs.File.{query_of}
use Rattle.query.specs.Answer.{struct_of}
use Rattle.query_file.proofs.Structs.{struct-read}
use Rattle.query_file.proofs.query_of.Goals as goal

pub of-file-requires : goal.of-file-requires
of-file-requires c = (omega (arith, c.requires.bits), c.requires.limits)

pub fields-lows-requires : goal.fields-lows-requires
fields-lows-requires c = let bits = rw (← c.of-file.ensures.0) at c.requires.bits in
    omega (arith, bits)

pub fields-highs-requires : goal.fields-highs-requires
fields-highs-requires c = let bits = rw (← c.of-file.ensures.0) at c.requires.bits in
    omega (arith, bits)

pub returns : goal.returns
returns c = struct-read c.of-file.result.bytes.now _ _ _ _ _ c.of-file.result.counted.0 c.of-file.result.counted.1 c.pair_count-k.ensures.0
    (omega arith) (omega arith)
    _ _ _ _ _ _ _ _ c.fields-labels.ensures c.fields-firsts.ensures c.fields-lasts.ensures
    c.fields-sources.ensures c.fields-targets.ensures c.fields-edge_labels.ensures c.fields-lows.ensures c.fields-highs.ensures
    ∙ ap (λ (s : List ℕ). struct_of (query_of s)) c.of-file.ensures.0
