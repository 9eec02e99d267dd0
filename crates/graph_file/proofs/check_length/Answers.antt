-- `graph_file::check_length` meets its contract: each return is what the definition says under the tests that led there.
-- Assumes nothing.
use mathlib.Core.Path.{◌≡◌, sym, ◌∙◌, ap}
use mathlib.Core.Bool.{true, false}
use native.Mathlib.Omega.{arith}
use lib.ListN.{length}
use borrow.Author.Tests.{lt-ltb, le-ltb}
use Rattle.lists.specs.Refusal.{first}
use Rattle.packed.specs.Field.{fill_set}
use Rattle.graph.specs.File.{file_size, edge_start, edge_count}
use Rattle.graph_file.specs.Inner.Reading.{graph_length_fault}
use Rattle.graph_file.proofs.check_length.Goals as goal
use Rattle.graph_file.proofs.check_length.Goals.{then-size-file-via-then-size-file, then-size-file-via-else-size-file+then-fill_set}

pub returns-then-file-lt5 : goal.returns-then-file-lt5
unfolding graph_length_fault first
returns-then-file-lt5 c = simp (lt-ltb _ _ c.if-file-lt5.true)

pub returns-then-file-size : goal.returns-then-file-size
unfolding graph_length_fault first
returns-then-file-size c = let s = c.args.file.now in
    simp (le-ltb (length s) 5 (omega arith), lt-ltb (length s) (file_size s) (omega arith))

pub returns-then-size-file : goal.returns-then-size-file
unfolding graph_length_fault first
returns-then-size-file c = let s = c.args.file.now in
    elim c.then-size-file.branch [
      | then-size-file-via-then-size-file w ↦
          simp (le-ltb (length s) 5 (omega arith), le-ltb (length s) (file_size s) (omega arith), lt-ltb (file_size s) (length s) (omega arith))
      | then-size-file-via-else-size-file+then-fill_set w ↦
          let at : w.edge_start.result ≡ edge_start s (edge_count s) = omega arith in
          let fill : fill_set s (edge_start s (edge_count s)) ≡ true = ap (fill_set s) (sym at) ∙ sym w.fill_set.ensures ∙ w.if-fill_set.true in
          simp (le-ltb (length s) 5 (omega arith), le-ltb (length s) (file_size s) (omega arith), le-ltb (file_size s) (length s) (omega arith), fill)
    ]

pub returns : goal.returns
unfolding graph_length_fault first
returns c = let s = c.args.file.now in
    let at : c.edge_start.result ≡ edge_start s (edge_count s) = omega arith in
    let fill : fill_set s (edge_start s (edge_count s)) ≡ false = ap (fill_set s) (sym at) ∙ sym c.fill_set.ensures ∙ c.if-fill_set.false in
    simp (le-ltb (length s) 5 (omega arith), le-ltb (length s) (file_size s) (omega arith), le-ltb (file_size s) (length s) (omega arith), fill)
