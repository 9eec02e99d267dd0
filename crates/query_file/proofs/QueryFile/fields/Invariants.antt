-- `query_file::QueryFile::fields` meets its contract: after i parts, the array has the field of these. Assumes nothing.
use mathlib.Core.Path.{◌≡◌}
use mathlib.Core.List.{map}
use Rattle.lists.specs.Lists.{range}
use Rattle.query.specs.Answer.{padded}
use Rattle.query_file.specs.Inner.Parts.{part_field}
use Rattle.query_file.proofs.QueryFile.fields.Given as goal

abbrev pub invariant-loop-i : goal.invariant-loop-i
invariant-loop-i g l = l.a ≡ padded g.row.N (map (part_field l.self.bytes.now l.at l.step l.offset l.width) (range l.i))
