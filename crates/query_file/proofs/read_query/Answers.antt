-- `query_file::read_query` meets its contract. Assumes nothing.
use mathlib.Core.Path.{sym, ◌∙◌, ap}
use mathlib.Core.Bool.{Bool, cond}
use mathlib.Core.List.{List}
use Prim.Native.Nat.{ℕ}
use borrow.Author.Tests.{eq-eqb, ne_eqb}
use Rattle.refusals.proofs.Laws.{numbered_as}
use Rattle.query.specs.File.{query_of}
use Rattle.query.specs.Answer.{struct_of, no_query, read_answer}
use Rattle.query.specs.declared.Query.{Query as QueryStruct}
use Rattle.query_file.proofs.FileLaws.{query_readable}
use Rattle.query_file.proofs.read_query.Goals as goal

abbrev answer : List ℕ → Bool → QueryStruct
answer s b = struct_of (cond b (query_of s) no_query)

pub returns-in-Err : goal.returns-in-Err
unfolding read_answer
returns-in-Err c =
    let is = c.number.ensures ∙ c.in-Err.ensures in
    λ k. record {
      refusal = is k;
      query = (c.none.ensures ∙ ap (answer c.args.file.now) (sym (ne_eqb _ 0 (λ z. numbered_as c.in-Err.refusal c.number.ensures (is ∙ z))))) k;
    }

pub query_of-requires : goal.query_of-requires
query_of-requires c = query_readable c.args.file.now (sym c.in-Ok.ensures)

pub returns-in-Ok : goal.returns-in-Ok
unfolding read_answer
returns-in-Ok c = λ k. record {
  refusal = c.in-Ok.ensures k;
  query = (c.query_of.ensures ∙ ap (answer c.args.file.now) (sym (eq-eqb _ 0 (sym c.in-Ok.ensures)))) k;
}
