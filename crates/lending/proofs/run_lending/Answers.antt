-- `lending::run_lending` meets its contract: more records than there are count as all. Assumes nothing.
-- All records are lent, whether as many or more are asked for.
use borrow.Author.Rules.{rules}
use mathlib.Core.Path.{◌≡◌, sym, ◌∙◌}
use mathlib.Core.Bool.{Bool}
use mathlib.Core.List.{List}
use Prim.Native.Nat.{ℕ, ◌<◌}
use native.Mathlib.Omega.{arith}
use lib.ListN.{length, take, drop, drop_of_length-le}
use lib.Seq.{take_all}
use denote.Struct.Laws as LL
use Rattle.run_spec.specs.declared.Record.{Record}
use Rattle.run_spec.specs.contracts.Record as R
use Rattle.lending.specs.Lending.{Fills}
use Rattle.lending.specs.declared.Filled.{Filled}
use Rattle.lending.specs.contracts.Lending as D
use Rattle.lending.proofs.Lending.TheLaws as D'
use Rattle.lending.proofs.run_lending.Goals as goal

fills-all : (cache : Bool) (store query plan scratch cleared list listed : List ℕ) (records : List Record) (k : ℕ) (r : Filled) → length records ≡ 31 → 31 < k
    → Fills cache store query plan scratch cleared list listed (record { records = records; lent = 31 }) r
    → Fills cache store query plan scratch cleared list listed (record { records = records; lent = k }) r
fills-all cache store query plan scratch cleared list listed records k r long more f =
    let same : take k records ≡ take 31 records = take_all k records (omega arith) ∙ sym (take_all 31 records (omega arith)) in
    let none : drop k records ≡ drop 31 records = drop_of_length-le records {i = k} (omega arith) ∙ sym (drop_of_length-le records {i = 31} (omega arith)) in
    record {
      answer = rw same f.answer;
      rows = rw same f.rows;
      recorded = rw (same, none) f.recorded;
      scratched = f.scratched;
    }

pub returns-then-held-gt-MAX_OPERATORS : goal.returns-then-held-gt-MAX_OPERATORS
returns-then-held-gt-MAX_OPERATORS c = let a = c.args in
    let long : length a.held.records ≡ 31 = search rules in
    fills-all a.cache a.store.now a.query.now a.plan.now a.scratch.now _ a.list.now _ a.held.records a.held.lent c.lend.result long c.if-held-gt-MAX_OPERATORS.true c.lend.ensures
