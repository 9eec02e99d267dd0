-- `records::store_records` meets its contract: so many records are copied. Assumes nothing.
use Rattle.std.proofs.Common.{refl, ap, List, ◌++◌, drop}
use Rattle.run_spec.specs.declared.Record.{Record}
use Rattle.records.proofs.store_records.Goals as goal

pub returns : goal.returns
returns c = (refl, ap (λ (l : List Record). l ++ drop c.args.recorded.operators c.args.records.now) c.copy_from_slice.ensures.after)
