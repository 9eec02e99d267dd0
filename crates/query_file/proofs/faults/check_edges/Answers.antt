-- `query_file::faults::check_edges` meets its contract: no edge before i has a fault, and `least` is the least key that ascends at i.
-- Assumes nothing.
use mathlib.Core.Path.{◌≡◌, refl, sym, ◌∙◌}
use native.Mathlib.Omega.{arith}
use borrow.Author.Rules.{rules}
use Rattle.std.proofs.lemmas.Result.{err_from_is_err_and}
use Rattle.refusals.proofs.Laws.{numbered}
use Rattle.lists.specs.Lists.{range}
use Rattle.lists.specs.Refusal.{first}
use Rattle.query_file.specs.Inner.Parts.{query_edges_fault}
use Rattle.query_file.proofs.FileLaws.{key-lt, least_key, fault-here, least-next, edges-next, edges-stop}
use Rattle.query_file.proofs.faults.check_edges.Goals as goal

pub loop-i-init : goal.loop-i-init
unfolding query_edges_fault least_key range first
loop-i-init c = (omega arith, refl, refl)

pub returns-in_err-check_edge : goal.returns-in_err-check_edge
returns-in_err-check_edge c =
    let p = err_from_is_err_and c.from_residual.result c.from_residual.ensures.1 in
    let a = c.args in
    let l = c.loop-i in
    let here = fault-here a.file.bytes.now a.file.vertices _ l.i c.args.file.counted.0 c.edge_start-at.ensures l.least _ l.invariant.2 c.in_err-check_edge.ensures in
    rw (p.1, p.2) (here ∙ sym (edges-stop a.file.bytes.now a.file.edges l.i (search rules) l.invariant.1 (λ z. numbered _ (here ∙ z))))

pub overflow_add-least : goal.overflow_add-least
overflow_add-least c = let a = c.args in
    omega (arith, key-lt a.file.bytes.now c.edge_start-at.result)

pub loop-i-preserved : goal.loop-i-preserved
loop-i-preserved c = let a = c.args in
    let l = c.loop-i in
    let count = c.args.file.counted.0 in
    let none = sym (fault-here a.file.bytes.now a.file.vertices _ l.i count c.edge_start-at.ensures l.least _ l.invariant.2 c.in_ok-check_edge.ensures) in (
      omega arith,
      edges-next a.file.bytes.now l.i l.invariant.1 none,
      least-next a.file.bytes.now a.file.vertices _ l.i count c.edge_start-at.ensures c.edge_key-least.result c.edge_key-least.ensures,
    )

pub returns : goal.returns
returns c = let all : c.loop-i.i ≡ c.args.file.edges = omega arith in
    sym (rw all at c.loop-i.invariant.1)
