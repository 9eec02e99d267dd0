-- `graph_file::check_edges` meets its contract. The loop's invariant: no edge before i is at fault, and `least` is one more than
-- the key of the edge before i. Assumes nothing.
use mathlib.Core.Path.{◌≡◌, sym}
use native.Mathlib.Omega.{arith}
use borrow.Author.Rules.{rules}
use Rattle.graph.specs.File.{edge_count}
use Rattle.graph_file.specs.Inner.Reading.{edge_with, fault_from, graph_edges_fault}
use Rattle.graph_file.proofs.Refused.{Read, faultless-start, fault-source, fault-target, fault-label, fault-order, fault-none, read-fault, read_more}
use Rattle.graph_file.proofs.check_edges.Goals as goal
use Rattle.graph_file.proofs.check_edges.Goals.{then-n-s-via-then-n-s, then-n-s-via-else-n-s+then-n-e, then-n-s-via-else-n-s+else-n-e+then-e-eq0}

pub loop-i-init : goal.loop-i-init
loop-i-init c = (search rules, faultless-start _)

pub returns-then-n-s : goal.returns-then-n-s
returns-then-n-s c = let read : let a = c.args in
    Read a.file.bytes.now a.file.graph.vertices c.loop-i.least c.loop-i.i c.source-s.result c.forward_entry-e.result = record {
      vertices = c.args.file.whole.vertices;
      earlier = c.loop-i.invariant.1;
      source = c.source-s.ensures.0;
      its_entry = c.forward_entry-e.ensures.0;
    } in
    let at_fault : 3 ≡ fault_from c.args.file.graph.vertices c.loop-i.least (edge_with c.source-s.result c.forward_entry-e.result) =
    elim c.then-n-s.branch [
      | then-n-s-via-then-n-s w ↦ fault-source _ _ _ _ w.if-n-s.true
      | then-n-s-via-else-n-s+then-n-e w ↦ fault-target _ _ _ _ w.if-n-s.false w.if-n-e.true
      | then-n-s-via-else-n-s+else-n-e+then-e-eq0 w ↦ fault-label _ _ _ _ w.if-n-s.false w.if-n-e.false w.if-e-eq0.true
    ] in
    read-fault (read) (omega arith) (at_fault) (λ z. omega arith)

pub returns-then-key-least : goal.returns-then-key-least
returns-then-key-least c = let read : let a = c.args in
    Read a.file.bytes.now a.file.graph.vertices c.loop-i.least c.loop-i.i c.source-s.result c.forward_entry-e.result = record {
      vertices = c.args.file.whole.vertices;
      earlier = c.loop-i.invariant.1;
      source = c.source-s.ensures.0;
      its_entry = c.forward_entry-e.ensures.0;
    } in
    read-fault (read) (omega arith) (fault-order _ _ _ _ c.if-n-s.false c.if-n-e.false c.if-e-eq0.false c.edge_key-key.ensures c.if-key-least.true) (λ z. omega arith)

pub loop-i-preserved : goal.loop-i-preserved
loop-i-preserved c = let read : let a = c.args in
    Read a.file.bytes.now a.file.graph.vertices c.loop-i.least c.loop-i.i c.source-s.result c.forward_entry-e.result = record {
      vertices = c.args.file.whole.vertices;
      earlier = c.loop-i.invariant.1;
      source = c.source-s.ensures.0;
      its_entry = c.forward_entry-e.ensures.0;
    } in (
      search rules,
      read_more (read) (fault-none _ _ _ _ (omega arith) (omega arith) c.if-e-eq0.false c.edge_key-key.ensures c.if-key-least.false) c.edge_key-key.ensures,
    )

pub returns : goal.returns
unfolding graph_edges_fault
returns c = let all : c.loop-i.i ≡ edge_count c.args.file.bytes.now = omega arith in
    rw (← all) (sym c.loop-i.invariant.1.none)
