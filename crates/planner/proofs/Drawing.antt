-- What is drawn passes the plan check, and so its run lists every match. Assumes nothing.
use mathlib.Core.Path.{◌≡◌, refl, sym, ◌∙◌, ap, ap₂, subst}
use mathlib.Core.Bool.{Bool, true}
use mathlib.Core.List.{List, [], ◌++◌}
use Prim.Native.Nat.{ℕ, ◌+◌, ◌-◌, ◌*◌, ◌≤◌, ◌<◌}
use native.Mathlib.Omega.{arith}
use lib.Dec.{ltb}
use lib.ListN.{length, drop}
use lib.Seq.{take-append_seam}
use borrow.Author.Tests.{ltb-true, lt-ltb, eq-eqb}
use Rattle.lists.specs.Lists.{range, all, count_if}
use Rattle.lists.proofs.All.{all-follows, all_get_d}
use Rattle.lists.proofs.Faults.{first_head, first-cons, first-nil}
use Rattle.packed.specs.Field.{bytes_for}
use Rattle.packed.specs.Encode.{bytes_of}
use Rattle.graph.specs.Graph.{Graph}
use Rattle.graph.specs.File.{graph_of}
use Rattle.graph.specs.Store.{graph_in}
use Rattle.query.specs.Query.{Query, edge_at, connected}
use Rattle.query.specs.File.{query_of, query_fault}
use Rattle.query.specs.Answer.{struct_of}
use Rattle.query.specs.Inner.Struct.{query_in}
use Rattle.query.specs.declared.Query.{Query as QueryStruct}
use Rattle.query_file.proofs.Structs.{at-least-vertices, at-most-vertices, at-least-edges, at-most-edges, file-struct, file-labels}
use Rattle.query_file.proofs.FileLaws.{query_readable, query_held, query-connected}
use Rattle.plan.specs.Plan.{Operator, ends}
use Rattle.plan.specs.Check.{rule_fault, covered, rules_fault}
use Rattle.plan.specs.File.{operators_of, check_fault}
use Rattle.plan_file.specs.Inner.Parts.{plan_file_fault}
use Rattle.plan_file.proofs.Accepted.{check-rules}
use Rattle.lists.proofs.Maps.{length-image}
use Rattle.matching.proofs.Cuts.{proper, proper-source, proper-target, proper-ends}
use Rattle.run_spec.specs.declared.Record.{Record}
use Rattle.run_spec.specs.Run.{run_answer, run_list, run_records}
use Rattle.run_spec.specs.Complete.{CompleteRun}
use Rattle.run_spec.proofs.Accepted.{edges_proper}
use Rattle.run_spec.proofs.Demand.{spelled, run-lists-every-match}
use Rattle.plan_order.specs.Order.{scan_edge, scanned, extends_from, extend_order, drawn_operators}
use Rattle.planner.specs.Draw.{plan_bits, drawn_plan, draw_fault, draw_answer, draw_bytes}
use Rattle.plan_order.specs.Inner.Counts.{Drawable}
use Rattle.planner.specs.Complete.{plan_in, PassesCheck, DrawnThenRun}
use Rattle.plan_order.proofs.Choosing.{choices}
use Rattle.planner.proofs.Ordering.{count-ends, length-extends, extends-below, extends-pass}
use Rattle.planner.proofs.Packing.{length-file, operators-read, file-sound}

-- ---- a query that was read

-- Its counts are within their limits.
pub record Sized (q : Query) : Type 0 where
  pub at-least : 2 ≤ q.vertices
  pub at_most : q.vertices ≤ 8
  pub some_edge : 0 < length q.edges
  pub few_edges : length q.edges ≤ 24

pub read-sized : (query : List ℕ) → query_fault query ≡ 0 → Sized (query_of query)
unfolding query_of
read-sized query e =
    let within = (query_readable query e).limits in
    record {
      at-least = at-least-vertices query within;
      at_most = at-most-vertices query within;
      some_edge = rw length-image (at-least-edges query within);
      few_edges = rw length-image (at-most-edges query within);
    }

-- The query of a struct that the code draws a plan for.
pub drawable-sized : (d : QueryStruct) → Drawable d → Sized (query_in d)
unfolding query_in
drawable-sized d ok =
    record {
      at-least = ok.vertices;
      at_most = ok.held.vertices;
      some_edge = rw length-image ok.edges;
      few_edges = rw length-image ok.held.edges;
    }

-- The struct of a file that was read is such a one.
pub read-drawable : (query : List ℕ) → query_fault query ≡ 0 → Drawable (struct_of (query_of query))
unfolding struct_of
read-drawable query e =
    record {
      held = query_held query e;
      vertices = sized.at-least;
      edges = sized.some_edge;
      labels = rw (file-struct query) (file-labels query);
    }
  where
    sized : Sized (query_of query)
    sized = read-sized query e

-- ---- the plan of a graph and a query of such counts

module _ (g : Graph) (q : Query) (sized : Sized q) where
  pub scan-below : scan_edge g q < length q.edges
  scan-below = ((choices g q).scan-edge sized.some_edge).below

  pub length-order : length (extend_order g q) ≡ q.vertices - 2
  length-order = length-extends q (scanned g q) (q.vertices - 2)

  pub order_below : all (λ (v : ℕ). ltb v q.vertices) (extend_order g q) ≡ true
  order_below = extends-below q (omega (arith, sized.at-least)) (scanned g q) (q.vertices - 2)

  order-low : all (λ (v : ℕ). ltb v 8) (extend_order g q) ≡ true
  order-low =
      all-follows (λ (v : ℕ). ltb v q.vertices) (λ (v : ℕ). ltb v 8) (extend_order g q) order_below
      (λ v t. lt-ltb v 8 (omega (arith, ltb-true v q.vertices t, sized.at_most)))

  pub length-drawn : length (drawn_plan g q) ≡ bytes_for (12 + 5 * (q.vertices - 2))
  unfolding drawn_plan
  length-drawn = length-file (scan_edge g q) (extend_order g q) ∙ ap (λ (k : ℕ). bytes_for (12 + 5 * k)) length-order

  -- The same of a number that is n, and what is left in the bytes where this plan is written.
  module _ (n : ℕ) (e : n ≡ q.vertices) where
    pub drawn-size : bytes_for (12 + 5 * (n - 2)) ≡ length (drawn_plan g q)
    drawn-size = ap (λ (k : ℕ). bytes_for (12 + 5 * (k - 2))) e ∙ sym length-drawn

    pub drawn-left : (before : List ℕ) (edge : ℕ) → edge ≡ scan_edge g q
        → bytes_of (plan_bits edge (extends_from q (ends (edge_at q edge)) (n - 2))) ++ drop (bytes_for (12 + 5 * (n - 2))) before
        ≡ drawn_plan g q ++ drop (length (drawn_plan g q)) before
    unfolding drawn_plan
    drawn-left before edge i =
        ap₂ (λ (k m : ℕ). bytes_of (plan_bits k (extends_from q (ends (edge_at q k)) (m - 2))) ++ drop (bytes_for (12 + 5 * (n - 2))) before) i e
        ∙ ap (λ (k : ℕ). drawn_plan g q ++ drop k before) drawn-size

  pub drawn-operators : operators_of (drawn_plan g q) ≡ drawn_operators g q
  unfolding drawn_plan
  drawn-operators = operators-read (scan_edge g q) (extend_order g q) (omega (arith, scan-below, sized.few_edges)) (omega (arith, length-order, sized.at_most)) order-low

  pub drawn-file : plan_file_fault q (drawn_plan g q) ≡ 0
  unfolding drawn_plan
  drawn-file =
      file-sound (scan_edge g q) (extend_order g q) (omega (arith, scan-below, sized.few_edges)) (omega (arith, length-order, sized.at_most)) order-low q
      scan-below order_below

  module _ (ok : all (proper q.vertices) q.edges ≡ true) (whole : connected q ≡ true) where
    -- The scan covers two vertices.
    scan-two : count_if (scanned g q) (range q.vertices) ≡ 2
    scan-two =
        let e = edge_at q (scan_edge g q) in
        let p : proper q.vertices e ≡ true = all_get_d (proper q.vertices) q.edges (scan_edge g q) _ scan-below ok in
        count-ends e q.vertices (proper-source q.vertices e p) (proper-target q.vertices e p) (proper-ends q.vertices e p)

    pub drawn-rules : rules_fault q [] (drawn_operators g q) ≡ 0
    unfolding rules_fault rule_fault covered
    drawn-rules =
        first-cons _ _ refl
        ∙ first-cons _ _ (extends-pass q (omega (arith, sized.at-least)) whole (scanned g q) (q.vertices - 2) (omega (arith, scan-two)) (omega (arith, scan-two, sized.at-least))) ∙ first-nil

-- ---- what is drawn

-- The faults of an accepted drawing are all 0.
module _ (store query : List ℕ) (room : ℕ) (ok : draw_fault store query room ≡ 0) where
  abbrev g : Graph
  g = graph_in store

  abbrev q : Query
  q = query_of query

  pub drawn-query : query_fault query ≡ 0
  unfolding draw_fault
  drawn-query = first_head _ _ ok

  -- 'What it writes passes the plan check.'
  pub drawn-passes : check_fault query (drawn_plan g q) ≡ 0
  drawn-passes =
      let sized = read-sized query drawn-query in
      check-rules query (drawn_plan g q) drawn-query (drawn-file g q sized)
      ∙ ap (rules_fault q []) (drawn-operators g q sized) ∙ drawn-rules g q sized (edges_proper query drawn-query) (query-connected query drawn-query)

refused-by : (store query : List ℕ) (room : ℕ) → (draw_answer store query room).refusal ≡ 0 → draw_fault store query room ≡ 0
unfolding draw_answer
refused-by store query room e = e

-- The lent bytes hold the plan.
pub drawn-bytes : (store query bytes : List ℕ) → draw_fault store query (length bytes) ≡ 0
    → plan_in (draw_answer store query (length bytes)) (draw_bytes store query bytes) ≡ drawn_plan (graph_in store) (query_of query)
unfolding draw_answer draw_bytes
drawn-bytes store query bytes ok =
    rw (eq-eqb (draw_fault store query (length bytes)) 0 ok)
    (take-append_seam (drawn_plan (graph_in store) (query_of query)) (drop (length (drawn_plan (graph_in store) (query_of query))) bytes))

-- The two claims, of the definitions.
pub passes-check : (store query bytes : List ℕ) → PassesCheck store query (draw_answer store query (length bytes)) (draw_bytes store query bytes)
passes-check store query bytes =
    record {
      passes = λ e. let ok = refused-by store query (length bytes) e in rw (drawn-bytes store query bytes ok) (drawn-passes store query (length bytes) ok);
      operators = λ e.
          let ok = refused-by store query (length bytes) e in
          rw (drawn-bytes store query bytes ok)
          (drawn-operators (graph_in store) (query_of query) (read-sized query (drawn-query store query (length bytes) ok)));
    }

pub drawn-lists-every-match : (cache : Bool) (store query bytes : List ℕ) (scratch : ℕ) (list : List ℕ) (records : List Record)
    → DrawnThenRun cache store query bytes scratch list records
drawn-lists-every-match cache store query bytes scratch list records file loaded ok =
    let plan = drawn_plan (graph_in store) (query_of query) in
    rw (drawn-bytes store query bytes ok)
    (subst (λ (os : List Operator). CompleteRun cache (graph_of file) (query_of query) os scratch list
    (run_list cache store query plan scratch list (length records)) records (run_records cache store query plan scratch (length list) records)
    (run_answer cache store query plan scratch (length list) (length records)))
    (drawn-operators (graph_in store) (query_of query) (read-sized query (drawn-query store query (length bytes) ok))
    ∙ ap (λ (g : Graph). drawn_operators g (query_of query)) (spelled file store loaded))
    (run-lists-every-match cache store query plan scratch list records file loaded (drawn-passes store query (length bytes) ok)))
