-- Drawn plans, computed over the store of G: the plan P for the triangle Q, in bytes past which nothing is touched, and each of 24, 19 and a query's
-- refusal. Assumes nothing.
use mathlib.Core.Path.{◌≡◌, refl}
use mathlib.Core.List.{List, [], ◌∷◌, flat_map}
use Prim.Native.Nat.{ℕ}
use lib.ListN.{drop}
use Rattle.lists.specs.Lists.{range, all, any, keep, count_if, same, ascends_from, ascending, insert_sorted, sort}
use Rattle.lists.specs.Refusal.{first}
use Rattle.packed.specs.Field.{bit_at, field_at, fill_set}
use Rattle.packed.specs.Encode.{number, bits_of, bytes_of}
use Rattle.graph.specs.Graph.{covers}
use Rattle.graph.specs.Store.{offsets, entries, store_of, graph_in, well_formed, store_fault}
use Rattle.query.specs.Query.{reached, connected}
use Rattle.query.specs.File.{query_of, query_fault}
use Rattle.plan_order.specs.Order.{chosen, edges_of, scan_edge, degree, next_vertex, extends_from}
use Rattle.planner.specs.Draw.{plan_bits, drawn_plan, draw_fault, draw_bytes}

-- G: edges of label 1: 0→1, 0→2, 1→2, 1→3, 2→3.
pub store_g : List ℕ
store_g =
    4 ∷ 5 ∷ 0 ∷ 0 ∷ 0 ∷ 0 ∷ 0 ∷ 0 ∷ 0 ∷ 0
    ∷ 0 ∷ 2 ∷ 4 ∷ 5 ∷ 5 ∷ 0x10001 ∷ 0x10002 ∷ 0x10002 ∷ 0x10003 ∷ 0x10003
    ∷ 0 ∷ 0 ∷ 1 ∷ 3 ∷ 5 ∷ 0x10000 ∷ 0x10000 ∷ 0x10001 ∷ 0x10001 ∷ 0x10002 ∷ []

-- Q, and Q whose last edge 1→2 has label 2, which no data edge has.
pub file_q : List ℕ
file_q =
    0x31 ∷ 0x80 ∷ 0x00 ∷ 0x00 ∷ 0x00 ∷ 0x7f ∷ 0xff ∷ 0x80 ∷ 0x00 ∷ 0x00 ∷ 0x00 ∷ 0x7f ∷ 0xff
    ∷ 0x80 ∷ 0x00 ∷ 0x00 ∷ 0x00 ∷ 0x7f ∷ 0xff ∷ 0x82 ∷ 0x02 ∷ 0x10 ∷ 0x09 ∷ 0x40 ∷ 0x20 ∷ []

pub file_rare : List ℕ
file_rare =
    0x31 ∷ 0x80 ∷ 0x00 ∷ 0x00 ∷ 0x00 ∷ 0x7f ∷ 0xff ∷ 0x80 ∷ 0x00 ∷ 0x00 ∷ 0x00 ∷ 0x7f ∷ 0xff
    ∷ 0x80 ∷ 0x00 ∷ 0x00 ∷ 0x00 ∷ 0x7f ∷ 0xff ∷ 0x82 ∷ 0x02 ∷ 0x10 ∷ 0x09 ∷ 0x40 ∷ 0x40 ∷ []

-- Scan 0, extend 2; scan 2, extend 0.
pub plans : draw_bytes store_g file_q (9 ∷ 9 ∷ 9 ∷ 9 ∷ []) ∷ draw_bytes store_g file_rare (9 ∷ 9 ∷ 9 ∷ 9 ∷ []) ∷ []
    ≡ (0x10 ∷ 0x05 ∷ 0x00 ∷ 9 ∷ []) ∷ (0x10 ∷ 0x24 ∷ 0x00 ∷ 9 ∷ []) ∷ []
unfolding store_g file_q file_rare draw_bytes draw_fault drawn_plan plan_bits chosen edges_of scan_edge degree next_vertex extends_from query_fault query_of connected reached store_fault well_formed graph_in store_of entries offsets covers number bits_of bytes_of bit_at field_at fill_set first range all any keep count_if same ascends_from ascending insert_sorted sort flat_map
plans = refl

-- Two bytes are too few, a cut store is refused, and before it a cut query.
pub refusals : draw_fault store_g file_q 2 ∷ draw_fault (drop 1 store_g) file_q 9 ∷ draw_fault (drop 1 store_g) (drop 1 file_q) 9 ∷ [] ≡ 24 ∷ 19 ∷ 8 ∷ []
unfolding store_g file_q draw_fault drawn_plan plan_bits chosen edges_of scan_edge degree next_vertex extends_from query_fault query_of connected reached store_fault well_formed graph_in store_of entries offsets covers number bits_of bytes_of bit_at field_at fill_set first range all any keep count_if same ascends_from ascending insert_sorted sort flat_map
refusals = refl
