-- The new store is what Load leaves of the edited graph's file. Assumes nothing.
use mathlib.Core.Path.{◌≡◌, refl, sym, ◌∙◌, ap}
use mathlib.Core.Bool.{true}
use mathlib.Core.List.{List, ◌++◌}
use Prim.Native.Nat.{ℕ, ◌≤◌}
use lib.ListN.{length, drop}
use Rattle.graph.specs.Graph.{Graph}
use Rattle.graph.specs.File.{graph_of}
use Rattle.graph.specs.Store.{store_of, store_size, well_formed, load_fault, load_store}
use Rattle.graph.specs.Inner.Encode.{encode}
use Rattle.graph.proofs.WellFormed.{formed-well}
use Rattle.graph.proofs.EncodeGraph.{encode-bytes, encode-accepted, encode-read}
use Rattle.graph.proofs.Loads.{load_fits, load_store_lem, load-accepted}
use Rattle.changes.specs.Edit.{edited_graph, changed_store}
use Rattle.changes.specs.Claims.{LoadsEdited}
use Rattle.changes.proofs.Filled.{new-formed}
use Rattle.changes.proofs.Answers.{accepted-all, size_fits, store_is}

pub loads-edited : (old s store : List ℕ) → LoadsEdited old s store
loads-edited old s store z =
    record {
      file = encode new;
      bytes = encode-bytes new;
      its_graph = read;
      accepted = fits;
      words = same;
      not_refused = rw same (load-accepted (encode new) store fits).0;
      spells = rw same ((load-accepted (encode new) store fits).1 ∙ read);
    }
  where
    new : Graph
    new = edited_graph old s

    formed : well_formed new ≡ true
    formed = formed-well new (new-formed (accepted-all old s (length store) z refl refl refl))

    read : graph_of (encode new) ≡ new
    read = encode-read new formed

    room : store_size new ≤ length store
    room = size_fits old s (length store) z

    fits : load_fault (encode new) (length store) ≡ 0
    fits = load_fits (encode new) (length store) (encode-accepted new formed) (rw read room)

    same : changed_store old s store ≡ load_store (encode new) store
    same =
        sym (store_is old s store z) ∙ sym (load_store_lem (encode new) store fits ∙ ap (λ (g : Graph). store_of g ++ drop (store_size g) store) read)
