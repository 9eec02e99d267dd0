-- `plan_bounds::longest::portion_length` meets its contract: the entries that the label covers are the portion. Assumes nothing.
use mathlib.Core.Path.{sym, ap, ◌∙◌}
use Prim.Native.Nat.{ℕ, ◌/◌}
use Rattle.lists.specs.Lists.{count_if}
use Rattle.lists.proofs.Count.{length-keep}
use Rattle.graph.specs.Graph.{covers}
use Rattle.adjacency.specs.Inner.Portion.{portion}
use Rattle.adjacency.proofs.Accepted.{lookup-within, lookup-list, graph-formed}
use Rattle.adjacency.proofs.Portions.{portion-length}
use Rattle.plan_bounds.proofs.longest.portion_length.Goals as goal

pub neighbours-requires : goal.neighbours-requires
neighbours-requires c = lookup-within _ _ _ _ c.requires

pub returns : goal.returns
unfolding portion
returns c = λ d e.
    c.covered.ensures
    ∙ (ap (count_if (λ (k : ℕ). covers c.args.label (k / 65536))) (c.neighbours.ensures ∙ lookup-list _ _ _ _ c.requires d e)
    ∙ (sym (length-keep (λ (k : ℕ). covers c.args.label (k / 65536)) _) ∙ portion-length _ (graph-formed _ c.requires.accepted) d _ _))
