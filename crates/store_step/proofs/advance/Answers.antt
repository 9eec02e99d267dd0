-- `store_step::advance` meets its contract: what was known before the step is known after it. Assumes nothing.
use mathlib.Core.Path.{refl}
use native.Mathlib.Omega.{arith}
use Rattle.store_step.proofs.Stepping.{undecided, holds, begins-inside, walked_step, verdict-outcome}
use Rattle.store_step.proofs.advance.Goals as goal

pub neighbours-list-requires : goal.neighbours-list-requires
neighbours-list-requires c = c.requires.sides.lists _ c.requires.step_from.vertex_in

pub matched-i-requires : goal.matched-i-requires
matched-i-requires c = let s = c.requires.sides in
    let f = c.requires.step_from in record { from_in_bounds = (begins-inside s f c.neighbours-list.ensures refl, f.vertex_in, s.few, f.cursors_fit); base_nonzero = (omega (arith, f.labelled.begins, f.labelled.given), omega (arith, f.labelled.begins, f.labelled.narrow), s.countable) }

pub returns-then-i : goal.returns-then-i
returns-then-i c = record { outcome = undecided; narrow = omega arith }

pub returns-then-i-list : goal.returns-then-i-list
returns-then-i-list c = record {
  outcome = holds
      (walked_step c.requires.sides c.requires.step_from c.neighbours-list.ensures refl c.matched-i.ensures);
  narrow = omega arith;
}

pub returns-then-entry-lt-ENTRY_END : goal.returns-then-entry-lt-ENTRY_END
returns-then-entry-lt-ENTRY_END c = record {
  outcome = holds
      (walked_step c.requires.sides c.requires.step_from c.neighbours-list.ensures refl c.matched-i.ensures);
  narrow = omega arith;
}

pub verdict-requires : goal.verdict-requires
verdict-requires c = (c.requires.sides.others, c.requires.step_from.vertex_in, c.requires.sides.few, omega (arith, c.matched-i.ensures.inside))

pub returns : goal.returns
returns c = record {
  outcome = verdict-outcome c.requires.sides c.requires.step_from c.neighbours-list.ensures
      (walked_step c.requires.sides c.requires.step_from c.neighbours-list.ensures refl c.matched-i.ensures) c.verdict.ensures;
  narrow = omega arith;
}
