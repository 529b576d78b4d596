-- The record is sound, and one of the first 1,024 (`pick_few`).
use mathlib.Core.Path.{sym, ◌∙◌}
use native.Mathlib.Omega.{arith}
use Rattle.selection.proofs.Picking.{pick_few, picks_in, pick_size, pick_in, pick_out}
use Rattle.selection.proofs.Reached.past.Goals as goal
use Rattle.selection.proofs.Reached.past.Goals.{then-bears, else-bears}

pub bears-requires : goal.bears-requires
bears-requires c = picks_in _ _ _ _ _ _ c.requires.picking c.requires.inside _ c.requires.sound c.requires.some

pub bounds-picks-count : goal.bounds-picks-count
bounds-picks-count c = omega (arith, pick_few _ _ _ _ _ _ c.requires.picking c.requires.inside _ c.requires.sound c.requires.some)

pub overflow_add-result-2 : goal.overflow_add-result-2
overflow_add-result-2 c = omega (arith, pick_size _ _ _ _ _ _ c.requires.picking c.requires.inside _ c.requires.sound c.requires.some)

pub returns-clause-picking : goal.returns-clause-picking
returns-clause-picking c =
    elim c.if-bears.branch [
      | then-bears w ↦
          rw (w.picks-is, w.count-is)
          (pick_in _ _ _ _ _ _ c.requires.picking c.requires.inside _ c.requires.sound c.requires.some (sym c.bears.ensures ∙ w.if-bears.true))
      | else-bears w ↦
          rw (w.picks-is, w.count-is)
          (pick_out _ _ _ _ _ _ c.requires.picking c.requires.inside _ c.requires.sound c.requires.some (sym c.bears.ensures ∙ w.if-bears.false))
    ]
