-- A cell that is no number is read as clock time.
use mathlib.Core.Path.{sym, ◌∙◌}
use mathlib.Core.Logic.{inl, inr}
use native.Mathlib.Omega.{arith}
use Rattle.cells.proofs.Stamps.{cell_kept, cell_clock, cell_within, is_none}
use Rattle.cells.proofs.stamp_cell.Goals as goal

pub returns-then-is_some : goal.returns-then-is_some
returns-then-is_some c =
    cell_kept _ _ _ c.number_cell-cell.ensures
    (elim c.then-is_some.either [ inl h ↦ inl (sym c.is_some.ensures ∙ h) | inr h ↦ inr (sym c.is_some.ensures ∙ h.0, h.1) ])

pub slice_bounds-read-end : goal.slice_bounds-read-end
slice_bounds-read-end c = cell_within _ _ _ c.number_cell-cell.ensures (omega arith)

pub returns : goal.returns
returns c = cell_clock _ _ _ c.number_cell-cell.ensures (is_none _ (sym c.if-is_some.ensures)) _ c.read.ensures.said
