-- A cell of one byte is that byte's kind (`kind_one`); no other is one (`kind_other`).
use mathlib.Core.Path.{sym, ap, ◌∙◌}
use native.Mathlib.Omega.{arith}
use Rattle.cells.specs.Parts.{kind_of}
use Rattle.cells.specs.Steps.{cell_at}
use Rattle.cells.proofs.Reading.{cell_is, kind_other, kind_one, some_within}
use Rattle.cells.proofs.kind_cell.Goals as goal

pub bounds-bytes-at : goal.bounds-bytes-at
bounds-bytes-at c = some_within c.args.bytes.now c.args.at (omega (arith, c.cell_end-end.ensures))

pub returns-then-end-at-eq1 : goal.returns-then-end-at-eq1
unfolding kind_of
returns-then-end-at-eq1 c =
    cell_is _ _ _ _
    c.cell_end-end.ensures
    (c.kind-number.ensures ∙ sym (ap kind_of (kind_one c.args.bytes.now c.args.at (omega (arith, c.cell_end-end.ensures)))))

pub returns-else-end-at-eq1 : goal.returns-else-end-at-eq1
returns-else-end-at-eq1 c =
    cell_is _ _ _ _ c.cell_end-end.ensures
    (sym (kind_other c.args.bytes.now c.args.at (cell_at c.args.bytes.now c.args.at) (λ z. c.if-end-at-eq1.false (omega (arith, c.cell_end-end.ensures)))))
