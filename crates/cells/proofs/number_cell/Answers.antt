-- An empty cell is no number; what its digits are worth is the number of any other.
use mathlib.Core.Path.{refl, ap, sym, ◌∙◌}
use native.Mathlib.Omega.{arith}
use Rattle.cells.specs.declared.Cell.{Cell}
use Rattle.cells.proofs.Reading.{cell_is, number_digits, number_none}
use Rattle.cells.proofs.number_cell.Goals as goal

pub returns-then-at-cell : goal.returns-then-at-cell
returns-then-at-cell c = c.digits-cell.ensures ∙ cell_is _ _ _ _ refl (sym (number_digits c.args.bytes.now c.args.at (omega (arith, ap (λ (x : Cell). x.end) c.digits-cell.ensures, c.if-at-cell.true))))

pub returns : goal.returns
returns c =
    let n = number_none c.args.bytes.now c.args.at (omega (arith, ap (λ (x : Cell). x.end) c.digits-cell.ensures, c.if-at-cell.false)) in
    cell_is _ _ _ _ n.0 n.1
