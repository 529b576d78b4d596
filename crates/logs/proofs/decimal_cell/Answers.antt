-- A kind, a number, or a cell that is skipped.
use mathlib.Core.Path.{sym}
use borrow.Author.Tests.{eq-eqb, ne_eqb}
use Rattle.logs.proofs.Decimals.{kind_says, number_says, skipped_says}
use Rattle.logs.proofs.decimal_cell.Goals as goal

pub returns-then-k-columns : goal.returns-then-k-columns
returns-then-k-columns c = kind_says _ _ _ _ _ (eq-eqb _ _ c.if-k-columns.true) c.kind_cell.ensures

pub returns-then-holds_number : goal.returns-then-holds_number
returns-then-holds_number c =
    number_says _ _ _ _ _ (ne_eqb _ _ c.if-k-columns.false) (sym c.if-holds_number.ensures) c.number_cell.ensures

pub returns-else-holds_number : goal.returns-else-holds_number
returns-else-holds_number c =
    skipped_says _ _ _ _ _ (ne_eqb _ _ c.if-k-columns.false) (sym c.if-holds_number.ensures) c.skipped_cell.ensures
