-- A row of the register lies within the table, and so has a mark.
use mathlib.Core.Path.{sym, ◌∙◌}
use native.Mathlib.Omega.{arith}
use Rattle.orders.proofs.Seen.{row_below}
use Rattle.orders.proofs.unfit.Goals as goal

pub offset_bounds-seen-row : goal.offset_bounds-seen-row
offset_bounds-seen-row c = omega (arith, row_below c.args.table.now c.args.register c.args.row (sym c.is_row.ensures ∙ c.if-not-is_row.false))

pub bounds-seen-row : goal.bounds-seen-row
bounds-seen-row c = omega (arith, row_below c.args.table.now c.args.register c.args.row (sym c.is_row.ensures ∙ c.if-not-is_row.false))
