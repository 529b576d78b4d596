use mathlib.Core.Path.{sym, ◌∙◌}
use native.Mathlib.Omega.{arith}
use Rattle.logs.proofs.Walking.{walk_none, walk_on, walk_above, walk_more, walk_end, decimal_read, decimal_worth, decimal_sound}
use Rattle.logs.proofs.walk.Goals as goal

pub loop-x-init : goal.loop-x-init
loop-x-init c = walk_none _ _ _ _ _ (omega arith) c.requires

pub returns-then-not-comma_at : goal.returns-then-not-comma_at
returns-then-not-comma_at c =
    walk_end c.args.bytes.now c.args.columns _ _ _ _ _ c.loop-x.invariant _ (decimal_read _ _ _ _ _ c.decimal_cell-cell.ensures _ c.in-Some.is)
    _ (decimal_worth _ _ _ _ _ c.decimal_cell-cell.ensures _ c.in-Some.is) _ c.with_cell-row.ensures _ (decimal_sound _ _ _ _ _ c.decimal_cell-cell.ensures _ c.in-Some.is)
    (sym c.comma_at.ensures ∙ c.if-not-comma_at.true)

pub overflow_add-from : goal.overflow_add-from
overflow_add-from c =
    omega (
      arith,
      walk_on c.args.bytes.now c.args.columns _ _ _ _ _ c.loop-x.invariant _ (decimal_read _ _ _ _ _ c.decimal_cell-cell.ensures _ c.in-Some.is)
          _ (decimal_worth _ _ _ _ _ c.decimal_cell-cell.ensures _ c.in-Some.is) _ c.with_cell-row.ensures _ (decimal_sound _ _ _ _ _ c.decimal_cell-cell.ensures _ c.in-Some.is)
          (sym c.comma_at.ensures ∙ c.if-not-comma_at.false),
    )

pub loop-x-smaller : goal.loop-x-smaller
loop-x-smaller c =
    omega (
      arith,
      c.loop-x.invariant.within,
      walk_above c.args.bytes.now c.args.columns _ _ _ _ _ c.loop-x.invariant _ (decimal_read _ _ _ _ _ c.decimal_cell-cell.ensures _ c.in-Some.is)
          _ (decimal_worth _ _ _ _ _ c.decimal_cell-cell.ensures _ c.in-Some.is) _ c.with_cell-row.ensures _ (decimal_sound _ _ _ _ _ c.decimal_cell-cell.ensures _ c.in-Some.is),
    )

pub loop-x-preserved : goal.loop-x-preserved
loop-x-preserved c =
    walk_more c.args.bytes.now c.args.columns _ _ _ _ _ c.loop-x.invariant _ (decimal_read _ _ _ _ _ c.decimal_cell-cell.ensures _ c.in-Some.is)
    _ (decimal_worth _ _ _ _ _ c.decimal_cell-cell.ensures _ c.in-Some.is) _ c.with_cell-row.ensures _ (decimal_sound _ _ _ _ _ c.decimal_cell-cell.ensures _ c.in-Some.is)
    (sym c.comma_at.ensures ∙ c.if-not-comma_at.false)
