use mathlib.Core.Path.{sym, ◌∙◌}
use native.Mathlib.Omega.{arith}
use Rattle.logs.proofs.Walking.{walk_none, walk_on, walk_above, walk_more, walk_end, amount_or}
use Rattle.logs.proofs.walk_on.Goals as goal

pub loop-columns-init : goal.loop-columns-init
loop-columns-init c = walk_none _ _ _ _ _ c.requires.0 c.requires.1

pub returns-then-not-comma_at : goal.returns-then-not-comma_at
returns-then-not-comma_at c =
    walk_end c.args.bytes.now c.args.columns _ _ _ _ _ c.loop-columns.invariant _ c.read_cell-cell.ensures
    _ (c.unwrap_or.ensures ∙ amount_or _) _ c.with_cell-row.ensures _ c.fault_at-fault.ensures
    (sym c.comma_at.ensures ∙ c.if-not-comma_at.true)

pub overflow_add-from : goal.overflow_add-from
overflow_add-from c =
    omega (
      arith,
      walk_on c.args.bytes.now c.args.columns _ _ _ _ _ c.loop-columns.invariant _ c.read_cell-cell.ensures
          _ (c.unwrap_or.ensures ∙ amount_or _) _ c.with_cell-row.ensures _ c.fault_at-fault.ensures (sym c.comma_at.ensures ∙ c.if-not-comma_at.false),
    )

pub loop-columns-smaller : goal.loop-columns-smaller
loop-columns-smaller c =
    omega (
      arith,
      c.loop-columns.invariant.within,
      walk_above c.args.bytes.now c.args.columns _ _ _ _ _ c.loop-columns.invariant _ c.read_cell-cell.ensures
          _ (c.unwrap_or.ensures ∙ amount_or _) _ c.with_cell-row.ensures _ c.fault_at-fault.ensures,
    )

pub loop-columns-preserved : goal.loop-columns-preserved
loop-columns-preserved c =
    walk_more c.args.bytes.now c.args.columns _ _ _ _ _ c.loop-columns.invariant _ c.read_cell-cell.ensures
    _ (c.unwrap_or.ensures ∙ amount_or _) _ c.with_cell-row.ensures _ c.fault_at-fault.ensures
    (sym c.comma_at.ensures ∙ c.if-not-comma_at.false)
