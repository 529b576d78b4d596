use native.Mathlib.Omega.{arith}
use Rattle.grouping.proofs.Rows.{running_more, rows_long, rows_inside}
use Rattle.grouping.proofs.run.Goals as goal

pub register_at-requires : goal.register_at-requires
register_at-requires c = rows_inside _ _ c.requires.grouped_value _ (omega arith)

pub bounds-list-m : goal.bounds-list-m
bounds-list-m c = omega (arith, c.loop-m.invariant.long, rows_long _ _ c.requires.grouped_value)

pub loop-m-preserved : goal.loop-m-preserved
loop-m-preserved c = running_more _ _ _ _ _ _ _ (omega arith) (omega (arith, c.loop-m.invariant.long, rows_long _ _ c.requires.grouped_value)) (omega (arith, c.register_at.ensures, c.if-register_at-register.false)) c.loop-m.invariant
