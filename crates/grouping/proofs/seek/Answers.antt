use native.Mathlib.Omega.{arith}
use Rattle.grouping.proofs.Rows.{seeking_behind, seeking_before, rows_inside}
use Rattle.grouping.proofs.seek.Goals as goal

pub register_at-requires : goal.register_at-requires
register_at-requires c = rows_inside _ _ c.requires _ (omega (arith, c.loop-low.invariant.within))

pub loop-low-preserved-then-register_at-register : goal.loop-low-preserved-then-register_at-register
loop-low-preserved-then-register_at-register c = seeking_behind _ _ c.requires _ _ _ _ c.loop-low.invariant (omega arith) (omega arith) (omega (arith, c.register_at.ensures, c.if-register_at-register.true))

pub loop-low-preserved : goal.loop-low-preserved
loop-low-preserved c = seeking_before _ _ c.requires _ _ _ _ c.loop-low.invariant (omega arith) (omega arith) (omega (arith, c.register_at.ensures, c.if-register_at-register.false))
