use native.Mathlib.Omega.{arith}
use borrow.Author.Tests.{eq-eqb, ne_eqb}
use Rattle.columns.proofs.Gathering.{gather_none, gather_out, gather_in}
use Rattle.columns.proofs.choose.Goals as goal
use Rattle.columns.proofs.choose.Goals.{then-w-at, else-w-at}

pub loop-at-init : goal.loop-at-init
loop-at-init c = gather_none _ _ _ _

pub loop-at-preserved : goal.loop-at-preserved
loop-at-preserved c =
    elim c.if-w-at.branch [
      | then-w-at w ↦
          rw (w.falling-is, w.m-is)
          (gather_in _ _ _ _ _ _ _ _ c.loop-at.invariant _ (omega (arith, c.type_inv.finish c.loop-at.at)) (omega arith) (eq-eqb _ _ w.if-w-at.true) (omega arith))
      | else-w-at w ↦
          rw (w.falling-is, w.m-is)
          (gather_out _ _ _ _ _ _ _ _ c.loop-at.invariant _ (omega (arith, c.type_inv.finish c.loop-at.at)) (omega arith) (ne_eqb _ _ w.if-w-at.false))
    ]
