use mathlib.Core.Path.{sym, ◌∙◌}
use native.Mathlib.Omega.{arith}
use Rattle.screening.proofs.Loops.{gather_none, gather_in, gather_out, gather_end}
use Rattle.screening.proofs.gather.Goals as goal
use Rattle.screening.proofs.gather.Goals.{then-bears, else-bears}

pub loop-row-init : goal.loop-row-init
loop-row-init c = gather_none _ _ _

pub loop-row-preserved : goal.loop-row-preserved
loop-row-preserved c =
    elim c.if-bears.branch [
      | then-bears w ↦
          rw (w.rows-is, w.m-is) (gather_in _ _ _ _ _ _ (omega arith) c.loop-row.invariant (sym c.bears.ensures ∙ w.if-bears.true) (omega arith))
      | else-bears w ↦
          rw (w.rows-is, w.m-is) (gather_out _ _ _ _ _ _ (omega arith) c.loop-row.invariant (sym c.bears.ensures ∙ w.if-bears.false))
    ]

pub returns : goal.returns
returns c = gather_end _ _ _ _ _ _ (omega arith) c.requires c.loop-row.invariant
