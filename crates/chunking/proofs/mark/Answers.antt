use native.Mathlib.Omega.{arith}
use Rattle.chunking.proofs.Marking.{mark_none, mark_on}
use Rattle.chunking.proofs.mark.Goals as goal

pub loop-w-init : goal.loop-w-init
loop-w-init c = mark_none _ _

pub loop-w-preserved : goal.loop-w-preserved
loop-w-preserved c = mark_on _ _ _ _ c.loop-w.invariant (omega arith) (omega (arith, c.requires c.loop-w.w-index (omega arith), c.loop-w.invariant.long))
