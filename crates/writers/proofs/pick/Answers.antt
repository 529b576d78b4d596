use native.Mathlib.Omega.{arith}
use Rattle.lists.proofs.Filled.{filled_more}
use Rattle.writers.proofs.pick.Goals as goal

pub loop-i-preserved : goal.loop-i-preserved
loop-i-preserved c = filled_more _ _ _ (omega arith) _ _ _ (omega arith) (omega (arith, c.requires.marked.all c.loop-i.i (omega arith))) c.loop-i.invariant
