use native.Mathlib.Omega.{arith}
use Rattle.lbt.proofs.Running.{clear_on, clear_end}
use Rattle.lbt.proofs.clear.Goals as goal

pub loop-j-preserved : goal.loop-j-preserved
loop-j-preserved c = clear_on _ _ _ _ (omega arith) c.loop-j.invariant

pub returns : goal.returns
returns c = clear_end _ _ _ _ (omega arith) c.loop-j.invariant
