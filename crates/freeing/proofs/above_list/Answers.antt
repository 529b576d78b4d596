use native.Mathlib.Omega.{arith}
use Rattle.freeing.proofs.Topping.{highest, top_on}
use Rattle.freeing.proofs.above_list.Goals as goal

pub loop-w-preserved : goal.loop-w-preserved
loop-w-preserved c = top_on _ _ _ _ _ c.loop-w.invariant (omega arith) _ (highest _ _ _ _ _ c.max.ensures c.max-top.ensures)
