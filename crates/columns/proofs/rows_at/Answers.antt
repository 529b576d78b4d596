use native.Mathlib.Omega.{arith}
use Rattle.lists.proofs.Filled.{filled_more}
use Rattle.columns.proofs.rows_at.Goals as goal

pub loop-i-preserved : goal.loop-i-preserved
loop-i-preserved c = filled_more _ _ _ (omega arith) _ _ _ (omega arith) c.key.ensures c.loop-i.invariant
