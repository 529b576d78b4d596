use native.Mathlib.Omega.{arith}
use Rattle.grouping.proofs.Columns.{keyed_more, keyed_end}
use Rattle.grouping.proofs.column.Goals as goal

pub loop-i-preserved : goal.loop-i-preserved
loop-i-preserved c = keyed_more _ _ c.requires _ _ _ (omega arith) c.register_at.ensures c.loop-i.invariant

pub returns : goal.returns
returns c = keyed_end _ _ c.requires _ _ (omega arith) c.loop-i.invariant
