use native.Mathlib.Omega.{arith}
use Rattle.ranking.proofs.ByRow.{filled}
use Rattle.ranking.proofs.place.Goals as goal

pub returns : goal.returns
returns c = λ _. filled _ c.requires.rows_differ _ _ c.loop-i.invariant (omega arith)
