-- Each turn puts one position at the place of its row (`Filling`).
use Rattle.ranking.proofs.ByRow.{Filling}
use Rattle.ranking.proofs.place.Given as goal

abbrev pub invariant-loop-i : goal.invariant-loop-i
invariant-loop-i l = Filling l.rows l.i l.list
