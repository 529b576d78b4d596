-- The loop adds each read to the chain of its write (`Chained`).
use Rattle.columns.proofs.Chained.{Chained}
use Rattle.columns.proofs.link.Given as goal

abbrev pub invariant-loop-at : goal.invariant-loop-at
invariant-loop-at l = Chained l.writer l.last l.prev l.at
