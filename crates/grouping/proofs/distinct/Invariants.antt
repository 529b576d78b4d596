-- What is kept so far, then what follows the last number kept, is constant (`Kept`).
use Rattle.grouping.proofs.Runs.{Kept}
use Rattle.grouping.proofs.distinct.Given as goal

abbrev pub invariant-loop-i : goal.invariant-loop-i
invariant-loop-i l = Kept l.initial.list l.list l.last l.m l.i
